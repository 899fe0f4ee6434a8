-- What a command of a script brings at a desk.
use Rattle.std.specs.Prelude.{◌≡◌, ◌≢◌, ◌⊎◌, ℕ, ◌<◌, true, List, All, IsSome}
use Rattle.sp_theory.specs.Points.{count_of}
use Rattle.sp_model.specs.Problem.{sizes_of}
use Rattle.sp_publish.specs.Published.{PublishedList}
use Rattle.sp_session.specs.declared.answers.Answer.{Answer}
use Rattle.sp_session.specs.declared.answers.ObserveError.TheVariants.{Unseen}
use Rattle.sp_session.specs.Sessions.{session_of}
use Rattle.sp_script.specs.declared.command.Command.{Command}
use Rattle.sp_script.specs.declared.command.Command.TheVariants.{Open, Act, Observe, Sync, Close}
use Rattle.sp_desk.specs.declared.seats.Seat.{Seat}
use Rattle.sp_desk.specs.Desks.{DeskParts, IsOpenAt, names_in, is_open_in, with_session}
use Rattle.sp_desk.specs.Asked.{HasAnswered, HasSynced, HasClosed, HasTaken, HasRefused}

-- a command that the desk may serve: an opening of a new name, or a command of an open session, and where it observes after an answer
abbrev pub MayServe : DeskParts → Command → Type 0
MayServe d (Open name line) = All (λ other. other ≢ name) (names_in d.seats)
MayServe d (Act name line) = is_open_in name d.seats ≡ true
MayServe d (Observe name line o) =
    (is_open_in name d.seats ≡ true) × (o < count_of (sizes_of d.task.model.sights))
    × ((place : ℕ) (seat : Seat) → IsOpenAt name d.seats place seat → IsSome (session_of seat.session).acted)
MayServe d (Sync name line) = is_open_in name d.seats ≡ true
MayServe d (Close name line) = is_open_in name d.seats ≡ true

-- the open session of that name took the observation, or noted that its belief rules it out
abbrev pub HasNoted : DeskParts → List ℕ → ℕ → DeskParts → Type 0
HasNoted d name o after = HasTaken d name o after ⊎ HasRefused d name o Unseen after

-- the command was served
abbrev pub HasServed : DeskParts → Command → PublishedList → DeskParts → Type 0
HasServed d (Open name line) told after = after ≡ with_session d name
HasServed d (Act name line) told after = (answer : Answer) × HasAnswered d name told answer after
HasServed d (Observe name line o) told after = HasNoted d name o after
HasServed d (Sync name line) told after = (number : ℕ) × HasSynced d name told number after
HasServed d (Close name line) told after = HasClosed d name after
