-- What the calls of a desk answer.
use Rattle.std.specs.Prelude.{◌≡◌, ℕ, ◌+◌, ◌-◌, ◌≤◌, max, true, false, List, length, set, Some}
use Rattle.sp_publish.specs.Published.{PublishedList, ListGoesOn, newest_in}
use Rattle.sp_value.specs.Editions.{EditionParts}
use Rattle.sp_session.specs.declared.answers.Answer.{Answer}
use Rattle.sp_session.specs.declared.answers.ObserveError.{ObserveError}
use Rattle.sp_session.specs.declared.answers.ObserveError.TheVariants as session_errors
use Rattle.sp_session.specs.Sessions.{SessionParts, session_of, with_told}
use Rattle.sp_session.specs.Answering.{IsAnswered, HasObserved, RefusesObservation}
use Rattle.sp_desk.specs.declared.seats.Seat.{Seat}
use Rattle.sp_desk.specs.declared.errors.AskError.{AskError}
use Rattle.sp_desk.specs.declared.errors.AskError.TheVariants as ask
use Rattle.sp_desk.specs.declared.errors.DeskError.{DeskError}
use Rattle.sp_desk.specs.declared.errors.DeskError.TheVariants.{NotOpen, NoAction, Unseen, NoMemory}
use Rattle.sp_desk.specs.Desks.{DeskParts, IsOpenAt, is_open_in, seats_with}

-- the desk knows more of its list, or as much, and its sessions stay as they were
pub record KnowsMore (d after : DeskParts) : Type 0 where
  pub known : ListGoesOn d.known after.known
  pub task : after.task ≡ d.task
  pub seats : after.seats ≡ d.seats

-- the open session of that name answered on the newest edition that the desk knows of, which is no older than the notice's and than each that the session saw
pub record HasAnswered (d : DeskParts) (name : List ℕ) (told : PublishedList) (answer : Answer) (after : DeskParts) : Type 0 where
  pub place : ℕ
  pub seat : Seat
  pub session : SessionParts
  pub edition : EditionParts
  pub at : IsOpenAt name d.seats place seat
  pub answered : IsAnswered seat.session edition answer session
  pub newest : newest_in after.known ≡ Some edition
  pub no_older : length told.editions ≤ edition.number + 1
  pub saw : (session_of seat.session).newest ≤ edition.number
  pub heard : ListGoesOn told after.known
  pub known : ListGoesOn d.known after.known
  pub task : after.task ≡ d.task
  pub seats : after.seats ≡ seats_with d.seats place seat session

-- the open session of that name was told of the notice's edition, or of the newest one that it had seen where that is newer
pub record HasSynced (d : DeskParts) (name : List ℕ) (told : PublishedList) (number : ℕ) (after : DeskParts) : Type 0 where
  pub place : ℕ
  pub seat : Seat
  pub at : IsOpenAt name d.seats place seat
  pub which : number ≡ max (session_of seat.session).newest (length told.editions - 1)
  pub heard : ListGoesOn told after.known
  pub known : ListGoesOn d.known after.known
  pub task : after.task ≡ d.task
  pub seats : after.seats ≡ seats_with d.seats place seat (with_told seat.session number)

-- no session of that name is open, and nothing has changed; or one is, and memory is wanted
abbrev pub AsksInVain : DeskParts → List ℕ → AskError → DeskParts → Type 0
AsksInVain d name ask.NotOpen after = (is_open_in name d.seats ≡ false) × (after ≡ d)
AsksInVain d name ask.NoMemory after = (is_open_in name d.seats ≡ true) × KnowsMore d after

-- the open session of that name took the observation
pub record HasTaken (d : DeskParts) (name : List ℕ) (o : ℕ) (after : DeskParts) : Type 0 where
  pub place : ℕ
  pub seat : Seat
  pub session : SessionParts
  pub at : IsOpenAt name d.seats place seat
  pub observed : HasObserved seat.session o session
  pub changed : after ≡ record d { seats = seats_with d.seats place seat session }

-- or refused it for that reason
pub record HasRefused (d : DeskParts) (name : List ℕ) (o : ℕ) (error : ObserveError) (after : DeskParts) : Type 0 where
  pub place : ℕ
  pub seat : Seat
  pub session : SessionParts
  pub at : IsOpenAt name d.seats place seat
  pub refused : RefusesObservation seat.session o error session
  pub changed : after ≡ record d { seats = seats_with d.seats place seat session }

-- no session of that name is open, or the session refuses so; want of memory changes nothing, and one is open then
abbrev pub RefusesAt : DeskParts → List ℕ → ℕ → DeskError → DeskParts → Type 0
RefusesAt d name o NotOpen after = (is_open_in name d.seats ≡ false) × (after ≡ d)
RefusesAt d name o NoAction after = HasRefused d name o session_errors.NoAction after
RefusesAt d name o Unseen after = HasRefused d name o session_errors.Unseen after
RefusesAt d name o NoMemory after = (is_open_in name d.seats ≡ true) × (after ≡ d)

-- the open session of that name takes no further command
pub record HasClosed (d : DeskParts) (name : List ℕ) (after : DeskParts) : Type 0 where
  pub place : ℕ
  pub seat : Seat
  pub at : IsOpenAt name d.seats place seat
  pub changed : after ≡ record d { seats = set d.seats place (record seat { is_open = false }) }
