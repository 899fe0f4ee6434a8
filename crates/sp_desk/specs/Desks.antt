-- What contracts see of a desk, and what its type keeps.
use Rattle.std.specs.Prelude.{◌≡◌, ◌≢◌, ℕ, ◌<◌, ◌&&◌, Bool, List, [], ◌∷◌, ◌++◌, map, set, length, slice_get, Some, true, All, AllPairs}
use Rattle.std.specs.List.{list_any}
use Rattle.std.specs.Str.{bytes_eq}
use Rattle.sp_theory.specs.Logs as theory
use Rattle.sp_theory.specs.SessionLaws.{AllTold}
use Rattle.sp_value.specs.Tasks.{TaskParts}
use Rattle.sp_value.specs.Editions.{EditionParts}
use Rattle.sp_publish.specs.Published.{PublishedList, IsList, IsOfTask}
use Rattle.sp_session.specs.Sessions.{SessionParts, IsSession, session_of, first_parts}
use Rattle.sp_desk.specs.declared.seats.Seat.{Seat}

-- a desk as its task, what it knows of the published list, and its sessions in order of entering
pub record DeskParts : Type 0 where
  pub task : TaskParts
  pub known : PublishedList
  pub seats : List Seat

abbrev pub names_in : List Seat → List (List ℕ)
names_in seats = map (λ s. s.session.name) seats

-- whether it is the open session of that name
abbrev pub is_open_as : List ℕ → Seat → Bool
is_open_as name s = s.is_open && bytes_eq name s.session.name

-- whether a session of that name is open
abbrev pub is_open_in : List ℕ → List Seat → Bool
is_open_in name seats = list_any (is_open_as name) seats

-- the open session of a name stands at a place
pub record IsOpenAt (name : List ℕ) (seats : List Seat) (place : ℕ) (seat : Seat) : Type 0 where
  pub there : slice_get seats place ≡ Some seat
  pub is_open : is_open_as name seat ≡ true

abbrev pub HasOpenAt : List ℕ → List Seat → ℕ → Type 0
HasOpenAt name seats place = (seat : Seat) × IsOpenAt name seats place seat

-- editions of which those below a number may be told
abbrev pub told_below : ℕ → theory.Published
told_below n = record { has = λ e edition. ⊥; may_tell = λ e. e < n; is_last = λ e. ⊥ }

-- a session of the task that answered on editions of the list, at their numbers, and was told of no others
pub record IsSeatIn (t : TaskParts) (editions : List EditionParts) (s : SessionParts) : Type 0 where
  pub session : IsSession s
  pub task : s.task ≡ t
  pub answered : All (λ e. slice_get editions e.number ≡ Some e) s.editions
  pub told : AllTold (told_below (length editions)) s.entries
  pub newest : (session_of s).newest < length editions

-- what the type of desks keeps
pub record IsDesk (d : DeskParts) : Type 0 where
  pub list : IsList d.known
  pub task : IsOfTask d.known d.task
  pub seats : All (λ s. IsSeatIn d.task d.known.editions s.session) d.seats
  pub names : AllPairs (λ x y. x ≢ y) (names_in d.seats)

-- a desk before any session
abbrev pub first_desk : TaskParts → PublishedList → DeskParts
first_desk t known = record { task = t; known = known; seats = [] }

-- with one session more
abbrev pub with_session : DeskParts → List ℕ → DeskParts
with_session d name = record d { seats = d.seats ++ record { session = first_parts name d.task; is_open = true } ∷ [] }

-- with that session at a place
abbrev pub seats_with : List Seat → ℕ → Seat → SessionParts → List Seat
seats_with seats place seat session = set seats place (record seat { session = session })
