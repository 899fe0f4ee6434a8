-- What contracts see of a session, and what its type keeps.
use Rattle.std.specs.Prelude.{◌≡◌, ℕ, ◌<◌, List, [], ◌∷◌, ◌++◌, map, length, false, All}
use Rattle.sp_theory.specs.Points.{count_of}
use Rattle.sp_theory.specs.Values.{Edition, Member, greatest_member}
use Rattle.sp_theory.specs.Logs.{Entry, told, act, observe, unseen, closing, Session, opening_session, seen_by, IsLog, session_after, Log}
use Rattle.sp_model.specs.declared.parts.Parts.{Parts}
use Rattle.sp_model.specs.Problem.{sizes_of, problem}
use Rattle.sp_value.specs.Tasks.{TaskParts, IsTask}
use Rattle.sp_value.specs.Editions.{EditionParts, IsEdition, members_in}

-- a session as its name, its task, its log so far, and the edition of each answer
pub record SessionParts : Type 0 where
  pub name : List ℕ
  pub task : TaskParts
  pub entries : List Entry
  pub editions : List EditionParts

-- the session that the log leads to: its belief, the newest edition that it answered on or was told of, and the action that it observes after
abbrev pub session_of : SessionParts → Session
session_of s = session_after (problem s.task.model) (opening_session (problem s.task.model)) s.entries

-- editions with their numbers
abbrev pub shelf_of : List EditionParts → List (ℕ × Edition)
shelf_of es = map (λ e. (e.number, members_in e)) es

-- the numbers of the editions that were answered on, in order
abbrev pub answered_numbers : List Entry → List ℕ
answered_numbers [] = []
answered_numbers (act e id action ∷ xs) = e ∷ answered_numbers xs
answered_numbers (told e ∷ xs) = answered_numbers xs
answered_numbers (observe o ∷ xs) = answered_numbers xs
answered_numbers (unseen o ∷ xs) = answered_numbers xs
answered_numbers (closing e id action ∷ xs) = answered_numbers xs

-- an action or a joint observation of the model
abbrev pub IsEntryOf : Parts → Entry → Type 0
IsEntryOf p (told e) = Unit {0}
IsEntryOf p (act e id action) = action < length p.actions
IsEntryOf p (observe o) = o < count_of (sizes_of p.sights)
IsEntryOf p (unseen o) = o < count_of (sizes_of p.sights)
IsEntryOf p (closing e id action) = action < length p.actions

-- an edition of the task
pub record IsEditionOf (t : TaskParts) (e : EditionParts) : Type 0 where
  pub edition : IsEdition e
  pub task : e.task ≡ t

-- what the type of sessions keeps: each entry may come after those before it where the editions that were answered on are all there are, and none is the last
pub record IsSession (s : SessionParts) : Type 0 where
  pub task : IsTask s.task
  pub editions : All (IsEditionOf s.task) s.editions
  pub log : IsLog (problem s.task.model) (seen_by (shelf_of s.editions)) (opening_session (problem s.task.model)) s.entries
  pub going : (session_of s).closed ≡ false
  pub answered : answered_numbers s.entries ≡ map (λ e. e.number) s.editions
  pub known : All (IsEntryOf s.task.model) s.entries

-- a session before any command
abbrev pub first_parts : List ℕ → TaskParts → SessionParts
first_parts name t = record { name = name; task = t; entries = []; editions = [] }

-- ---- entries
-- the greatest member of an edition at the session's belief
abbrev pub answering_member : SessionParts → EditionParts → Member
answering_member s e = greatest_member (problem s.task.model) (members_in e) (session_of s).weights

-- the session after an answer on an edition
abbrev pub with_answer : SessionParts → EditionParts → SessionParts
with_answer s e = record s {
  entries = s.entries ++ act e.number (answering_member s e).id (answering_member s e).action ∷ [];
  editions = s.editions ++ e ∷ [];
}

-- after it was told of an edition
abbrev pub with_told : SessionParts → ℕ → SessionParts
with_told s number = record s { entries = s.entries ++ told number ∷ [] }

-- after it took an observation
abbrev pub with_observed : SessionParts → ℕ → SessionParts
with_observed s o = record s { entries = s.entries ++ observe o ∷ [] }

-- after an observation that its belief rules out
abbrev pub with_unseen : SessionParts → ℕ → SessionParts
with_unseen s o = record s { entries = s.entries ++ unseen o ∷ [] }

-- its log with the closing answer on an edition
abbrev pub closed_log : SessionParts → EditionParts → Log
closed_log s e = record { name = s.name; entries = s.entries ++ closing e.number (answering_member s e).id (answering_member s e).action ∷ [] }
