-- Faults of logs: the first entry that may not come next, and the clause that it breaks.
use Rattle.std.proofs.Common.{◌≡◌, ◌≢◌, ◌⊎◌, ℕ, suc, ◌<◌, ◌≤◌, List, [], ◌∷◌, length, get_or, take, drop, true, false}
use Rattle.std.specs.Prelude.{IsSome, IsNone}
use Rattle.sp_theory.specs.Points.{count_of}
use Rattle.sp_theory.specs.Model.{Model}
use Rattle.sp_theory.specs.Values.{Edition, Member, greatest_member}
use Rattle.sp_theory.specs.Logs.{Entry, told, act, observe, unseen, closing, Session, opening_session, all_of, weights_after_observation, IsLog, session_after}
use Rattle.sp_faults.specs.Clauses as clause
use Rattle.sp_faults.specs.Clauses.{Clause, IsFirstClause, entry_clauses}

-- the greatest member of the edition of that number at the session's weights
abbrev pub answer_of : Model → List Edition → Session → ℕ → Member
answer_of m editions s e = greatest_member m (get_or editions e []) s.weights

-- an entry breaks a clause after a session, in a run with these editions: the rows of the table of clauses, each by itself
unfoldable pub EntryBreaks : Model → List Edition → Session → Entry → Clause → Type 0
EntryBreaks m editions s (closing e id action) clause.closing = (s.closed ≡ true) ⊎ (suc e ≢ length editions)
EntryBreaks m editions s (told e) clause.closing = s.closed ≡ true
EntryBreaks m editions s (act e id action) clause.closing = s.closed ≡ true
EntryBreaks m editions s (observe o) clause.closing = s.closed ≡ true
EntryBreaks m editions s (unseen o) clause.closing = s.closed ≡ true
EntryBreaks m editions s (told e) clause.edition = length editions ≤ e
EntryBreaks m editions s (act e id action) clause.edition = length editions ≤ e
EntryBreaks m editions s (closing e id action) clause.edition = length editions ≤ e
EntryBreaks m editions s (told e) clause.older = e < s.newest
EntryBreaks m editions s (act e id action) clause.older = e < s.newest
EntryBreaks m editions s (closing e id action) clause.older = e < s.newest
EntryBreaks m editions s (act e id action) clause.greatest = id ≢ (answer_of m editions s e).id
EntryBreaks m editions s (closing e id action) clause.greatest = id ≢ (answer_of m editions s e).id
EntryBreaks m editions s (act e id action) clause.action = action ≢ (answer_of m editions s e).action
EntryBreaks m editions s (closing e id action) clause.action = action ≢ (answer_of m editions s e).action
EntryBreaks m editions s (observe o) clause.belief = IsNone (weights_after_observation m s o)
EntryBreaks m editions s (unseen o) clause.belief = IsNone s.acted ⊎ IsSome (weights_after_observation m s o)
EntryBreaks m editions s x c = ⊥

-- what is wrong after a session with the entries that follow: the first of them breaks a clause and none before it in order, or there is none, and the log isn't closed
abbrev pub IsEntryFault : Model → List Edition → Session → List Entry → Clause → Type 0
IsEntryFault m editions s [] c = (s.closed ≡ false) × (c ≡ clause.closing)
IsEntryFault m editions s (x ∷ xs) c = IsFirstClause (EntryBreaks m editions s x) entry_clauses c

-- the first i entries may come one after another, and what follows them is wrong by that clause
pub record IsWrongLog (m : Model) (editions : List Edition) (xs : List Entry) (i : ℕ) (c : Clause) : Type 0 where
  pub within : i ≤ length xs
  pub log : IsLog m (all_of editions) (opening_session m) (take i xs)
  pub fault : IsEntryFault m editions (session_after m (opening_session m) (take i xs)) (drop i xs) c

-- each observation is of the model, as the form of a plan file demands
abbrev pub AreSeen : Model → List Entry → Type 0
AreSeen m [] = Unit {0}
AreSeen m (told e ∷ xs) = AreSeen m xs
AreSeen m (act e id action ∷ xs) = AreSeen m xs
AreSeen m (observe o ∷ xs) = (o < count_of m.sight_sizes) × AreSeen m xs
AreSeen m (unseen o ∷ xs) = (o < count_of m.sight_sizes) × AreSeen m xs
AreSeen m (closing e id action ∷ xs) = AreSeen m xs
