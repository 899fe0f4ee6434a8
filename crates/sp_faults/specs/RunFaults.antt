-- Faults of runs: the first event that may not come next, and the clause that it breaks.
use Rattle.std.proofs.Common.{◌≡◌, ◌≢◌, ℕ, ◌<◌, ◌≤◌, List, [], ◌∷◌, length, get_or, take, drop, true, false}
use Rattle.sp_theory.specs.Backup.{IsBackup}
use Rattle.sp_theory.specs.Book.{Task, Book, Event, settle, publish, prune, end, opening, editions, AllImproved, CanPrune}
use Rattle.sp_theory.specs.Runs.{IsHistory, replay}
use Rattle.sp_faults.specs.Clauses as clause
use Rattle.sp_faults.specs.Clauses.{Clause, IsFirstClause, event_clauses}

-- an event breaks a clause after a book: the rows of the table of clauses, each by itself
unfoldable pub EventBreaks : Task → Book → Event → Clause → Type 0
EventBreaks t b x clause.after_end = b.done ≡ true
EventBreaks t b (settle k e a links) clause.edition = length (editions b) ≤ e
EventBreaks t b (settle k e a links) clause.backup = ¬ IsBackup t.model (get_or (editions b) e b.latest) (t.samples k) a links
EventBreaks t b publish clause.publish = ¬ AllImproved t b
EventBreaks t b (prune pairs) clause.prune = ¬ ((0 < length pairs) × CanPrune t.model b.latest pairs)
EventBreaks t b end clause.end = b.stages_left ≢ 0
EventBreaks t b x c = ⊥

-- what is wrong after a book with the events that follow: the first of them breaks a clause and none before it in order, or there is none, and the run is not over
abbrev pub IsEventFault : Task → Book → List Event → Clause → Type 0
IsEventFault t b [] c = (b.done ≡ false) × (c ≡ clause.unfinished)
IsEventFault t b (x ∷ xs) c = IsFirstClause (EventBreaks t b x) event_clauses c

-- the first i events may come one after another, and what follows them is wrong by that clause
pub record IsWrongRun (t : Task) (es : List Event) (i : ℕ) (c : Clause) : Type 0 where
  pub within : i ≤ length es
  pub history : IsHistory t (opening t) (take i es)
  pub fault : IsEventFault t (replay t (opening t) (take i es)) (drop i es) c

-- each settle is at a sampled belief, as the form of a plan file demands
abbrev pub AreSettlesSampled : Task → List Event → Type 0
AreSettlesSampled t [] = Unit {0}
AreSettlesSampled t (settle k e a links ∷ xs) = (k < t.beliefs) × AreSettlesSampled t xs
AreSettlesSampled t (publish ∷ xs) = AreSettlesSampled t xs
AreSettlesSampled t (prune pairs ∷ xs) = AreSettlesSampled t xs
AreSettlesSampled t (end ∷ xs) = AreSettlesSampled t xs
