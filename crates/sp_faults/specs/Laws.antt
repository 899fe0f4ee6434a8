-- The laws of faults, as the functions of this crate state them.
use Rattle.std.proofs.Common.{◌≡◌, ℕ, ◌<◌, List, true}
use Rattle.sp_theory.specs.Model.{Model, IsLawful}
use Rattle.sp_theory.specs.Values.{Edition}
use Rattle.sp_theory.specs.Agreement.{EditionsAgree, AllAgree}
use Rattle.sp_theory.specs.Book.{Task, Event, opening, CanPrune}
use Rattle.sp_theory.specs.Runs.{IsLegal, replay}
use Rattle.sp_theory.specs.Laws.{IsSound, AllClose}
use Rattle.sp_theory.specs.Logs.{Entry, IsLegalLog}
use Rattle.sp_faults.specs.Clauses.{Clause}
use Rattle.sp_faults.specs.RunFaults.{AreSettlesSampled, IsWrongRun}
use Rattle.sp_faults.specs.LogFaults.{AreSeen, IsWrongLog}
use Rattle.sp_faults.specs.PruneTests.{can_prune}

-- ---- runs
-- a wrong run isn't legal
abbrev pub WrongRunsAreNotLegal : Type 0
WrongRunsAreNotLegal = (t : Task) (es : List Event) (i : ℕ) (c : Clause) → IsWrongRun t es i c → ¬ IsLegal t es

-- and it is wrong at one event by one clause
abbrev pub RunsAreWrongOnce : Type 0
RunsAreWrongOnce = (t : Task) (es : List Event) (i j : ℕ) (c d : Clause) → IsWrongRun t es i c → IsWrongRun t es j d → (i ≡ j) × (c ≡ d)

-- and no run at sampled beliefs is neither legal nor wrong
abbrev pub NoRunIsNeither : Type 0
NoRunIsNeither = (t : Task) (es : List Event) → AreSettlesSampled t es → ¬ IsLegal t es → ¬ ((i : ℕ) (c : Clause) → ¬ IsWrongRun t es i c)

-- in a legal run, prompt or not, vectors are lower bounds, values at sampled beliefs never fall, and backups are close to the exact ones
abbrev pub LegalRunsAreSound : Type 0
LegalRunsAreSound = (t : Task) → IsLawful t.model → 0 < t.beliefs → (es : List Event) → IsLegal t es → IsSound t (replay t (opening t) es) × AllClose t (opening t) es

-- ---- logs
-- a wrong log isn't legal
abbrev pub WrongLogsAreNotLegal : Type 0
WrongLogsAreNotLegal = (m : Model) (editions : List Edition) (xs : List Entry) (i : ℕ) (c : Clause) → IsWrongLog m editions xs i c → ¬ IsLegalLog m editions xs

-- and it is wrong at one entry by one clause
abbrev pub LogsAreWrongOnce : Type 0
LogsAreWrongOnce = (m : Model) (editions : List Edition) (xs : List Entry) (i j : ℕ) (c d : Clause) → IsWrongLog m editions xs i c → IsWrongLog m editions xs j d → (i ≡ j) × (c ≡ d)

-- and no log of the model's observations is neither legal nor wrong
abbrev pub NoLogIsNeither : Type 0
NoLogIsNeither = (m : Model) (editions : List Edition) (xs : List Entry) → AreSeen m xs → ¬ IsLegalLog m editions xs → ¬ ((i : ℕ) (c : Clause) → ¬ IsWrongLog m editions xs i c)

-- a log is wrong for editions that agree where it is wrong, by the same clause
abbrev pub WrongLogsAgree : Type 0
WrongLogsAgree = (m : Model) (editions others : List Edition) → AllAgree m editions others → (xs : List Entry) (i : ℕ) (c : Clause) → IsWrongLog m editions xs i c → IsWrongLog m others xs i c

-- ---- prunes
-- the test passes where the pairs may go
abbrev pub PruneTestsTell : Type 0
PruneTestsTell = (m : Model) (edition : Edition) (pairs : List (ℕ × ℕ)) → (can_prune m edition pairs ≡ true → CanPrune m edition pairs) × (CanPrune m edition pairs → can_prune m edition pairs ≡ true)

-- and it passes alike for editions that agree
abbrev pub PruneTestsAgree : Type 0
PruneTestsAgree = (m : Model) (edition other : Edition) → EditionsAgree m edition other → (pairs : List (ℕ × ℕ)) → can_prune m edition pairs ≡ can_prune m other pairs
