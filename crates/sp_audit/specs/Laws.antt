-- The laws of verdicts, as the functions of this crate state them.
use Rattle.std.specs.Prelude.{◌≡◌, ℕ, List, Option}
use Rattle.sp_theory.specs.Book.{Task, Event, opening}
use Rattle.sp_theory.specs.Runs.{replay}
use Rattle.sp_theory.specs.Logs.{Log}
use Rattle.sp_theory.specs.Laws.{IsSound, AllClose}
use Rattle.sp_value.specs.Tasks.{TaskParts, IsTask, task_of}
use Rattle.sp_faults.specs.Clauses.{Clause}
use Rattle.sp_faults.specs.RunFaults.{AreSettlesSampled}
use Rattle.sp_audit.specs.Logs.{AreAllSeen}
use Rattle.sp_audit.specs.Verdicts.{AreLegal, AreWrong}

-- what is wrong isn't legal
abbrev pub WrongIsNotLegal : Type 0
WrongIsNotLegal = (t : Task) (es : List Event) (logs : List Log) (session : Option ℕ) (n : ℕ) (c : Clause) → AreWrong t es logs session n c → ¬ AreLegal t es logs

-- it is wrong in one place, by one clause
abbrev pub IsWrongOnce : Type 0
IsWrongOnce = (t : Task) (es : List Event) (logs : List Log) (session other : Option ℕ) (n k : ℕ) (c d : Clause) → AreWrong t es logs session n c → AreWrong t es logs other k d
    → (session ≡ other) × (n ≡ k) × (c ≡ d)

-- and where settles are at sampled beliefs and joint observations are the model's, nothing is neither legal nor wrong
abbrev pub NothingIsNeither : Type 0
NothingIsNeither = (t : Task) (es : List Event) (logs : List Log) → AreSettlesSampled t es → AreAllSeen t.model logs → ¬ AreLegal t es logs
    → ¬ ((session : Option ℕ) (n : ℕ) (c : Clause) → ¬ AreWrong t es logs session n c)

-- whoever planned it: the vectors of a legal run are lower bounds, its values at sampled beliefs never fall, and its backups are close to the exact ones
abbrev pub LegalRunsKeepTheirWord : Type 0
LegalRunsKeepTheirWord = (t : TaskParts) → IsTask t → (es : List Event) (logs : List Log) → AreLegal (task_of t) es logs
    → IsSound (task_of t) (replay (task_of t) (opening (task_of t)) es) × AllClose (task_of t) (opening (task_of t)) es
