-- What an audit answers.
use Rattle.std.specs.Prelude.{◌≡◌, ℕ, ◌+◌, ℤ, List, map, Option, Some, None}
use Rattle.sp_theory.specs.Values as theory
use Rattle.sp_theory.specs.Book.{Task, Event, opening, editions}
use Rattle.sp_theory.specs.Runs.{IsLegal, replay}
use Rattle.sp_theory.specs.Logs.{Log, IsLegalTranscript}
use Rattle.sp_value.specs.Tasks.{TaskParts, task_of}
use Rattle.sp_first_values.specs.FirstValues.{value_at_first}
use Rattle.sp_faults.specs.Clauses.{Clause}
use Rattle.sp_faults.specs.RunFaults.{IsWrongRun}
use Rattle.sp_audit.specs.declared.verdict.Verdict.{Verdict}
use Rattle.sp_audit.specs.declared.verdict.Verdict.TheVariants as verdicts
use Rattle.sp_audit.specs.Clauses.{clause_of}
use Rattle.sp_audit.specs.Logs.{IsWrongTranscript}

-- the editions to which events lead
abbrev pub run_editions : Task → List Event → List theory.Edition
run_editions t es = editions (replay t (opening t) es)

-- the value of each of them at belief 0, in ticks, rounded down
abbrev pub values_after : TaskParts → List Event → List ℤ
values_after t es = map (value_at_first t) (run_editions (task_of t) es)

-- the run is legal, and each log is legal for its editions
pub record AreLegal (t : Task) (es : List Event) (logs : List Log) : Type 0 where
  pub run : IsLegal t es
  pub transcript : IsLegalTranscript t.model (run_editions t es) logs

-- the run is wrong at that event by that clause; or it is legal, the logs before the one of that number are legal, and it is wrong at that entry by
-- that clause. Events and entries are counted from 1, logs from 0
abbrev pub AreWrong : Task → List Event → List Log → Option ℕ → ℕ → Clause → Type 0
AreWrong t es logs None n c = (i : ℕ) × (n ≡ i + 1) × IsWrongRun t es i c
AreWrong t es logs (Some number) n c = IsLegal t es × (i : ℕ) × (n ≡ i + 1) × IsWrongTranscript t.model (run_editions t es) logs number i c

-- the verdict on a run and its logs
abbrev pub IsVerdict : Task → List Event → List Log → Verdict → Type 0
IsVerdict t es logs verdicts.Legal = AreLegal t es logs
IsVerdict t es logs (verdicts.Wrong session event clause) = AreWrong t es logs session event (clause_of clause)
