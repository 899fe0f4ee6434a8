-- What an audit says of logs.
use Rattle.std.specs.Prelude.{◌≡◌, ℕ, ◌+◌, List, take, slice_get, Option, Some, None, All}
use Rattle.sp_theory.specs.Model.{Model}
use Rattle.sp_theory.specs.Values.{Edition}
use Rattle.sp_theory.specs.Logs.{Entry, Log, IsLegalLog, IsLegalTranscript}
use Rattle.sp_faults.specs.Clauses as theory
use Rattle.sp_faults.specs.LogFaults.{AreSeen, IsWrongLog}
use Rattle.sp_audit.specs.declared.logs.WrongEntry.{WrongEntry}
use Rattle.sp_audit.specs.declared.logs.WrongLog.{WrongLog}
use Rattle.sp_audit.specs.Clauses.{clause_of}

-- the joint observations of each log are the model's, as the form of a plan file demands
abbrev pub AreAllSeen : Model → List Log → Type 0
AreAllSeen m logs = All (λ log. AreSeen m log.entries) logs

-- the logs before the one of that number are legal, and it is wrong after i entries by that clause
pub record IsWrongTranscript (m : Model) (editions : List Edition) (logs : List Log) (number i : ℕ) (c : theory.Clause) : Type 0 where
  pub before : IsLegalTranscript m editions (take number logs)
  pub log : Log
  pub stands : slice_get logs number ≡ Some log
  pub wrong : IsWrongLog m editions log.entries i c

-- the log is legal, or wrong at that entry by that clause
abbrev pub IsLogJudged : Model → List Edition → List Entry → Option WrongEntry → Type 0
IsLogJudged m editions xs None = IsLegalLog m editions xs
IsLogJudged m editions xs (Some w) = (i : ℕ) × (w.entry ≡ i + 1) × IsWrongLog m editions xs i (clause_of w.clause)

-- each log is legal, or the first that isn't is wrong at that entry by that clause
abbrev pub AreLogsJudged : Model → List Edition → List Log → Option WrongLog → Type 0
AreLogsJudged m editions logs None = IsLegalTranscript m editions logs
AreLogsJudged m editions logs (Some w) = (i : ℕ) × (w.entry ≡ i + 1) × IsWrongTranscript m editions logs w.session i (clause_of w.clause)
