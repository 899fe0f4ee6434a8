use Rattle.std.proofs.Common.{map, take}
use Rattle.std.specs.Arc.{arc_value}
use Rattle.sp_theory.specs.Logs.{IsLegalTranscript}
use Rattle.sp_model.specs.Problem.{problem}
use Rattle.sp_session.specs.Logs.{logs_of}
use Rattle.sp_audit.specs.Seats.{editions_in}
use Rattle.sp_audit.proofs.logs.judge_logs.Given as goal

abbrev pub invariant-loop-k : goal.invariant-loop-k
invariant-loop-k l = IsLegalTranscript (problem l.model) (editions_in (map arc_value l.editions)) (take l.k (logs_of l.logs))
