use Rattle.std.proofs.Common.{◌≡◌, take}
use Rattle.std.specs.Arc.{arc_value}
use Rattle.sp_value.specs.Events.{events_of}
use Rattle.sp_audit.specs.States.{contents, IsStateAfter}
use Rattle.sp_audit.proofs.runs.JudgedRun.of.Given as goal

abbrev pub invariant-loop-k : goal.invariant-loop-k
invariant-loop-k l = record { state : IsStateAfter (take l.k (events_of l.events)) (contents l.state); task : (contents l.state).task ≡ arc_value l.fn.task }
