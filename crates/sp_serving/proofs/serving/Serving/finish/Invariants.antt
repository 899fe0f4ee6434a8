use Rattle.std.specs.Arc.{arc_value}
use Rattle.sp_serving.specs.Serving.{shown_in}
use Rattle.sp_serving.proofs.Resting.{IsRest}
use Rattle.sp_serving.proofs.serving.Serving.finish.Given as goal

abbrev pub invariant-loop : goal.invariant-loop
invariant-loop l = IsRest l.fn.self (shown_in (arc_value l.last)) l.counter l.serving
