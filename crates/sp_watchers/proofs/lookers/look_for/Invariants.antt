use Rattle.sp_publish.specs.Published.{ListGoesOn}
use Rattle.sp_watchers.proofs.lookers.look_for.Given as goal

abbrev pub invariant-loop : goal.invariant-loop
invariant-loop l = ListGoesOn l.fn.viewer l.viewer
