use Rattle.std.proofs.Common.{◌≡◌, drop}
use Rattle.sp_declarations.specs.Steps.{in_turn}
use Rattle.sp_checks.specs.Initial as spec
use Rattle.sp_checks.proofs.initial.factors_in_turn.Given as goal

abbrev pub invariant-loop-share : goal.invariant-loop-share
invariant-loop-share l = in_turn (spec.factor_step l.env.scope.variables) l.factored (drop l.share-index l.shares) ≡ spec.factors_in_turn l.env.scope.variables l.shares
