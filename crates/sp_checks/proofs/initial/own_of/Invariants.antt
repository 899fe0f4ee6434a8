use Rattle.std.proofs.Common.{◌≡◌}
use Rattle.sp_checks.specs.Initial as spec
use Rattle.sp_checks.proofs.initial.own_of.Given as goal

abbrev pub invariant-loop-variable : goal.invariant-loop-variable
invariant-loop-variable l = l.own ≡ spec.own_of l.variable l.mentions
