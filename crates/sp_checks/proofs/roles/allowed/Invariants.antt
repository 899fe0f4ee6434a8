use Rattle.std.proofs.Common.{◌≡◌}
use Rattle.sp_checks.specs.Roles as spec
use Rattle.sp_checks.proofs.roles.allowed.Given as goal

abbrev pub invariant-loop-slot : goal.invariant-loop-slot
invariant-loop-slot l = l.allowed ≡ spec.slots_where (spec.may_mention l.variables l.role) l.slot
