use Rattle.std.proofs.Common.{◌≡◌, ◌*◌, take}
use Rattle.sp_dd.specs.Points.{product, state_widths}
use Rattle.sp_yardstick.proofs.scopes.is_total_within.Given as goal

abbrev pub invariant-loop-slot : goal.invariant-loop-slot
invariant-loop-slot l = l.total ≡ l.each * product (take l.slot (state_widths l.scope.variables l.scope.sizes))
