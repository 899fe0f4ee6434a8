use Rattle.std.proofs.Common.{◌≡◌, take}
use Rattle.sp_dd.specs.Points.{state_widths}
use Rattle.sp_table.proofs.totals.unprimed_widths.Given as goal

abbrev pub invariant-loop-slot : goal.invariant-loop-slot
invariant-loop-slot l = l.widths.items ≡ take l.slot (state_widths l.scope.variables l.scope.sizes)
