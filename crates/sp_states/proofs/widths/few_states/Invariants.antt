use Rattle.std.proofs.Common.{◌≡◌, ◌≤◌, length, drop}
use Rattle.sp_dd.specs.Points.{product}
use Rattle.sp_states.specs.States.{widths_of}
use Rattle.sp_states.proofs.widths.few_states.Given as goal

abbrev pub invariant-loop-slot : goal.invariant-loop-slot
invariant-loop-slot l =
    record {
      within : l.slot ≤ length l.scope.sizes;
      count : l.count ≡ product (drop l.slot (widths_of l.scope));
      few : l.count ≤ 65536;
    }

abbrev pub decreases-loop-slot : goal.decreases-loop-slot
decreases-loop-slot l = l.slot
