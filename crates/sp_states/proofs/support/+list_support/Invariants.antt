use Rattle.std.proofs.Common.{◌≡◌, ◌≤◌, ◌+◌, ◌-◌, ◌++◌, length}
use Rattle.sp_states.specs.States.{widths_of, joined_to, values_over, entries_from}
use Rattle.sp_states.specs.Walks.{value_of_part, cofactor_of}
use Rattle.sp_states.proofs.support.+list_support.Given as goal

abbrev pub decreases-list_support : goal.decreases-list_support
decreases-list_support l = length l.scope.now.sizes - l.block.slot

abbrev pub invariant-loop-value : goal.invariant-loop-value
invariant-loop-value l =
    record {
      entries : l.entries.items ≡ l.initial.entries.items ++ entries_from l.block.first (joined_to l.value (λ v. values_over (widths_of l.scope) (l.block.slot + 1) (value_of_part l.nodes (cofactor_of l.nodes l.block.slot v l.part))));
      room : length l.entries.items ≤ l.room;
    }
