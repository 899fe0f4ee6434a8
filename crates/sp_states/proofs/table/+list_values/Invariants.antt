use Rattle.std.proofs.Common.{◌≡◌, ◌+◌, ◌-◌, ◌++◌, length}
use Rattle.sp_states.specs.States.{widths_of, joined_to, values_over}
use Rattle.sp_states.specs.Walks.{value_of_part, cofactor_of}
use Rattle.sp_states.proofs.table.+list_values.Given as goal

abbrev pub decreases-list_values : goal.decreases-list_values
decreases-list_values l = length l.scope.now.sizes - l.slot

abbrev pub invariant-loop-value : goal.invariant-loop-value
invariant-loop-value l =
    l.values.items ≡ l.initial.values.items ++ joined_to l.value (λ v. values_over (widths_of l.scope) (l.slot + 1) (value_of_part l.nodes (cofactor_of l.nodes l.slot v l.part)))
