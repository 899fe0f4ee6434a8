use Rattle.std.proofs.Common.{◌≡◌, ◌++◌, replicate}
use Rattle.sp_states.proofs.table.append.Given as goal

abbrev pub invariant-loop : goal.invariant-loop
invariant-loop l = l.values.items ≡ l.initial.values.items ++ replicate l.counter l.value
