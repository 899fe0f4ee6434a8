use Rattle.std.proofs.Common.{◌≡◌, get_or, drop, pos, ◌+ℤ◌}
use Rattle.sp_states.specs.States.{entry_dot}
use Rattle.sp_states.proofs.sums.dot.Given as goal

abbrev pub invariant-loop-k : goal.invariant-loop-k
invariant-loop-k l = l.sum +ℤ entry_dot (drop l.k l.entries.items) (λ n. get_or l.values.items n (pos 0)) ≡ entry_dot l.entries.items (λ n. get_or l.values.items n (pos 0))
