use Rattle.std.proofs.Common.{◌≡◌, ◌+◌, ◌<◌, ℕ, get_or}
use Rattle.sp_dd.specs.Ordered.{height}
use Rattle.sp_ddops.specs.Pairs.{state_cofactor}
use Rattle.sp_ddops.specs.Firsts.{AreBelow, AreNowhere}
use Rattle.sp_ddops.proofs.ordering.+first_above.Given as goal

abbrev pub decreases-first_above : goal.decreases-first_above
decreases-first_above l = height l.state.left + height l.state.right

abbrev pub invariant-loop-value : goal.invariant-loop-value
invariant-loop-value l =
    record {
      below : (v : ℕ) → v < l.value → AreBelow l.compared.scope.now.sizes l.compared.left.now l.compared.right.now (state_cofactor l.compared.left.now l.compared.right.now l.slot v l.state);
      blank : (i : ℕ) → get_or l.point i 0 ≡ 0;
      known : AreNowhere l.compared.scope.now.sizes l.compared.left.now l.compared.right.now l.known;
    }
