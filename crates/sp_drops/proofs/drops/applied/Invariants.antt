use Rattle.std.proofs.Common.{◌≡◌, ◌++◌, drop, map}
use Rattle.sp_drops.specs.Drops.{applying_ids}
use Rattle.sp_drops.proofs.drops.applied.Given as goal

abbrev pub invariant-loop-k : goal.invariant-loop-k
invariant-loop-k l = l.found ++ applying_ids l.ids.items (drop l.k l.pairs) ≡ applying_ids (map (λ x. x.id) l.members) l.pairs
