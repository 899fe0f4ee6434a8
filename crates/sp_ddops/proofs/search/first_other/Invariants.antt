use Rattle.std.proofs.Common.{◌≡◌, ℕ, ◌<◌}
use Rattle.sp_dd.specs.declared.part.Part.TheVariants.{Leaf}
use Rattle.sp_dd.specs.Ordered.{part_at}
use Rattle.sp_ddops.proofs.search.first_other.Given as goal

abbrev pub invariant-loop-value : goal.invariant-loop-value
invariant-loop-value l = (u : ℕ) → u < l.value → part_at l.nodes l.at u ≡ Leaf l.v
