use Rattle.std.proofs.Common.{◌≡◌, drop}
use Rattle.sp_drops.specs.Drops.{goes}
use Rattle.sp_drops.proofs.drops.is_first.Given as goal

abbrev pub invariant-loop-k : goal.invariant-loop-k
invariant-loop-k l = goes (drop l.k l.pairs) l.id ≡ goes l.pairs l.id
