use Rattle.std.proofs.Common.{◌≡◌, take}
use Rattle.sp_drops.specs.Drops.{left_by}
use Rattle.sp_drops.proofs.drops.left.Given as goal

abbrev pub invariant-loop-member : goal.invariant-loop-member
invariant-loop-member l = l.some.items ≡ left_by l.pairs (take l.member-index l.members)
