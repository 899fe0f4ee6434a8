use Rattle.std.proofs.Common.{◌≡◌, take, drop}
use Rattle.sp_dd.specs.Hashes.{parts_hash}
use Rattle.sp_dd.proofs.nodes.hash_of.Given as goal

abbrev pub invariant-loop-i : goal.invariant-loop-i
invariant-loop-i l = l.hash ≡ parts_hash l.slot (take l.i (drop l.from l.words))
