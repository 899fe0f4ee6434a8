use Rattle.std.proofs.Common.{◌≡◌, take, map}
use Rattle.sp_dd.specs.Hashes.{node_hash}
use Rattle.sp_dd.proofs.draft.hashes_of.Given as goal

abbrev pub invariant-loop-at : goal.invariant-loop-at
invariant-loop-at l = l.hashes ≡ map node_hash (take l.at l.nodes)
