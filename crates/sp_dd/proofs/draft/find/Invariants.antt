use Rattle.std.proofs.Common.{drop}
use Rattle.sp_dd.specs.NodeLists.{made_node}
use Rattle.sp_dd.proofs.Indexing.{IsUnfound}
use Rattle.sp_dd.proofs.draft.find.Given as goal

abbrev pub invariant-loop-top : goal.invariant-loop-top
invariant-loop-top l = IsUnfound l.nodes l.hashes (made_node l.slot (drop l.start l.list)) l.hash l.top

abbrev pub decreases-loop-top : goal.decreases-loop-top
decreases-loop-top l = l.top
