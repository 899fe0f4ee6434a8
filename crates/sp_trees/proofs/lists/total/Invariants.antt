use Rattle.std.proofs.Common.{◌≡◌, None, drop}
use Rattle.std.specs.Prelude.{IfSome}
use Rattle.sp_trees.specs.Good.{IsFit}
use Rattle.sp_trees.specs.Lists.{steps}
use Rattle.sp_trees.proofs.lists.total.Given as goal

abbrev pub invariant-loop-tree : goal.invariant-loop-tree
invariant-loop-tree l = record {
  value : steps l.op l.at l.so_far (drop l.tree-index l.trees) ≡ steps l.op l.at None l.trees;
  fit : IfSome l.so_far (IsFit l.scope);
}
