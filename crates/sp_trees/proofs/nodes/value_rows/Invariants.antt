use Rattle.std.proofs.Common.{◌≡◌, ℕ, ◌<◌, [], None, take, drop}
use Rattle.sp_trees.specs.Slots.{has}
use Rattle.sp_trees.specs.Nodes.{value_rows, lists}
use Rattle.sp_trees.proofs.nodes.value_rows.Given as goal

abbrev pub invariant-loop-branch : goal.invariant-loop-branch
invariant-loop-branch l = record {
  rows : value_rows (take l.branch-index l.branches) (drop l.branch-index l.branches) l.first ≡ value_rows [] l.branches None;
  listed : (v : ℕ) → v < 64 → has l.listed v ≡ lists (take l.branch-index l.branches) v;
}
