use Rattle.std.proofs.Common.{◌≡◌, [], drop}
use Rattle.std.specs.List.{range_with_len}
use Rattle.sp_trees.specs.Nodes.{parts_from}
use Rattle.sp_trees.proofs.nodes.parts_of.Given as goal

abbrev pub invariant-loop-value : goal.invariant-loop-value
invariant-loop-value l = (parts_from l.left l.branches l.parts (drop l.value (range_with_len 0 l.count)) ≡ parts_from l.left l.branches [] (range_with_len 0 l.count))
