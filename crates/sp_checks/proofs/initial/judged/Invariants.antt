use Rattle.std.proofs.Common.{◌≡◌, take, map}
use Rattle.sp_checks.specs.Initial as spec
use Rattle.sp_checks.proofs.initial.judged.Given as goal

abbrev pub invariant-loop-tree : goal.invariant-loop-tree
invariant-loop-tree l = l.list.items ≡ map (spec.share_of l.env l.source) (take l.tree-index l.trees)
