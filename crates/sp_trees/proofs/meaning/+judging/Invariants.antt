use Rattle.std.proofs.Common.{◌≡◌, map, take}
use Rattle.sp_trees.specs.Judge.{judgement, judgement_of_branch, listed_branch}
use Rattle.sp_trees.proofs.meaning.+judging.Given as goal

abbrev pub invariant-judge_branches-loop-branch : goal.invariant-judge_branches-loop-branch
invariant-judge_branches-loop-branch l = (l.listed ≡ map (λ b. listed_branch l.source l.values (judgement_of_branch l.env l.source l.allowed b)) (take l.branch-index l.branches))

abbrev pub invariant-judge_trees-loop-tree : goal.invariant-judge_trees-loop-tree
invariant-judge_trees-loop-tree l = (l.judged ≡ map (judgement l.env l.source l.allowed) (take l.tree-index l.trees))
