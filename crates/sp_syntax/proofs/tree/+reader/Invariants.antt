-- Each call takes a bracket off those that may be opened, or goes further in at the same number of them.
use Rattle.std.proofs.Common.{◌≡◌, ◌+◌, ◌-◌, ◌*◌}
use Rattle.sp_syntax.specs.Reading as spec
use Rattle.sp_syntax.specs.Reading.{many, is_close, is_right_square}
use Rattle.sp_syntax.proofs.tree.+reader.Given as goal

abbrev pub decreases-tree : goal.decreases-tree
decreases-tree l = 6 * l.left

abbrev pub decreases-branch : goal.decreases-branch
decreases-branch l = 6 * l.left + 1

abbrev pub decreases-more_branches : goal.decreases-more_branches
decreases-more_branches l = 6 * l.left + 2

abbrev pub decreases-branches : goal.decreases-branches
decreases-branches l = 6 * l.left + 3

abbrev pub decreases-after_name : goal.decreases-after_name
decreases-after_name l = 6 * l.left + 4

abbrev pub decreases-round : goal.decreases-round
decreases-round l = 6 * l.left + 5

abbrev pub decreases-more_trees : goal.decreases-more_trees
decreases-more_trees l = 6 * l.left + 1

abbrev pub decreases-trees : goal.decreases-trees
decreases-trees l = 6 * l.left + 2

abbrev pub decreases-square : goal.decreases-square
decreases-square l = 6 * l.left + 3

abbrev pub invariant-more_branches-loop-turn : goal.invariant-more_branches-loop-turn
invariant-more_branches-loop-turn l =
    (many is_close (spec.branch_at l.end l.left) l.end (l.turns - l.turn) l.branches l.cursor.rest.now
    ≡ many is_close (spec.branch_at l.end l.left) l.end l.turns l.initial.branches l.initial.cursor.rest.now)

abbrev pub invariant-more_trees-loop-turn : goal.invariant-more_trees-loop-turn
invariant-more_trees-loop-turn l =
    (many is_right_square (spec.tree_at l.end l.left) l.end (l.turns - l.turn) l.trees l.cursor.rest.now
    ≡ many is_right_square (spec.tree_at l.end l.left) l.end l.turns l.initial.trees l.initial.cursor.rest.now)
