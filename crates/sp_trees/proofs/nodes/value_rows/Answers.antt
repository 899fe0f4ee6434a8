use Rattle.sp_trees.proofs.NodeLemmas.{rows_more}
use Rattle.sp_trees.proofs.nodes.value_rows.Goals as goal

pub loop-branch-preserved : goal.loop-branch-preserved
loop-branch-preserved c =
    let r = rows_more c.args.branches.now c.loop-branch.branch-index c.loop-branch.first c.loop-branch.listed c.branch-item.result c.value_row.result c.lesser-first.result c.with_value-listed.result
    c.requires c.loop-branch-test.true c.branch-item.is c.loop-branch.invariant.rows c.loop-branch.invariant.listed c.value_row.ensures c.lesser-first.ensures c.with_value-listed.ensures in
    record { rows = r.rows; listed = r.listed }
