use Rattle.std.proofs.Common.{◌∙◌, sym}
use Rattle.sp_trees.proofs.NodeLemmas.{part_err}
use Rattle.sp_trees.proofs.nodes.parts_of.Goals as goal

pub returns-in-Err : goal.returns-in-Err
returns-in-Err c =
    sym (part_err c.args.left c.args.branches.now c.loop-value.parts c.args.count c.loop-value.value c.in_ok-func.field-0 c.in-Err.refusal c.loop-value-test.true c.in_ok-func.ensures c.in-Err.is) ∙ c.loop-value.invariant
