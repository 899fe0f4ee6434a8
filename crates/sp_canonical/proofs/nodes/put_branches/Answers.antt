use Rattle.std.proofs.Common.{◌<◌, ◌∙◌, length, pos, arith}
use Rattle.sp_dd.specs.declared.part.Part.TheVariants.{Leaf}
use Rattle.sp_dd.specs.Ordered.{node_at}
use Rattle.sp_spelled.specs.Signs.{tight}
use Rattle.sp_spelled.specs.Shapes.{group}
use Rattle.sp_canonical.specs.Gaps.{gap_of}
use Rattle.sp_canonical.specs.ModelSigns.{part_signs}
use Rattle.sp_canonical.proofs.Loops.{went_on, next_branch, get_or_any}
use Rattle.sp_canonical.proofs.nodes.put_branches.Goals as goal

pub loop-i-preserved : goal.loop-i-preserved
loop-i-preserved c =
    let less : c.loop-i.i < length (node_at c.args.nodes.now c.args.at).parts = omega arith in
    went_on _ _ _ _ _ (group c.index-names-i.result (part_signs c.args.base tight c.part-part.result) (gap_of c.gap_if.result)) _ c.loop-i.invariant c.in_ok-put_branch.ensures
    (next_branch (part_signs c.args.base tight) c.args.names.now (node_at c.args.nodes.now c.args.at).parts c.loop-i.i c.index-names-i.result c.part-part.result _ c.loop-i-test.true c.requires.count c.index-names-i.is (c.part-part.ensures ∙ get_or_any (node_at c.args.nodes.now c.args.at).parts c.loop-i.i (Leaf (pos 0)) c.part-part.result less) c.gap_if.ensures)
