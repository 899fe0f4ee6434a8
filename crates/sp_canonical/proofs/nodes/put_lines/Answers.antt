use Rattle.std.proofs.Common.{◌<◌, ◌++◌, length, refl, ap, ◌∙◌, arith}
use Rattle.sp_dd.specs.Ordered.{node_at}
use Rattle.sp_dd.specs.NodeLists.{Node}
use Rattle.sp_dd.specs.Diagrams.{node_list}
use Rattle.std.specs.Prelude.{List}
use Rattle.sp_spelled.specs.Signs.{text_of_signs}
use Rattle.sp_canonical.specs.ModelSigns.{node_line}
use Rattle.sp_canonical.proofs.Loops.{went_on, next_line}
use Rattle.sp_canonical.proofs.nodes.put_lines.Goals as goal

pub loop-at-preserved : goal.loop-at-preserved
loop-at-preserved c =
    let same = c.nodes-nodes.ensures in
    let less : c.loop-at.at < length (node_list c.args.func.now) = omega (arith, ap (λ (ns : List Node). length ns) same) in
    went_on _ _ _ _ _ (node_line c.args.parts.now c.args.base c.loop-at.at (node_at (node_list c.args.func.now) c.loop-at.at)) _ c.loop-at.invariant (c.in_ok-put_line.ensures ∙ ap (λ (ns : List Node). c.loop-at.page ++ text_of_signs (node_line c.args.parts.now c.args.base c.loop-at.at (node_at ns c.loop-at.at))) same)
    (next_line c.args.parts.now c.args.base (node_list c.args.func.now) c.loop-at.at _ less refl)
