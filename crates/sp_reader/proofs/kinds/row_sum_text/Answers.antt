use Rattle.std.proofs.Common.{◌∙◌, ap, ◌++◌, codes}
use Rattle.std.proofs.lemmas.Int.{to_z-of_z}
use mir.Syntax.{w128}
use Rattle.std.specs.Fmt.{decimal}
use Rattle.sp_show.specs.Decimals.{decimal_of}
use Rattle.sp_reader.specs.Kinds.{action_name, variable_name}
use Rattle.sp_reader.proofs.Joined.{behind}
use Rattle.sp_reader.proofs.kinds.row_sum_text.Goals as goal

pub returns : goal.returns
returns c =
    let rest = c.as_bytes.ensures.value ∙ c.in_ok-rest.ensures.ok ∙ ap (λ s. codes " row " ++ (decimal c.args.row ++ (codes " sum " ++ s))) (c.in_ok-sum.ensures ∙ ap decimal_of (to_z-of_z w128 c.args.sum c.ranges.sum)) in
    c.in_ok-name.ensures
    ∙ behind c.in_ok-bytes.bytes.items c.as_slice.result.now (codes "RowSum ") (action_name c.args.source.now c.args.tree.now c.args.action) (codes " ") (variable_name c.args.source.now c.args.tree.now c.args.variable)
    (codes " row " ++ (decimal c.args.row ++ (codes " sum " ++ decimal_of c.args.sum))) c.in_ok-bytes.ensures (c.as_slice.ensures.value ∙ rw rest at c.in_ok-extend_from_slice.ensures.items)
