use Rattle.std.proofs.Common.{◌<◌, ◌∙◌, ap, arith, length, rules}
use Rattle.std.specs.Prelude.{FitsSigned}
use Rattle.std.specs.Int.{w128}
use Rattle.std.proofs.lemmas.Int.{to_z-of_z}
use Rattle.sp_dd.specs.Points.{point_at}
use Rattle.sp_dd.specs.Func.{value_of}
use Rattle.sp_table.specs.Widths.{part_of}
use Rattle.sp_table.proofs.FrameLemmas.{made_more, widths_some}
use Rattle.sp_table.proofs.BranchLemmas.{part_is, part_widths_of}
use Rattle.sp_table.proofs.branches.part_values.Goals as goal

pub digit_of-requires-clause-some : goal.digit_of-requires-clause-some
digit_of-requires-clause-some c = widths_some _ _ c.requires.widths.widths_of

pub value_in-requires : goal.value_in-requires
value_in-requires c =
    part_widths_of c.args.scope.now c.args.parts.now c.args.slot _ c.digit_of.result c.index-parts-digit_of.result c.requires.widths (omega (arith, c.digit_of.ensures.within, c.requires.widths.full)) c.index-parts-digit_of.is

pub loop-k-preserved : goal.loop-k-preserved
loop-k-preserved c =
    let fits : FitsSigned w128 c.value_in.result = search rules in
    let less : c.digit_of.result < length c.args.parts.now = omega (arith, c.digit_of.ensures.within, c.requires.widths.full) in
    let part = part_is c.args.scope.now c.args.parts.now c.digit_of.result c.index-parts-digit_of.result less c.index-parts-digit_of.is ∙ ap (part_of c.args.scope.now c.args.parts.now) c.digit_of.ensures.value in
    made_more _ _ _ c.loop-k.k _ c.loop-k.invariant c.in_ok-push.ensures.items
    (to_z-of_z w128 _ fits ∙ c.value_in.ensures ∙ ap (λ f. value_of f (point_at c.args.widths.now c.loop-k.k)) part)
