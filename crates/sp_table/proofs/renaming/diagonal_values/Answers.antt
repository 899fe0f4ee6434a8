use Rattle.std.proofs.Common.{◌∙◌, ap, arith, rules}
use Rattle.std.specs.Prelude.{FitsSigned, slice_set}
use Rattle.std.specs.Int.{w128}
use Rattle.std.proofs.lemmas.Int.{to_z-of_z}
use Rattle.sp_dd.specs.Points.{point_at}
use Rattle.sp_dd.specs.Func.{value_of}
use Rattle.sp_table.proofs.PlaceLemmas.{Mentions-length}
use Rattle.sp_table.proofs.FrameLemmas.{made_more, widths_some}
use Rattle.sp_table.proofs.renaming.diagonal_values.Goals as goal

pub digit_of-value-requires-clause-slot : goal.digit_of-value-requires-clause-slot
digit_of-value-requires-clause-slot c = omega (arith, c.requires.frame.within, Mentions-length _ _ c.requires.fits.mentions)

pub digit_of-value-requires-clause-some : goal.digit_of-value-requires-clause-some
digit_of-value-requires-clause-some c = widths_some _ _ c.requires.fits

pub loop-k-preserved : goal.loop-k-preserved
loop-k-preserved c =
    let fits : FitsSigned w128 c.value_with.result = search rules in
    made_more _ _ _ c.loop-k.k _ c.loop-k.invariant c.in_ok-push.ensures.items
    (to_z-of_z w128 _ fits ∙ c.value_with.ensures ∙ ap (λ v. value_of c.args.f.now (slice_set (point_at c.args.widths.now c.loop-k.k) c.args.primed v)) c.digit_of-value.ensures.value)
