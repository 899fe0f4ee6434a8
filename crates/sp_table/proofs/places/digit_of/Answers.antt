use Rattle.std.proofs.Common.{◌≡◌, ◌+◌, ◌-◌, ◌/◌, ◌%◌, ◌∙◌, ap, arith, drop, get_or, refl, sym}
use Rattle.std.proofs.lemmas.Nat.{mod_below}
use Rattle.sp_dd.specs.Points.{product}
use Rattle.sp_table.proofs.PlaceLemmas.{width_before, place_back, get_or-point_at}
use Rattle.sp_table.proofs.places.digit_of.Goals as goal

pub nonzero_div-rest : goal.nonzero_div-rest
nonzero_div-rest c = (width_before c.args.widths.now c.loop-i.i (c.loop-i.i - 1) (omega arith) (omega arith) c.requires.some).0

pub loop-i-preserved : goal.loop-i-preserved
loop-i-preserved c =
    let step = place_back c.args.widths.now c.args.widths.now c.args.k c.loop-i.i (c.loop-i.i - 1) _ c.loop-i.rest _ (omega arith) (omega arith) refl refl c.loop-i.invariant.rest_is refl in
    record { past = omega arith; within = omega arith; rest_is = step.1 }

pub nonzero_rem-result : goal.nonzero_rem-result
nonzero_rem-result c = (width_before c.args.widths.now (c.args.slot + 1) c.args.slot refl c.requires.slot c.requires.some).0

pub returns-clause-value : goal.returns-clause-value
returns-clause-value c =
    let end : c.loop-i.i ≡ c.args.slot + 1 = omega (arith, c.loop-i.invariant.past) in
    ap (λ r. r % get_or c.args.widths.now c.args.slot 0) (c.loop-i.invariant.rest_is ∙ ap (λ i. c.args.k / product (drop i c.args.widths.now)) end)
    ∙ sym (get_or-point_at c.args.widths.now c.args.slot c.args.k c.requires.slot)

pub returns-clause-within : goal.returns-clause-within
returns-clause-within c = mod_below c.loop-i.rest (get_or c.args.widths.now c.args.slot 0) (width_before c.args.widths.now (c.args.slot + 1) c.args.slot refl c.requires.slot c.requires.some).0
