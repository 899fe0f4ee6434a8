use Rattle.std.proofs.Common.{ℤ, ◌≤ℤ◌, ◌+◌, refl, sym, subst, arith}
use Rattle.std.specs.Int.{w128}
use Rattle.std.proofs.lemmas.Int.{to_z-of_z, fits_signed_from_abs}
use Rattle.sp_backup.proofs.RangeLemmas.{IsHigh, high_next}
use Rattle.sp_backup.proofs.setting.greatest_value.Goals as goal

pub loop-k-preserved : goal.loop-k-preserved
loop-k-preserved c =
    let small = c.greater-high.ensures.small in
    let value_small = c.greatest_of-value.ensures.small in
    subst (IsHigh c.args.edition.now (c.loop-k.k + 1)) (sym (to_z-of_z w128 c.greater-high.result (fits_signed_from_abs w128 c.greater-high.result (omega (arith, small)))))
    (high_next c.args.edition.now c.loop-k.k _ _ c.greatest_of-value.result c.greater-high.result c.loop-k.invariant refl c.greatest_of-value.ensures.bound c.greater-high.ensures.above_a
    (subst (λ (z : ℤ). z ≤ℤ c.greater-high.result) (to_z-of_z w128 c.greatest_of-value.result (fits_signed_from_abs w128 c.greatest_of-value.result (omega (arith, value_small)))) c.greater-high.ensures.above_b) small)
