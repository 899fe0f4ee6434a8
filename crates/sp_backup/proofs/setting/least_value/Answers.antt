use Rattle.std.proofs.Common.{ℤ, ◌≤ℤ◌, ◌+◌, refl, sym, subst, arith}
use Rattle.std.specs.Int.{w128}
use Rattle.std.proofs.lemmas.Int.{to_z-of_z, fits_signed_from_abs}
use Rattle.sp_backup.proofs.RangeLemmas.{IsLow, low_next}
use Rattle.sp_backup.proofs.setting.least_value.Goals as goal

pub loop-k-preserved : goal.loop-k-preserved
loop-k-preserved c =
    let small = c.lesser-low.ensures.small in
    let value_small = c.least_of-value.ensures.small in
    subst (IsLow c.args.edition.now (c.loop-k.k + 1)) (sym (to_z-of_z w128 c.lesser-low.result (fits_signed_from_abs w128 c.lesser-low.result (omega (arith, small)))))
    (low_next c.args.edition.now c.loop-k.k _ _ c.least_of-value.result c.lesser-low.result c.loop-k.invariant refl c.least_of-value.ensures.bound c.lesser-low.ensures.below_a
    (subst (λ (z : ℤ). c.lesser-low.result ≤ℤ z) (to_z-of_z w128 c.least_of-value.result (fits_signed_from_abs w128 c.least_of-value.result (omega (arith, value_small)))) c.lesser-low.ensures.below_b) small)
