use Rattle.std.proofs.Common.{◌^◌, ◌≤◌, sym, ap, ◌∙◌, subst, arith}
use Rattle.std.specs.Int.{w128, int_div_euclid}
use Rattle.std.specs.Prelude.{ℤ, pos, ◌+ℤ◌, unsigned_abs}
use Rattle.std.proofs.lemmas.Int.{to_z-of_z, fits_signed_from_abs}
use Rattle.sp_theory.specs.Draws.{q}
use Rattle.sp_backup.proofs.Windows.{quotient_small, shared_is}
use Rattle.sp_backup.proofs.linking.with_share.Goals as goal

pub returns-clause-value : goal.returns-clause-value
unfolding q
returns-clause-value c =
    let share = c.div_euclid-share.ensures ∙ ap (λ (z : ℤ). int_div_euclid z (pos 1000000000)) (to_z-of_z w128 c.args.sum (fits_signed_from_abs w128 c.args.sum (let s = c.requires.sum in omega (arith, s)))) in
    let small = subst (λ (z : ℤ). unsigned_abs z ≤ 2 ^ 93) (sym share) (quotient_small c.args.sum (2 ^ 93) (let s = c.requires.sum in omega (arith, s))) in
    shared_is c.args.future c.div_euclid-share.result c.args.joint c.requires.joint c.requires.future small ∙ ap (λ (z : ℤ). c.args.future +ℤ z) share
