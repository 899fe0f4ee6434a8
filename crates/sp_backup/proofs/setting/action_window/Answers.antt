use Rattle.std.proofs.Common.{ℕ, ◌^◌, ◌≤◌, sym, ap, ◌∙◌, subst, arith}
use Rattle.std.specs.Int.{w128}
use Rattle.std.specs.Prelude.{ℤ, pos, unsigned_abs}
use Rattle.std.proofs.lemmas.Int.{to_z_pos, to_z-of_z, fits_signed_from_abs}
use Rattle.sp_backup.proofs.Windows.{window_of, window_small, action_window_is}
use Rattle.sp_backup.proofs.setting.action_window.Goals as goal

pub returns-clause-value : goal.returns-clause-value
returns-clause-value c =
    let l = c.unsigned_abs.ensures.value ∙ ap unsigned_abs (to_z-of_z w128 c.args.low (fits_signed_from_abs w128 c.args.low (let s = c.requires.low in omega (arith, s)))) in
    let h = c.unsigned_abs-2.ensures.value ∙ ap unsigned_abs (to_z-of_z w128 c.args.high (fits_signed_from_abs w128 c.args.high (let s = c.requires.high in omega (arith, s)))) in
    let most = window_small c.variable_count.result c.sight_count.result c.joint_count-small.result c.unsigned_abs.result c.unsigned_abs-2.result c.whole_slack_of.result c.variable_count.ensures.few c.sight_count.ensures.few c.joint_count-small.ensures.few
    (subst (λ (k : ℕ). k ≤ 10 ^ 18) (sym l) c.requires.low) (subst (λ (k : ℕ). k ≤ 10 ^ 18) (sym h) c.requires.high) c.whole_slack_of.ensures.few in
    to_z_pos w128 _ (omega (arith, most))
    ∙ ap pos (action_window_is c.args.model.now c.args.low c.args.high c.variable_count.result c.sight_count.result c.joint_count-small.result c.unsigned_abs.result c.unsigned_abs-2.result c.whole_slack_of.result c.variable_count.ensures.value c.sight_count.ensures.value c.joint_count-small.ensures.value l h c.whole_slack_of.ensures.value)

pub returns-clause-small : goal.returns-clause-small
returns-clause-small c =
    let l = c.unsigned_abs.ensures.value ∙ ap unsigned_abs (to_z-of_z w128 c.args.low (fits_signed_from_abs w128 c.args.low (let s = c.requires.low in omega (arith, s)))) in
    let h = c.unsigned_abs-2.ensures.value ∙ ap unsigned_abs (to_z-of_z w128 c.args.high (fits_signed_from_abs w128 c.args.high (let s = c.requires.high in omega (arith, s)))) in
    let most = window_small c.variable_count.result c.sight_count.result c.joint_count-small.result c.unsigned_abs.result c.unsigned_abs-2.result c.whole_slack_of.result c.variable_count.ensures.few c.sight_count.ensures.few c.joint_count-small.ensures.few
    (subst (λ (k : ℕ). k ≤ 10 ^ 18) (sym l) c.requires.low) (subst (λ (k : ℕ). k ≤ 10 ^ 18) (sym h) c.requires.high) c.whole_slack_of.ensures.few in
    subst (λ (z : ℤ). unsigned_abs z ≤ 2 ^ 116) (sym (to_z_pos w128 (window_of c.variable_count.result c.sight_count.result c.joint_count-small.result c.unsigned_abs.result c.unsigned_abs-2.result c.whole_slack_of.result) (omega (arith, most)))) most
