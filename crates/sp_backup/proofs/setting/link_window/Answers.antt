use Rattle.std.proofs.Common.{ℕ, ◌+◌, ◌^◌, ◌≤◌, ap, ◌∙◌, sym, subst, arith}
use Rattle.std.specs.Int.{w128}
use Rattle.std.specs.Prelude.{ℤ, pos, unsigned_abs}
use Rattle.std.proofs.lemmas.Int.{to_z_pos}
use Rattle.sp_bounds.specs.Bounds.{link_window}
use Rattle.sp_model.specs.Problem.{problem}
use Rattle.sp_backup.proofs.Windows.{link_sum, apart-read, link_sum_small, link_window_is}
use Rattle.sp_backup.proofs.setting.link_window.Goals as goal

pub returns-clause-small : goal.returns-clause-small
returns-clause-small c =
    let n = c.variable_count.result + c.sight_count.result in
    let same = c.unsigned_abs-spread.ensures.value ∙ apart-read c.args.low c.args.high c.requires.low c.requires.high in
    let most = subst (λ (r : ℕ). link_sum n r c.slack_of.result ≤ 2 ^ 116) (sym same)
    (link_sum_small n c.slack_of.result c.args.low c.args.high (let v = c.variable_count.ensures.few in let s = c.sight_count.ensures.few in omega (arith, v, s)) c.slack_of.ensures.few c.requires.low c.requires.high) in
    subst (λ (z : ℤ). unsigned_abs z ≤ 2 ^ 116) (sym (to_z_pos w128 (link_sum n c.unsigned_abs-spread.result c.slack_of.result) (omega (arith, most)))) most

pub returns-clause-value : goal.returns-clause-value
returns-clause-value c =
    let n = c.variable_count.result + c.sight_count.result in
    let same = c.unsigned_abs-spread.ensures.value ∙ apart-read c.args.low c.args.high c.requires.low c.requires.high in
    let most = subst (λ (r : ℕ). link_sum n r c.slack_of.result ≤ 2 ^ 116) (sym same)
    (link_sum_small n c.slack_of.result c.args.low c.args.high (let v = c.variable_count.ensures.few in let s = c.sight_count.ensures.few in omega (arith, v, s)) c.slack_of.ensures.few c.requires.low c.requires.high) in
    to_z_pos w128 (link_sum n c.unsigned_abs-spread.result c.slack_of.result) (omega (arith, most))
    ∙ ap pos (link_window_is c.args.model.now n c.unsigned_abs-spread.result c.slack_of.result (λ i. c.variable_count.ensures.value i + c.sight_count.ensures.value i) c.slack_of.ensures.value ∙ ap (link_window (problem c.args.model.now) (2 ^ 62)) same)
