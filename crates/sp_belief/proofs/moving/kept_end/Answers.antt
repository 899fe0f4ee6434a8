use Rattle.std.proofs.Common.{◌≡◌, ◌<◌, ◌≤◌, ⊎_elim, subst, arith}
use Rattle.std.proofs.lemmas.Bool.{cases_lt}
use Rattle.sp_belief.specs.Tables.{IsKeptTable}
use Rattle.sp_belief.proofs.moving.kept_end.Goals as goal

pub loop-variable-preserved : goal.loop-variable-preserved
loop-variable-preserved c k l m =
    ⊎_elim
    (λ (x : k < c.loop-variable.variable). c.loop-variable.invariant k l x)
    (λ (x : c.loop-variable.variable ≤ k). subst (IsKeptTable c.args.model.now c.args.action) (let e : c.loop-variable.variable ≡ k = omega (arith, x, m) in e) c.if-not-is_kept.ensures)
    (cases_lt k c.loop-variable.variable)

pub returns-clause-kept : goal.returns-clause-kept
returns-clause-kept c k l m =
    let low : k < c.loop-variable.variable = omega (arith, m, c.loop-variable-test.false, c.variable_count.ensures.value, c.variable_count-variable-end.ensures.value) in
    c.loop-variable.invariant k l low
