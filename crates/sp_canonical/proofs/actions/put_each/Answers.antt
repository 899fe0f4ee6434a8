use Rattle.std.proofs.Common.{ℕ, ◌+◌, ◌++◌, ◌∙◌, drop, sym, ap}
use Rattle.sp_canonical.specs.ModelSigns.{action_signs, actions_signs}
use Rattle.sp_canonical.proofs.Loops.{went_on, next_action}
use Rattle.sp_canonical.proofs.actions.put_each.Goals as goal

pub loop-i-preserved : goal.loop-i-preserved
loop-i-preserved c =
    let a = c.index-actions-i.result in
    went_on _ _ _ _ _ (action_signs c.args.parts.now c.loop-i.base a) _ c.loop-i.invariant c.in_ok-base.ensures.text
    (next_action c.args.parts.now c.loop-i.base c.as_slice-actions.result.now c.loop-i.i a c.loop-i-test.true c.index-actions-i.is
    ∙ ap (λ (n : ℕ). action_signs c.args.parts.now c.loop-i.base a ++ actions_signs c.args.parts.now n (drop (c.loop-i.i + 1) c.as_slice-actions.result.now)) (sym c.in_ok-base.ensures.next))
