use Rattle.std.proofs.Common.{ℕ, arith, refl, sym, ap, ◌∙◌, subst, length}
use Rattle.std.specs.Prelude.{IfOk}
use Rattle.sp_model.specs.declared.parts.Parts.{Parts}
use Rattle.sp_model.specs.Links.{weights_of}
use Rattle.sp_backup.specs.Trials.{IsTrial}
use Rattle.sp_backup.proofs.Promised.{action_first, action_next, action_last}
use Rattle.sp_backup.proofs.promises.pushed_trial.Goals as goal

pub loop-action-init : goal.loop-action-init
loop-action-init c = record { kept = c.promised.ensures.kept ∙ c.requires; best = action_first _ _ c.in_ok-best.best c.members.ensures.known.task.model.some_action c.in_ok-best.ensures.action c.in_ok-best.ensures.is }

pub loop-action-preserved : goal.loop-action-preserved
loop-action-preserved c =
    let count = ap (λ (p : Parts). length p.actions) c.model_of.ensures.value in
    record {
      kept = c.promised-in-loop-action.ensures.kept ∙ c.loop-action.invariant.kept;
      best = action_next _ _ c.loop-action.action _ c.loop-action.best c.in_ok-next.next c.in_ok-best-2.best c.loop-action.invariant.best (omega (arith, count)) c.in_ok-next.ensures.action c.in_ok-best-2.ensures.is c.in_ok-best-2.ensures.chosen refl;
    }

pub returns-clause-trial : goal.returns-clause-trial
returns-clause-trial c =
    let e = c.args.setting.now.edition.now in
    let w = weights_of e.task.model c.args.setting.now.weights.now in
    let count = ap (λ (p : Parts). length p.actions) c.model_of.ensures.value in
    subst (λ (a : ℕ). IfOk c.trial_from.result (IsTrial e w a)) (sym (action_last e w c.loop-action.action c.loop-action.best c.loop-action.invariant.best (omega (arith, count)))) c.trial_from.ensures
