use Rattle.std.proofs.Common.{◌≡◌, rules, arith, refl, ap, ◌∙◌, length, true, false, to_z, of_z}
use Rattle.std.specs.Int.{w128}
use Rattle.std.specs.Prelude.{FitsSigned}
use Rattle.std.proofs.lemmas.Int.{to_z-of_z}
use Rattle.sp_model.specs.declared.parts.Parts.{Parts}
use Rattle.sp_value.specs.Scores.{outdoes}
use Rattle.sp_backup.proofs.Trials.{trial_first, trial_next, trial_last}
use Rattle.sp_backup.proofs.pulling.pulled_trial.Goals as goal
use Rattle.sp_backup.proofs.pulling.pulled_trial.Goals.{then-is_better, else-is_better}

pub loop-action-init : goal.loop-action-init
loop-action-init c = record { kept = c.tried.ensures.kept ∙ c.requires; best = trial_first _ _ _ c.members.ensures.known.task.model.some_action c.in_ok-best.ensures.trial }

pub loop-action-preserved : goal.loop-action-preserved
loop-action-preserved c =
    let count = ap (λ (p : Parts). length p.actions) c.model_of.ensures.value in
    let new : FitsSigned w128 c.in_ok-next.next.sum = search rules in
    let old : FitsSigned w128 c.loop-action.best.sum = search rules in
    let plain : outdoes (to_z w128 (of_z w128 c.in_ok-next.next.sum)) c.in_ok-next.next.action (to_z w128 (of_z w128 c.loop-action.best.sum)) c.loop-action.best.action ≡ outdoes c.in_ok-next.next.sum c.in_ok-next.next.action c.loop-action.best.sum c.loop-action.best.action = λ i. outdoes (to_z-of_z w128 _ new i) c.in_ok-next.next.action (to_z-of_z w128 _ old i) c.loop-action.best.action in
    record {
      kept = c.tried-in-loop-action.ensures.kept ∙ c.loop-action.invariant.kept;
      best = elim c.if-is_better.branch [
        | then-is_better w ↦ trial_next _ _ c.loop-action.action _ _ _ _ true c.loop-action.invariant.best (omega (arith, count)) c.in_ok-next.ensures.trial (w.if-is_better.ensures ∙ plain) refl w.best-is
        | else-is_better w ↦ trial_next _ _ c.loop-action.action _ _ _ _ false c.loop-action.invariant.best (omega (arith, count)) c.in_ok-next.ensures.trial (w.if-is_better.ensures ∙ plain) refl w.best-is
      ];
    }

pub returns-clause-trial : goal.returns-clause-trial
returns-clause-trial c = let count = ap (λ (p : Parts). length p.actions) c.model_of.ensures.value in trial_last _ _ c.loop-action.action _ c.loop-action.invariant.best (omega (arith, count))
