use Rattle.std.proofs.Common.{rules, arith, refl, ap, ◌∙◌, length, true, false}
use Rattle.std.specs.Int.{w128}
use Rattle.std.specs.Prelude.{FitsSigned}
use Rattle.std.proofs.lemmas.Int.{to_z-of_z}
use Rattle.sp_model.specs.Links.{weights_of}
use Rattle.sp_value.proofs.BestMember.{best_first, best_next, best_last}
use Rattle.sp_backup.proofs.LinkSums.{best_link}
use Rattle.sp_backup.proofs.BestLink.{link_single}
use Rattle.sp_backup.proofs.pulling.pulled_link.Goals as goal
use Rattle.sp_backup.proofs.pulling.pulled_link.Goals.{then-is_better, else-is_better}

pub returns-then-len-eq1-clause-link : goal.returns-then-len-eq1-clause-link
returns-then-len-eq1-clause-link c =
    let e = c.args.setting.now.edition.now in
    let long = ap length c.members-members.ensures.value in
    link_single e (weights_of e.task.model c.args.setting.now.weights.now) c.args.action c.args.joint (omega (arith, long))

pub loop-k-init : goal.loop-k-init
loop-k-init c =
    let fits : FitsSigned w128 c.in_ok-most.most = search rules in
    record {
      kept = c.estimate.ensures.kept ∙ c.requires.kept;
      best = best_first _ _ c.members-members.ensures.known.some _ (to_z-of_z w128 _ fits ∙ c.in_ok-most.ensures.value);
    }

pub loop-k-preserved : goal.loop-k-preserved
loop-k-preserved c =
    let fits : FitsSigned w128 c.in_ok-sum.sum = search rules in
    let long = ap length c.members-members.ensures.value in
    let sum = to_z-of_z w128 _ fits ∙ c.in_ok-sum.ensures.value in
    record {
      kept = c.estimate-in-loop-k.ensures.kept ∙ c.loop-k.invariant.kept;
      best = elim c.if-is_better.branch [
        | then-is_better w ↦ best_next _ _ _ c.members-members.ensures.value c.loop-k.place c.loop-k.k _ _ true _ _ _ _ _ c.loop-k.invariant.best (omega (arith, long)) sum c.at.ensures c.at-in-loop-k.ensures w.if-is_better.ensures w.place-is w.most-is refl
        | else-is_better w ↦ best_next _ _ _ c.members-members.ensures.value c.loop-k.place c.loop-k.k _ _ false _ _ _ _ _ c.loop-k.invariant.best (omega (arith, long)) sum c.at.ensures c.at-in-loop-k.ensures w.if-is_better.ensures w.place-is w.most-is refl
      ];
    }

pub returns-clause-link : goal.returns-clause-link
returns-clause-link c = let long = ap length c.members-members.ensures.value in best_link _ _ _ _ _ _ (best_last _ _ _ _ _ c.loop-k.invariant.best (omega (arith, long)))
