use Rattle.std.proofs.Common.{subst, get_or}
use Rattle.std.proofs.lemmas.Option.{get_or_from_slice_get}
use Rattle.sp_dd.specs.Func.{Func}
use Rattle.sp_backup.specs.Posteriors.{IsPosterior, no_posterior}
use Rattle.sp_backup.proofs.linking.link_at.Goals as goal

pub invariant_of-search : goal.invariant_of-search
invariant_of-search c =
    let p = c.args.setting.now.edition.now.task.model in
    let x = c.args.successors.now in
    record {
      action_known = c.requires.successors.action;
      joint_known = c.requires.joint;
      posterior_is = subst (IsPosterior p c.args.setting.now.weights.now x.action c.args.joint) (get_or_from_slice_get x.posteriors c.args.joint _ no_posterior c.at.ensures)
          (subst (λ (w : Func). IsPosterior p w x.action c.args.joint (get_or x.posteriors c.args.joint no_posterior)) c.requires.weights (c.requires.successors.posteriors.each c.args.joint c.requires.joint));
    }
