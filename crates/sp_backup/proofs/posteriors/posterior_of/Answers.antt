use Rattle.sp_backup.proofs.PosteriorLists.{posterior_is}
use Rattle.sp_backup.proofs.posteriors.posterior_of.Goals as goal

pub returns-clause-is : goal.returns-clause-is
returns-clause-is c =
    let x = c.args.carried.now in
    posterior_is x.model.now x.weights.now x.action c.args.joint c.args.raw.now c.in_ok-weights.weights c.in_ok-list.list c.in_ok-is_alike.is_alike c.requires.raw c.in_ok-weights.ensures c.in_ok-list.ensures c.in_ok-is_alike.ensures.alike
