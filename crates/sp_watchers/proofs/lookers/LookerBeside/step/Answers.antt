use Rattle.sp_publish.proofs.PublishedLemmas.{goes_on_trans}
use Rattle.sp_watchers.proofs.lookers.LookerBeside.step.Goals as goal

pub returns-in_err-look_for-clause-known : goal.returns-in_err-look_for-clause-known
returns-in_err-look_for-clause-known c = goes_on_trans _ _ _ c.learn.ensures.goes_on c.look_for.ensures

pub returns-clause-known : goal.returns-clause-known
returns-clause-known c = goes_on_trans _ _ _ c.learn.ensures.goes_on c.look_for.ensures
