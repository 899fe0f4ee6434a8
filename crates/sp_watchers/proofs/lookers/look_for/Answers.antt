use Rattle.sp_publish.proofs.PublishedLemmas.{goes_on_self, goes_on_trans}
use Rattle.sp_watchers.proofs.lookers.look_for.Goals as goal

pub loop-init : goal.loop-init
loop-init c = goes_on_self c.args.viewer.now

pub loop-preserved : goal.loop-preserved
loop-preserved c = goes_on_trans _ _ _ c.loop.invariant c.latest.ensures.goes_on
