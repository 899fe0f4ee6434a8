use Rattle.sp_sampler.proofs.Drawing.{exceeds_here}
use Rattle.sp_sampler.proofs.draws.first_above.Goals as goal

pub returns-then-target-running : goal.returns-then-target-running
returns-then-target-running c = exceeds_here _ _ _ _ c.loop-place.invariant.running c.loop-place.invariant.before c.loop-place-test.true c.if-target-running.true
