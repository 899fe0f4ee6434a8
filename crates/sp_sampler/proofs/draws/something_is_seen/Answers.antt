use Rattle.sp_sampler.proofs.Scales.{something_can_be_seen}
use Rattle.sp_sampler.proofs.draws.something_is_seen.Goals as goal

pub returns : goal.returns
returns c = something_can_be_seen _ c.parts.ensures.known _ c.func.ensures.known c.args.carried.now.scope _ c.args.carried.now.known
