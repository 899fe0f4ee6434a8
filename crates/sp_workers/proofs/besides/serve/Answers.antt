use Rattle.std.proofs.Common.{◌∙◌}
use Rattle.sp_workers.proofs.besides.serve.Goals as goal

pub step-requires-clause-list : goal.step-requires-clause-list
step-requires-clause-list g c = c.loop.invariant.later.known.list ∙ c.requires.list
