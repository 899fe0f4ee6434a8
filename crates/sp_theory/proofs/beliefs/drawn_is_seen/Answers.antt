use Rattle.sp_theory.proofs.Drawn.{drawn_seen}
use Rattle.sp_theory.proofs.beliefs.drawn_is_seen.Goals as goal

pub returns : goal.returns
returns c = drawn_seen
