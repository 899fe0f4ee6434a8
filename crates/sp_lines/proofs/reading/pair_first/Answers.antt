use Rattle.sp_lines.proofs.Spaces.{pair_continues}
use Rattle.sp_lines.proofs.reading.pair_first.Goals as goal

pub returns-in-None : goal.returns-in-None
returns-in-None c = λ x y rest begins. c.in-None.ensures y rest (pair_continues c.args.text.now c.in_ok-first.first c.in_ok-first.middle.now x y rest c.in_ok-first.ensures begins)
