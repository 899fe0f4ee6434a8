use Rattle.std.proofs.Common.{◌∷◌, []}
use Rattle.sp_lines.proofs.Spaces.{spaced_rest}
use Rattle.sp_lines.proofs.reading.three_numbers.Goals as goal

pub returns-in-None : goal.returns-in-None
returns-in-None c = λ x y z small less little e. c.in-None.ensures y z less little (spaced_rest c.args.text.now c.in_ok-first.first c.in_ok-first.rest.now x (y ∷ z ∷ []) c.in_ok-first.ensures small e).1
