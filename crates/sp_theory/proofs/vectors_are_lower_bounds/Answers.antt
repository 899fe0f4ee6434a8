use Rattle.sp_theory.proofs.Returns.{from_least, to_top, return_low}
use Rattle.std.proofs.Common.{arith}
use Rattle.sp_theory.proofs.vectors_are_lower_bounds.Goals as goal

pub returns : goal.returns
returns c m lawful records plan values i s less at = (return_low m lawful records plan values i i s (omega arith) less at, from_least m lawful records plan values i s less, to_top m lawful records plan values i i s (omega arith) less at)
