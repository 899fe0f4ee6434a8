use Rattle.sp_theory.proofs.Greatest.{greatest_is_least}
use Rattle.std.proofs.Common.{ℕ}
use Rattle.sp_theory.specs.Values.{Member}
use Rattle.sp_theory.proofs.greatest_is_least.Goals as goal

pub returns : goal.returns
returns c = (greatest_is_least Member, greatest_is_least ℕ)
