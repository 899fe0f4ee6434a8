use Rattle.std.proofs.Common.{refl}
use Rattle.sp_dd.specs.Hashes.{mixed}
use Rattle.sp_dd.proofs.mixing.mix.Goals as goal

pub returns : goal.returns
unfolding mixed
returns c = refl
