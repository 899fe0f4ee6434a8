use Rattle.std.proofs.Common.{arith, refl}
use Rattle.sp_model.proofs.Alike.{lists_same}
use Rattle.sp_model.proofs.comparing.SequenceSame.same.Goals as goal

pub returns : goal.returns
returns g c = (λ yes. lists_same _ _ (omega arith) (λ k h. c.loop-place.invariant k (omega arith)), λ same. refl)
