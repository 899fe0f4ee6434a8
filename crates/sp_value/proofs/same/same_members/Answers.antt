use Rattle.std.proofs.Common.{arith, refl}
use Rattle.sp_model.proofs.Alike.{lists_same}
use Rattle.sp_value.proofs.same.same_members.Goals as goal

pub returns : goal.returns
returns c = (λ yes. lists_same _ _ (omega arith) (λ k h. c.loop-k.invariant k (omega arith)), λ same. refl)
