use Rattle.std.proofs.Common.{arith, refl}
use Rattle.sp_model.proofs.Alike.{scopes_same}
use Rattle.sp_model.proofs.comparing.ScopeSame.same.Goals as goal

pub returns : goal.returns
returns c = (λ yes. scopes_same _ _ (omega arith) (omega arith) (λ k h. c.loop-slot.invariant k (omega arith)), λ same. refl)
