use Rattle.std.proofs.Common.{◌≡◌, arith, refl}
use Rattle.sp_model.specs.declared.beliefs.Samples.{Samples}
use Rattle.sp_model.proofs.Alike.{lists_same}
use Rattle.sp_value.proofs.same.same_samples.Goals as goal

samples_same : (s t : Samples) → s.list ≡ t.list → s.depth ≡ t.depth → s ≡ t
samples_same s t e f = (λ i. let r : Samples = record { list = e i; depth = f i } in r)

pub returns : goal.returns
returns c = (λ yes. samples_same _ _ (lists_same _ _ (omega arith) (λ k h. c.loop-k.invariant k (omega arith))) (omega arith), λ same. refl)
