use Rattle.sp_theory.proofs.Range.{least_return_bound, top_bound}
use Rattle.sp_theory.proofs.range_is_bounded.Goals as goal

pub returns : goal.returns
returns c m lawful states small r range = (least_return_bound m lawful states small r (λ a s next known at to. (range a s next known at to).0), top_bound m lawful states small r (λ a s next known at to. (range a s next known at to).1))
