use Rattle.std.proofs.Common.{take}
use Rattle.std.specs.Prelude.{All}
use Rattle.sp_dd.specs.Func.{IsFunc}
use Rattle.sp_read_back.proofs.determined.factors_law.Given as goal

abbrev pub invariant-loop-factor : goal.invariant-loop-factor
invariant-loop-factor l = All (λ f. IsFunc f.func) (take l.factor-index l.factors)
