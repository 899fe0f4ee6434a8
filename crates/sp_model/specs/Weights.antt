-- The weights of a belief.
use Rattle.std.specs.Prelude.{◌^◌, pos, ◌≤ℤ◌, ◌<ℤ◌}
use Rattle.sp_dd.specs.Func.{Func, Everywhere, IsOnUnprimed}
use Rattle.sp_dd.specs.Operations.{state_total}

-- a whole number for each state, with a total above 2^61 and at most 2^62
pub record AreWeights (w : Func) : Type 0 where
  pub unprimed : IsOnUnprimed w
  pub not_negative : Everywhere w (λ v. pos 0 ≤ℤ v)
  pub above : pos (2 ^ 61) <ℤ state_total w
  pub at_most : state_total w ≤ℤ pos (2 ^ 62)
