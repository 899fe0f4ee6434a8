-- The scale of belief weights: a total in (2^61, 2^62].
use Rattle.std.proofs.Common.{ℕ, zero, suc, ◌*◌, ◌^◌, ◌<◌, ◌≤◌, cond}
use Rattle.std.specs.Prelude.{unsigned_abs, nat_le}
use Rattle.sp_theory.specs.Model.{Model}
use Rattle.sp_theory.specs.Values.{Weights, total}

-- the total of the weights, as a number without a sign
abbrev pub total_weight : Model → Weights → ℕ
total_weight m w = unsigned_abs (total m w)

-- the weights are to scale: their total is above 2^61 and at most 2^62
pub record IsScaled (m : Model) (w : Weights) : Type 0 where
  pub above : 2 ^ 61 < total_weight m w
  pub within : total_weight m w ≤ 2 ^ 62

-- the greatest power of two, of 2^0 .. 2^k, that takes n to at most 2^62; 1 where none does
unfoldable pub greatest_power : ℕ → ℕ → ℕ
greatest_power zero n = 1
greatest_power (suc k) n = cond (nat_le (n * 2 ^ suc k) (2 ^ 62)) (2 ^ suc k) (greatest_power k n)

-- the weights to scale: multiplied by the greatest power of two that keeps their total at most 2^62
unfoldable pub scaled_weights : Model → Weights → Weights
scaled_weights m w = λ s. w s * greatest_power 62 (total_weight m w)
