-- Sums of slots are sums of draws.
use Rattle.std.proofs.Common.{◌≡◌, ℕ, zero, suc, ◌<◌, refl, arith}
use Rattle.std.specs.Prelude.{ℤ, pos, neg_ℤ, ◌+ℤ◌, ◌-ℤ◌, ◌≤ℤ◌, unsigned_abs}
use Rattle.std.proofs.lemmas.Int.{ints}
use Rattle.sp_dd.specs.Floors.{sum_to}
use Rattle.sp_theory.specs.Sums.{sum_below}

pub sum_to-sum_below : (n : ℕ) (f g : ℕ → ℤ) → ((v : ℕ) → v < n → f v ≡ g v) → sum_below n f ≡ sum_to n g
unfolding sum_below
sum_to-sum_below zero f g same = refl
sum_to-sum_below (suc n) f g same = let rest = sum_to-sum_below n f g (λ v less. same v (omega arith)) in let last = same n (omega arith) in (λ i. rest i +ℤ last i)

-- a number that isn't negative is its magnitude
pub pos-unsigned_abs : (z : ℤ) → pos 0 ≤ℤ z → pos (unsigned_abs z) ≡ z
pos-unsigned_abs z h = omega (arith, ints)

pub zero_minus : (z : ℤ) → pos 0 -ℤ z ≡ neg_ℤ z
zero_minus z = omega (arith, ints)
