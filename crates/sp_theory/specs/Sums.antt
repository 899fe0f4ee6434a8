-- Whole numbers: products, rounded quotients, and sums, least and greatest of numbers in a row.
use Rattle.std.proofs.Common.{ℕ, zero, suc, Bool, true, ◌&&◌}
use Rattle.std.specs.Prelude.{ℤ, pos, ◌+ℤ◌, ◌*ℤ◌, neg_ℤ}
use Rattle.std.specs.Int.{int_div_euclid, int_min, int_max}

-- n times z
abbrev pub times : ℕ → ℤ → ℤ
times n z = pos n *ℤ z

-- the greatest whole number that is at most z / n, for n above 0
abbrev pub floor : ℤ → ℕ → ℤ
floor z n = int_div_euclid z (pos n)

-- the least whole number that is at least z / n, for n above 0
abbrev pub ceiling : ℤ → ℕ → ℤ
ceiling z n = neg_ℤ (floor (neg_ℤ z) n)

-- f 0 + f 1 + .. + f (n - 1)
unfoldable pub sum_below : ℕ → (ℕ → ℤ) → ℤ
sum_below zero f = pos 0
sum_below (suc n) f = sum_below n f +ℤ f n

-- the least of f 0 .. f (n - 1); of none, f 0
unfoldable pub least_below : ℕ → (ℕ → ℤ) → ℤ
least_below zero f = f 0
least_below (suc n) f = int_min (least_below n f) (f n)

-- the greatest of f 0 .. f (n - 1); of none, f 0
unfoldable pub greatest_below : ℕ → (ℕ → ℤ) → ℤ
greatest_below zero f = f 0
greatest_below (suc n) f = int_max (greatest_below n f) (f n)

-- whether the test passes at each of 0 .. n - 1
unfoldable pub holds_below : ℕ → (ℕ → Bool) → Bool
holds_below zero test = true
holds_below (suc n) test = holds_below n test && test n
