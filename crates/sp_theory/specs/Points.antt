-- Points: one value for each of several variables. A state is a point, and so is a joint observation.
use Rattle.std.proofs.Common.{ℕ, ◌+◌, ◌*◌, ◌/◌, ◌%◌, ◌<◌, zero, suc, List, [], ◌∷◌, Bool}
use Rattle.std.specs.Prelude.{ℤ}
use Rattle.sp_theory.specs.Sums.{sum_below, least_below, greatest_below, holds_below}

-- a value below each size
abbrev pub IsPoint : List ℕ → List ℕ → Type 0
IsPoint [] [] = Unit {0}
IsPoint (size ∷ sizes) (x ∷ xs) = (x < size) × IsPoint sizes xs
IsPoint [] (x ∷ xs) = ⊥
IsPoint (size ∷ sizes) [] = ⊥

-- how many points there are
abbrev pub count_of : List ℕ → ℕ
count_of [] = 1
count_of (size ∷ sizes) = size * count_of sizes

-- the number of a point: the last variable is the fastest
abbrev pub number : List ℕ → List ℕ → ℕ
number [] xs = 0
number (size ∷ sizes) [] = 0
number (size ∷ sizes) (x ∷ xs) = x * count_of sizes + number sizes xs

-- the point of a number
unfoldable pub point_of : List ℕ → ℕ → List ℕ
point_of [] n = []
point_of (size ∷ sizes) n = (n / count_of sizes) ∷ point_of sizes (n % count_of sizes)

-- the point with the value x for variable i
abbrev pub put : List ℕ → ℕ → ℕ → List ℕ
put [] i x = []
put (y ∷ ys) zero x = x ∷ ys
put (y ∷ ys) (suc i) x = y ∷ put ys i x

-- the sum of f over all points
unfoldable pub sum_over : List ℕ → (List ℕ → ℤ) → ℤ
sum_over [] f = f []
sum_over (size ∷ sizes) f = sum_below size (λ x. sum_over sizes (λ xs. f (x ∷ xs)))

-- the least of f over all points
unfoldable pub least_over : List ℕ → (List ℕ → ℤ) → ℤ
least_over [] f = f []
least_over (size ∷ sizes) f = least_below size (λ x. least_over sizes (λ xs. f (x ∷ xs)))

-- the greatest of f over all points
unfoldable pub greatest_over : List ℕ → (List ℕ → ℤ) → ℤ
greatest_over [] f = f []
greatest_over (size ∷ sizes) f = greatest_below size (λ x. greatest_over sizes (λ xs. f (x ∷ xs)))

-- whether the test passes at each point
unfoldable pub holds_over : List ℕ → (List ℕ → Bool) → Bool
holds_over [] test = test []
holds_over (size ∷ sizes) test = holds_below size (λ x. holds_over sizes (λ xs. test (x ∷ xs)))
