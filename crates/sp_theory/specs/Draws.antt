-- Draws of several values, one after another: joint probabilities, exact weighted sums, and weighing out with floors.
use Rattle.std.proofs.Common.{◌≡◌, ℕ, ◌*◌, ◌<◌, List, [], ◌∷◌}
use Rattle.std.specs.Prelude.{ℤ, pos}
use Rattle.sp_theory.specs.Sums.{times, floor, sum_below}
use Rattle.sp_theory.specs.Points.{sum_over}

-- the ticks of probability one, and of value one
unfoldable pub q : ℕ
q = 1000000000

-- the probability, in ticks, of the next value after the values that were drawn before it
abbrev pub Draws : Type 0
Draws = List ℕ → ℕ → ℕ

-- the draws that follow a first value x
abbrev pub after : ℕ → Draws → Draws
after x draws = λ before. draws (x ∷ before)

-- each draw's probabilities sum to one
abbrev pub AreProbabilitiesWhole : List ℕ → Draws → Type 0
AreProbabilitiesWhole [] draws = Unit {0}
AreProbabilitiesWhole (size ∷ sizes) draws = (sum_below size (λ x. pos (draws [] x)) ≡ pos q) × ((x : ℕ) → x < size → AreProbabilitiesWhole sizes (after x draws))

-- the joint probability of a point: the product of its values' probabilities, over q for each value
unfoldable pub chance : Draws → List ℕ → ℕ
chance draws [] = 1
chance draws (x ∷ xs) = draws [] x * chance (after x draws) xs

-- the exact expectation of f, over q for each value
abbrev pub mean : List ℕ → Draws → (List ℕ → ℤ) → ℤ
mean sizes draws f = sum_over sizes (λ xs. times (chance draws xs) (f xs))

-- one variable weighed out: the expectation of f by a row of probabilities, rounded down
abbrev pub weigh_out : ℕ → (ℕ → ℕ) → (ℕ → ℤ) → ℤ
weigh_out size row f = floor (sum_below size (λ x. times (row x) (f x))) q

-- the variables of a draw weighed out one at a time, the last one first
unfoldable pub floored_expectation : List ℕ → Draws → (List ℕ → ℤ) → ℤ
floored_expectation [] draws f = f []
floored_expectation (size ∷ sizes) draws f = weigh_out size (draws []) (λ x. floored_expectation sizes (after x draws) (λ xs. f (x ∷ xs)))

-- z times the probability of each value of a point in turn, rounded down each time
unfoldable pub thinned : Draws → List ℕ → ℤ → ℤ
thinned draws [] z = z
thinned draws (x ∷ xs) z = thinned (after x draws) xs (floor (times (draws [] x) z) q)
