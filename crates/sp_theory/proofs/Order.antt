-- Cases on the order of numbers.
use Rattle.std.proofs.Common.{◌≡◌, ℕ, ◌<◌, Bool, true, false, cond, not, eqb, ◌≢◌, ⊎_elim}
use Rattle.std.specs.Prelude.{ℤ, ◌+ℤ◌, ◌≤ℤ◌}
use Rattle.std.specs.Int.{int_min, int_max}
use Rattle.std.proofs.lemmas.Bool.{cases_order}
use Rattle.std.proofs.lemmas.Bool.Decides.{Decides-eqb}
use Rattle.std.proofs.lemmas.Int.{ints, clamps}
use Rattle.std.proofs.Common.{arith}

pub by_order : {P : Type 0} (i n : ℕ) → (i < n → P) → (i ≡ n → P) → (n < i → P) → P
by_order i n below at above = ⊎_elim at (λ rest. ⊎_elim below above rest) (cases_order i n)

pub max_case : (P : ℤ → Type 0) (x y : ℤ) → P x → P y → P (int_max x y)
max_case P x y low high = by_test _
  where
    by_test : (t : Bool) → P (cond t x y)
    by_test true = low
    by_test false = high

pub min_case : (P : ℤ → Type 0) (x y : ℤ) → P x → P y → P (int_min x y)
min_case P x y low high = by_test _
  where
    by_test : (t : Bool) → P (cond t y x)
    by_test true = high
    by_test false = low

pub int_max_right : (x y : ℤ) → y ≤ℤ int_max x y
int_max_right x y = omega (arith, ints, clamps)

pub int_max_left : (x y : ℤ) → x ≤ℤ int_max x y
int_max_left x y = omega (arith, ints, clamps)

pub add_left_mono : (b c d : ℤ) → c ≤ℤ d → (b +ℤ c) ≤ℤ (b +ℤ d)
add_left_mono b c d h = omega (arith, ints)

pub add_right_mono : (a b c : ℤ) → a ≤ℤ b → (a +ℤ c) ≤ℤ (b +ℤ c)
add_right_mono a b c h = omega (arith, ints)

pub same_from : {a b : ℤ} → a ≤ℤ b → b ≤ℤ a → a ≡ b
same_from h k = omega (arith, ints)

pub not_eqb : (x y : ℕ) → not (eqb x y) ≡ true → x ≢ y
not_eqb x y e same = let yes : eqb x y ≡ true = (Decides-eqb x y).1 same in absurd (cc)
