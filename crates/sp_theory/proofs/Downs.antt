-- How often a test fails below a number, and lists of different numbers below it.
use Rattle.std.proofs.Common.{◌≡◌, ◌≢◌, ℕ, zero, suc, ◌+◌, ◌<◌, ◌≤◌, List, [], ◌∷◌, length, refl, sym, ap, ◌∙◌, arith, Bool, true, false, cond, ◌||◌, eqb, ◌⊎◌, inl, inr}
use Rattle.std.proofs.lemmas.Bool.{ne_eqb}
use Rattle.std.proofs.lemmas.Bool.Decides.{eqb_tells}
use Rattle.sp_theory.proofs.Order.{by_order}
use Rattle.sp_theory.proofs.Carried.{Every}
use Rattle.sp_theory.proofs.Once.{Apart}

-- how many of 0 .. n - 1 fail
unfoldable pub downs : ℕ → (ℕ → Bool) → ℕ
downs zero test = 0
downs (suc n) test = cond (test n) 0 1 + downs n test

pub downs_most : (n : ℕ) (f : ℕ → Bool) → downs n f ≤ n
unfolding downs
downs_most zero f = omega arith
downs_most (suc n) f = by_test (f n) (downs_most n f)
  where
    by_test : (b : Bool) → downs n f ≤ n → cond b 0 1 + downs n f ≤ suc n
    by_test true h = omega (arith, h)
    by_test false h = omega (arith, h)

-- where more pass, no more fail
pub downs_fewer : (n : ℕ) (f g : ℕ → Bool) → ((k : ℕ) → k < n → f k ≡ true → g k ≡ true) → downs n g ≤ downs n f
unfolding downs
downs_fewer zero f g h = omega arith
downs_fewer (suc n) f g h = by_test (f n) (g n) refl refl (downs_fewer n f g (λ k less. h k (omega (arith, less))))
  where
    by_test : (a b : Bool) → f n ≡ a → g n ≡ b → downs n g ≤ downs n f → cond b 0 1 + downs n g ≤ cond a 0 1 + downs n f
    by_test true true e i r = omega (arith, r)
    by_test true false e i r = absurd (let up = h n (omega arith) e in cc)
    by_test false true e i r = omega (arith, r)
    by_test false false e i r = omega (arith, r)

-- and where one more passes, fewer fail
pub downs_less : (n : ℕ) (f g : ℕ → Bool) → ((k : ℕ) → k < n → f k ≡ true → g k ≡ true) → (k : ℕ) → k < n → f k ≡ false → g k ≡ true → downs n g < downs n f
unfolding downs
downs_less zero f g h k less down up = absurd (omega (arith, less))
downs_less (suc n) f g h k less down up =
    by_order k n
    (λ before. earlier (f n) (g n) refl refl (downs_less n f g (λ j low. h j (omega (arith, low))) k before down up))
    (λ last. now (f n) (g n) (sym (ap f last) ∙ down) (sym (ap g last) ∙ up) (downs_fewer n f g (λ j low. h j (omega (arith, low)))))
    (λ past. absurd (omega (arith, less, past)))
  where
    earlier : (a b : Bool) → f n ≡ a → g n ≡ b → downs n g < downs n f → cond b 0 1 + downs n g < cond a 0 1 + downs n f
    earlier true true e i r = omega (arith, r)
    earlier true false e i r = absurd (let up = h n (omega arith) e in cc)
    earlier false true e i r = omega (arith, r)
    earlier false false e i r = omega (arith, r)

    now : (a b : Bool) → a ≡ false → b ≡ true → downs n g ≤ downs n f → cond b 0 1 + downs n g < cond a 0 1 + downs n f
    now false true e i r = omega (arith, r)
    now true b e i r = absurd (cc)
    now false false e i r = absurd (cc)

-- ---- different numbers
same_eqb : (n : ℕ) → eqb n n ≡ true
same_eqb n = by_test (eqb_tells n n)
  where
    by_test : ((eqb n n ≡ true) × (n ≡ n)) ⊎ ((eqb n n ≡ false) × (n ≢ n)) → eqb n n ≡ true
    by_test (inl (e, is)) = e
    by_test (inr (e, differ)) = absurd (differ refl)

-- different numbers below n at which a test fails are no more than the failures
pub fits : (n : ℕ) (is : List ℕ) (f : ℕ → Bool) → Every (λ i. i < n) is → Every (λ i. f i ≡ false) is → Apart is → length is ≤ downs n f
fits n [] f low free apart = omega arith
fits n (i ∷ is) f (low, rest) (free, frees) (differ, apart) =
    let more = fits n is (λ j. f j || eqb j i) rest (still_free is frees differ) apart in
    let less = downs_less n f (λ j. f j || eqb j i) (λ k within up. ap (λ (b : Bool). b || eqb k i) up) i low free (ap (λ (b : Bool). b || eqb i i) free ∙ same_eqb i) in
    omega (arith, more, less)
  where
    still_free : (js : List ℕ) → Every (λ j. f j ≡ false) js → Every (λ j. i ≢ j) js → Every (λ j. (f j || eqb j i) ≡ false) js
    still_free [] h other = tt
    still_free (j ∷ js) (here, h) (apart, other) = (ap (λ (b : Bool). b || eqb j i) here ∙ ne_eqb j i (λ same. apart (sym same)), still_free js h other)

pub different_most : (n : ℕ) (is : List ℕ) → Every (λ i. i < n) is → Apart is → length is ≤ n
different_most n is low apart = let all = fits n is (λ k. false) low (none is) apart in let most = downs_most n (λ k. false) in omega (arith, all, most)
  where
    none : (js : List ℕ) → Every (λ (j : ℕ). false ≡ false) js
    none [] = tt
    none (j ∷ js) = (refl, none js)
