-- Points as numbers, the last value fastest.
use Rattle.std.proofs.Common.{◌≡◌, ℕ, zero, suc, ◌+◌, ◌*◌, ◌/◌, ◌%◌, ◌<◌, List, [], ◌∷◌, refl, sym, ap, ◌∙◌, arith, add-suc, add-zero, ⊎_elim}
use Rattle.std.proofs.lemmas.Bool.{cases_lt}
use Rattle.std.specs.Prelude.{ℤ, ◌+ℤ◌}
use Rattle.std.proofs.lemmas.Nat.{div-mul-add, mod-mul-add, div-add-mod', mul-add-lt, mod_below, div_below}
use Rattle.std.proofs.Math.Nat.{mul_comm, zero-mul, mul-le-mul_left}
use Rattle.std.proofs.Math.IntN.{+ℤ_assoc, +ℤ_idr, +ℤ_idl}
use Rattle.sp_theory.specs.Sums.{sum_below}
use Rattle.sp_theory.specs.Points.{IsPoint, count_of, number, point_of, sum_over}
use Rattle.sp_theory.proofs.Whole.{sum_below_same}

pub sum_below-append : (a b : ℕ) (g : ℕ → ℤ) → sum_below (a + b) g ≡ sum_below a g +ℤ sum_below b (λ y. g (a + y))
unfolding sum_below
sum_below-append a zero g = ap (λ (n : ℕ). sum_below n g) (add-zero a) ∙ sym (+ℤ_idr (sum_below a g))
sum_below-append a (suc b) g = ap (λ (n : ℕ). sum_below n g) (add-suc a b) ∙ ap (λ (t : ℤ). t +ℤ g (a + b)) (sum_below-append a b g) ∙ +ℤ_assoc (sum_below a g) (sum_below b (λ y. g (a + y))) (g (a + b))

pub sum_below-rows : (k c : ℕ) (g : ℕ → ℤ) → sum_below (k * c) g ≡ sum_below k (λ x. sum_below c (λ y. g (x * c + y)))
unfolding sum_below
sum_below-rows zero c g = ap (λ (n : ℕ). sum_below n g) (zero-mul c)
sum_below-rows (suc k) c g =
    let e : suc k * c ≡ k * c + c = omega arith in
    ap (λ (n : ℕ). sum_below n g) e ∙ sum_below-append (k * c) c g ∙ ap (λ (t : ℤ). t +ℤ sum_below c (λ y. g (k * c + y))) (sum_below-rows k c g)

-- a sum over all points is one over all numbers
pub sum_over-numbers : (ks : List ℕ) (f : List ℕ → ℤ) → sum_over ks f ≡ sum_below (count_of ks) (λ n. f (point_of ks n))
unfolding sum_over point_of sum_below
sum_over-numbers [] f = one
  where
    one : f [] ≡ sum_below 1 (λ n. f [])
    one = sym (+ℤ_idl (f []))
sum_over-numbers (k ∷ ks) f =
    sum_below_same k _ _ (λ x less. sum_over-numbers ks (λ xs. f (x ∷ xs)) ∙ sum_below_same (count_of ks) _ _ (λ y within. λ h. f (sym (div-mul-add x (count_of ks) y within) h ∷ point_of ks (sym (mod-mul-add x (count_of ks) y within) h))))
    ∙ sym (sum_below-rows k (count_of ks) (λ n. f ((n / count_of ks) ∷ point_of ks (n % count_of ks))))

pub number-below : (ks xs : List ℕ) → IsPoint ks xs → number ks xs < count_of ks
number-below [] [] p = omega arith
number-below (k ∷ ks) (x ∷ xs) (less, p) = let rest = number-below ks xs p in let e = mul-add-lt x (count_of ks) (number ks xs) k less rest in omega (arith, e, mul_comm k (count_of ks))
number-below [] (x ∷ xs) p = absurd p
number-below (k ∷ ks) [] p = absurd p

pub point_of-number : (ks xs : List ℕ) → IsPoint ks xs → point_of ks (number ks xs) ≡ xs
unfolding point_of
point_of-number [] [] p = refl
point_of-number (k ∷ ks) (x ∷ xs) (less, p) =
    let rest = number-below ks xs p in
    (λ h. div-mul-add x (count_of ks) (number ks xs) rest h ∷ (ap (point_of ks) (mod-mul-add x (count_of ks) (number ks xs) rest) ∙ point_of-number ks xs p) h)
point_of-number [] (x ∷ xs) p = absurd p
point_of-number (k ∷ ks) [] p = absurd p

pub number-point_of : (ks : List ℕ) (n : ℕ) → n < count_of ks → number ks (point_of ks n) ≡ n
unfolding point_of
number-point_of [] n less = omega arith
number-point_of (k ∷ ks) n less =
    let some : 0 < count_of ks = ⊎_elim (λ (h : 0 < count_of ks). h) (λ h. absurd (omega (arith, mul-le-mul_left k h))) (cases_lt 0 (count_of ks)) in
    ap (λ (r : ℕ). n / count_of ks * count_of ks + r) (number-point_of ks (n % count_of ks) (mod_below n (count_of ks) some)) ∙ div-add-mod' n (count_of ks)

-- where there is a point, each variable has a value
pub some_of_each : (k : ℕ) (ks : List ℕ) → 0 < count_of (k ∷ ks) → (0 < k) × (0 < count_of ks)
some_of_each zero ks some = absurd (omega (arith, zero-mul (count_of ks)))
some_of_each (suc k) ks some = (omega arith, ⊎_elim (λ (h : 0 < count_of ks). h) (λ h. absurd (omega (arith, mul-le-mul_left (suc k) h))) (cases_lt 0 (count_of ks)))

pub point_of-point : (ks : List ℕ) (n : ℕ) → n < count_of ks → IsPoint ks (point_of ks n)
unfolding point_of
point_of-point [] n less = tt
point_of-point (k ∷ ks) n less =
    let some = (some_of_each k ks (omega arith)).1 in
    (div_below n (count_of ks) k some less, point_of-point ks (n % count_of ks) (mod_below n (count_of ks) some))
