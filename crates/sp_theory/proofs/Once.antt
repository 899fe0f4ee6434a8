-- Sums over the values of variables of which each comes once.
use Rattle.std.proofs.Common.{◌≡◌, ◌≢◌, ℕ, zero, suc, ◌+◌, ◌<◌, ◌≤◌, List, [], ◌∷◌, ◌++◌, length, get_or, refl, sym, ap, ◌∙◌, arith, zero-add, Bool, true, false, not, cond, eqb, subst, ◌⊎◌, inl, inr}
use Rattle.std.proofs.Math.Dec.{leb}
use Rattle.std.specs.Prelude.{filter, AllPairs, Contains}
use Rattle.std.specs.List.{range_with_len}
use Rattle.std.proofs.lemmas.Bool.{eqb-true, leb-true, le-leb}
use Rattle.std.proofs.lemmas.Bool.Decides.{eqb_tells, leb_tells}
use Rattle.sp_theory.specs.Model.{State, Vector, sum_over_own}
use Rattle.sp_theory.specs.Points.{put}
use Rattle.sp_theory.specs.Beliefs.{Transfer, summed_out, all_summed_out}
use Rattle.sp_theory.proofs.Whole.{sum_below_same}
use Rattle.sp_theory.proofs.Carried.{Every, Every-filter, all-commutes, all-partition}

-- ---- one list after another
pub all-append : (sizes xs ys : List ℕ) (f : Transfer) (s t : State) → all_summed_out sizes (xs ++ ys) f s t ≡ all_summed_out sizes ys (all_summed_out sizes xs f) s t
unfolding all_summed_out
all-append sizes [] ys f s t = refl
all-append sizes (i ∷ xs) ys f s t = all-append sizes xs ys (summed_out sizes i f) s t

-- the sum over a factor's own variables, as it is there
pub own-all : (sizes own : List ℕ) (f : Vector) (s t : State) → sum_over_own sizes own f s ≡ all_summed_out sizes own (λ s t. f s) s t
unfolding sum_over_own all_summed_out
own-all sizes [] f s t = refl
own-all sizes (i ∷ own) f s t = sum_below_same (get_or sizes i 0) _ _ (λ x less. own-all sizes own f (put s i x) t) ∙ all-commutes sizes own i (λ s t. f s) s t

-- ---- lists of which each element differs from the others
abbrev pub Apart : List ℕ → Type 0
Apart [] = Unit {0}
Apart (i ∷ is) = Every (λ j. i ≢ j) is × Apart is

pub Every-append : {X : Type 0} (R : X → Type 0) (xs ys : List X) → Every R (xs ++ ys) → Every R xs × Every R ys
Every-append R [] ys h = (tt, h)
Every-append R (x ∷ xs) ys (here, rest) = let two = Every-append R xs ys rest in ((here, two.0), two.1)

pub Apart-append : (xs ys : List ℕ) → Apart (xs ++ ys) → Every (λ i. Every (λ j. i ≢ j) ys) xs × Apart ys
Apart-append [] ys h = (tt, h)
Apart-append (x ∷ xs) ys (here, rest) = let two = Apart-append xs ys rest in (((Every-append (λ j. x ≢ j) xs ys here).1, two.0), two.1)

pub Every-at : {X : Type 0} (R : X → Type 0) (d : X) (xs : List X) → ((k : ℕ) → k < length xs → R (get_or xs k d)) → Every R xs
Every-at R d [] h = tt
Every-at R d (x ∷ xs) h = (h 0 (omega arith), Every-at R d xs (λ k less. h (suc k) (omega arith)))

pub Apart-at : (xs : List ℕ) → AllPairs (λ i j. i ≢ j) xs → Apart xs
Apart-at [] h = tt
Apart-at (x ∷ xs) h = (Every-at (λ j. x ≢ j) 0 xs (λ k less. h 0 (suc k) 0 (omega arith) (omega arith)), Apart-at xs (λ i j d before less. h (suc i) (suc j) d (omega arith) (omega arith)))

-- the tests that keep one element and all that are another
none_kept : (v : ℕ) (xs : List ℕ) → Every (λ j. v ≢ j) xs → filter (λ i. eqb i v) xs ≡ []
none_kept v [] h = refl
none_kept v (x ∷ xs) (differ, rest) = by_test (eqb_tells x v) (none_kept v xs rest)
  where
    by_test : ((eqb x v ≡ true) × (x ≡ v)) ⊎ ((eqb x v ≡ false) × (x ≢ v)) → filter (λ i. eqb i v) xs ≡ [] → cond (eqb x v) (x ∷ filter (λ i. eqb i v) xs) (filter (λ i. eqb i v) xs) ≡ []
    by_test (inl (e, is)) h = absurd (differ (sym is))
    by_test (inr (e, other)) h = ap (λ (b : Bool). cond b (x ∷ filter (λ i. eqb i v) xs) (filter (λ i. eqb i v) xs)) e ∙ h

pub one_kept : (v : ℕ) (xs : List ℕ) → Apart xs → Contains xs v → filter (λ i. eqb i v) xs ≡ v ∷ []
one_kept v [] apart (k, less, e) = absurd (omega arith)
one_kept v (x ∷ xs) (here, rest) (k, less, e) = by_test (eqb_tells x v) (one_kept v xs rest) k less e
  where
    by_test : ((eqb x v ≡ true) × (x ≡ v)) ⊎ ((eqb x v ≡ false) × (x ≢ v)) → (Contains xs v → filter (λ i. eqb i v) xs ≡ v ∷ []) → (k : ℕ) → k < suc (length xs) → get_or (x ∷ xs) k v ≡ v
        → cond (eqb x v) (x ∷ filter (λ i. eqb i v) xs) (filter (λ i. eqb i v) xs) ≡ v ∷ []
    by_test (inl (e, is)) h k less at = ap (λ (b : Bool). cond b (x ∷ filter (λ i. eqb i v) xs) (filter (λ i. eqb i v) xs)) e ∙ (λ j. is j ∷ none_kept v xs (subst (λ (y : ℕ). Every (λ j. y ≢ j) xs) is here) j)
    by_test (inr (e, other)) h zero less at = absurd (other at)
    by_test (inr (e, other)) h (suc k) less at = ap (λ (b : Bool). cond b (x ∷ filter (λ i. eqb i v) xs) (filter (λ i. eqb i v) xs)) e ∙ h (k, omega arith, at)

-- ---- filters
filter_through : (p r : ℕ → Bool) → ((i : ℕ) → r i ≡ true → p i ≡ true) → (is : List ℕ) → filter r (filter p is) ≡ filter r is
filter_through p r h [] = refl
filter_through p r h (i ∷ is) = by_test (p i) (r i) refl refl (filter_through p r h is)
  where
    by_test : (a b : Bool) → p i ≡ a → r i ≡ b → filter r (filter p is) ≡ filter r is → filter r (cond a (i ∷ filter p is) (filter p is)) ≡ cond b (i ∷ filter r is) (filter r is)
    by_test true true e f same = ap (λ (c : Bool). cond c (i ∷ filter r (filter p is)) (filter r (filter p is))) f ∙ ap (λ (js : List ℕ). i ∷ js) same
    by_test true false e f same = ap (λ (c : Bool). cond c (i ∷ filter r (filter p is)) (filter r (filter p is))) f ∙ same
    by_test false true e f same = absurd (let g = h i f in cc)
    by_test false false e f same = same

filter_same : (p r : ℕ → Bool) (is : List ℕ) → Every (λ i. p i ≡ r i) is → filter p is ≡ filter r is
filter_same p r [] h = refl
filter_same p r (i ∷ is) (here, rest) = (λ j. cond (here j) (i ∷ filter_same p r is rest j) (filter_same p r is rest j))

range-push : (a n : ℕ) → range_with_len a (suc n) ≡ range_with_len a n ++ (a + n) ∷ []
range-push a zero = ap (λ (i : ℕ). i ∷ []) (first a)
  where
    first : (a : ℕ) → a ≡ a + 0
    first a = omega arith
range-push a (suc n) = ap (λ (is : List ℕ). a ∷ is) (range-push (a + 1) n ∙ ap (λ (i : ℕ). range_with_len (a + 1) n ++ i ∷ []) (moved a n))
  where
    moved : (a n : ℕ) → a + 1 + n ≡ a + suc n
    moved a n = omega arith

-- ---- each variable once, in any order
abbrev pub Once : ℕ → List ℕ → Type 0
Once n is = (v : ℕ) → v < n → filter (λ i. eqb i v) is ≡ v ∷ []

last_or_not : (n : ℕ) (i : ℕ) → i < suc n → not (leb (suc i) n) ≡ eqb i n
last_or_not n i less = by_test (leb_tells (suc i) n) (eqb_tells i n)
  where
    by_test : ((leb (suc i) n ≡ true) × (suc i ≤ n)) ⊎ ((leb (suc i) n ≡ false) × (n < suc i)) → ((eqb i n ≡ true) × (i ≡ n)) ⊎ ((eqb i n ≡ false) × (i ≢ n)) → not (leb (suc i) n) ≡ eqb i n
    by_test (inl (e, low)) (inl (f, is)) = absurd (omega (arith, low, is))
    by_test (inl (e, low)) (inr (f, differ)) = ap not e ∙ sym f
    by_test (inr (e, high)) (inl (f, is)) = ap not e ∙ sym f
    by_test (inr (e, high)) (inr (f, differ)) = absurd (differ (omega (arith, less, high)))

pub Every-map : {X : Type 0} (R S : X → Type 0) → ((x : X) → R x → S x) → (xs : List X) → Every R xs → Every S xs
Every-map R S h [] all = tt
Every-map R S h (x ∷ xs) (here, rest) = (h x here, Every-map R S h xs rest)

pub all-once : (sizes : List ℕ) (n : ℕ) (is : List ℕ) (f : Transfer) (s t : State) → Every (λ i. i < n) is → Once n is → all_summed_out sizes is f s t ≡ all_summed_out sizes (range_with_len 0 n) f s t
unfolding all_summed_out
all-once sizes zero [] f s t low once = refl
all-once sizes zero (i ∷ is) f s t low once = absurd (let less = low.0 in omega arith)
all-once sizes (suc n) is f s t low once =
    sym (all-partition sizes (λ i. leb (suc i) n) is f s t)
    ∙ ap (λ (js : List ℕ). all_summed_out sizes js (all_summed_out sizes (filter (λ i. leb (suc i) n) is) f) s t) (filter_same (λ i. not (leb (suc i) n)) (λ i. eqb i n) is (Every-map (λ i. i < suc n) (λ i. not (leb (suc i) n) ≡ eqb i n) (last_or_not n) is low) ∙ once n (omega arith))
    ∙ ap (λ (g : Transfer). all_summed_out sizes (n ∷ []) g s t) (λ k s t. all-once sizes n (filter (λ i. leb (suc i) n) is) f s t (Every-filter (λ i. i < n) (λ i. leb (suc i) n) (λ i e. leb-true (suc i) n e) is) (λ v less. filter_through (λ i. leb (suc i) n) (λ i. eqb i v) (λ i e. le-leb (suc i) n (let is = eqb-true i v e in omega (arith, is, less))) is ∙ once v (omega (arith, less))) k)
    ∙ sym (all-append sizes (range_with_len 0 n) (n ∷ []) f s t)
    ∙ ap (λ (js : List ℕ). all_summed_out sizes js f s t) (sym (range-push 0 n ∙ ap (λ (i : ℕ). range_with_len 0 n ++ i ∷ []) (zero-add n)))
