-- Weights carried through tables, variables summed out on the way: against the exact sums, in any order.
use Rattle.std.proofs.Common.{eq-eqb, ◌≡◌, ◌≢◌, ℕ, zero, suc, ◌+◌, ◌*◌, ◌^◌, ◌<◌, ◌≤◌, List, [], ◌∷◌, length, get_or, refl, sym, ap, ◌∙◌, arith, Bool, true, false, not, cond, eqb, subst, ◌⊎◌, inl, inr}
use Rattle.std.specs.Prelude.{ℤ, pos, ◌+ℤ◌, ◌≤ℤ◌, filter}
use Rattle.std.proofs.lemmas.Int.{ints}
use Rattle.std.proofs.lemmas.Bool.{eqb-true}
use Rattle.std.proofs.lemmas.Bool.Decides.{eqb_tells}
use Rattle.std.proofs.Math.Nat.{mul-le-mul_right, mul-le-mul_left, mul_comm, pow-suc, pow-zero}
use Rattle.sp_theory.specs.Sums.{times, floor, sum_below}
use Rattle.sp_theory.specs.Points.{IsPoint, put}
use Rattle.sp_theory.specs.Draws.{q}
use Rattle.sp_theory.specs.Model.{State}
use Rattle.sp_theory.specs.Beliefs.{Transfer, Table, ignores, all_ignore, summed_out, all_summed_out, carried}
use Rattle.sp_theory.proofs.Whole.{times-add, times-times, times-one, times_mono, times-zero, floor_below, floor_above, floor_most, ≤ℤ_trans, sum_below_mono, sum_below-add, sum_below-times, sum_below_same}
use Rattle.sp_theory.proofs.Extremes.{both, holds_below_at, holds_below_all, holds_over_at, holds_over_all}
use Rattle.sp_theory.proofs.Weighing.{q_pos, le_same, times-swap}

-- ---- points with another value
pub IsPoint-put : (sizes s : List ℕ) (i x : ℕ) → IsPoint sizes s → x < get_or sizes i 0 → IsPoint sizes (put s i x)
IsPoint-put [] [] i x p less = tt
IsPoint-put (size ∷ sizes) (y ∷ s) zero x (low, p) less = (less, p)
IsPoint-put (size ∷ sizes) (y ∷ s) (suc i) x (low, p) less = (low, IsPoint-put sizes s i x p less)
IsPoint-put [] (y ∷ s) i x p less = absurd p
IsPoint-put (size ∷ sizes) [] i x p less = absurd p

pub put-put : (s : List ℕ) (i j x y : ℕ) → i ≢ j → put (put s i x) j y ≡ put (put s j y) i x
put-put [] i j x y differ = refl
put-put (v ∷ s) zero zero x y differ = absurd (differ refl)
put-put (v ∷ s) zero (suc j) x y differ = refl
put-put (v ∷ s) (suc i) zero x y differ = refl
put-put (v ∷ s) (suc i) (suc j) x y differ = ap (λ (t : List ℕ). v ∷ t) (put-put s i j x y (λ e. differ (ap suc e)))

-- ---- sums over the values of some variables
sum_below-swap : (k n : ℕ) (f : ℕ → ℕ → ℤ) → sum_below k (λ x. sum_below n (f x)) ≡ sum_below n (λ y. sum_below k (λ x. f x y))
unfolding sum_below
sum_below-swap zero n f = sym (none n)
  where
    none : (n : ℕ) → sum_below n (λ y. pos 0) ≡ pos 0
    none zero = refl
    none (suc n) = ap (λ (t : ℤ). t +ℤ pos 0) (none n)
sum_below-swap (suc k) n f = ap (λ (t : ℤ). t +ℤ sum_below n (f k)) (sum_below-swap k n f) ∙ sym (sum_below-add n (λ y. sum_below k (λ x. f x y)) (f k))

pub sum_below-constant : (k n : ℕ) → sum_below k (λ x. pos n) ≡ pos (k * n)
unfolding sum_below
sum_below-constant zero n = ap pos (omega arith)
sum_below-constant (suc k) n = ap (λ (t : ℤ). t +ℤ pos n) (sum_below-constant k n) ∙ ap pos (omega arith)

summed_out-swap : (sizes : List ℕ) (i j : ℕ) (f : Transfer) (s t : State) → summed_out sizes i (summed_out sizes j f) s t ≡ summed_out sizes j (summed_out sizes i f) s t
summed_out-swap sizes i j f s t = by_test (eqb_tells i j)
  where
    by_test : ((eqb i j ≡ true) × (i ≡ j)) ⊎ ((eqb i j ≡ false) × (i ≢ j)) → summed_out sizes i (summed_out sizes j f) s t ≡ summed_out sizes j (summed_out sizes i f) s t
    by_test (inl (e, is)) = ap (λ (n : ℕ). summed_out sizes n (summed_out sizes j f) s t) is ∙ ap (λ (n : ℕ). summed_out sizes j (summed_out sizes n f) s t) (sym is)
    by_test (inr (e, differ)) =
        sum_below-swap (get_or sizes i 0) (get_or sizes j 0) _
        ∙ sum_below_same (get_or sizes j 0) _ _ (λ y less. sum_below_same (get_or sizes i 0) _ _ (λ x within. ap (λ (p : State). f p t) (put-put s i j x y differ)))

-- how many values some variables have together
abbrev pub count_among : List ℕ → List ℕ → ℕ
count_among sizes [] = 1
count_among sizes (i ∷ is) = get_or sizes i 0 * count_among sizes is

-- R holds of each
abbrev pub Every : {X : Type 0} → (X → Type 0) → List X → Type 0
Every R [] = Unit {0}
Every R (x ∷ xs) = R x × Every R xs

pub Every-filter : {X : Type 0} (R : X → Type 0) (p : X → Bool) → ((x : X) → p x ≡ true → R x) → (xs : List X) → Every R (filter p xs)
Every-filter R p h [] = tt
Every-filter R p h (x ∷ xs) = by_test (p x) refl (Every-filter R p h xs)
  where
    by_test : (b : Bool) → p x ≡ b → Every R (filter p xs) → Every R (cond b (x ∷ filter p xs) (filter p xs))
    by_test true e rest = (h x e, rest)
    by_test false e rest = rest

-- ---- what goes after a table, and what stays
abbrev pub gone : List ℕ → List Table → List ℕ → List ℕ
gone sizes later there = filter (all_ignore sizes later) there

abbrev pub kept : List ℕ → List Table → List ℕ → List ℕ
kept sizes later there = filter (λ i. not (all_ignore sizes later i)) there

-- at the end all are gone
kept-none : (sizes there : List ℕ) → kept sizes [] there ≡ []
kept-none sizes [] = refl
kept-none sizes (i ∷ there) = kept-none sizes there

kept-ends : (sizes : List ℕ) (later : List Table) (there : List ℕ) → later ≡ [] → kept sizes later there ≡ []
kept-ends sizes [] there e = kept-none sizes there
kept-ends sizes (table ∷ later) there e = absurd (cc)

count-partition : (sizes : List ℕ) (p : ℕ → Bool) (is : List ℕ) → count_among sizes (filter p is) * count_among sizes (filter (λ i. not (p i)) is) ≡ count_among sizes is
count-partition sizes p [] = omega arith
count-partition sizes p (i ∷ is) = by_test (p i) (count-partition sizes p is)
  where
    first : (size a b : ℕ) → size * a * b ≡ size * (a * b)
    first size a b = omega arith

    second : (size a b : ℕ) → a * (size * b) ≡ size * (a * b)
    second size a b = omega arith

    by_test : (b : Bool) → count_among sizes (filter p is) * count_among sizes (filter (λ i. not (p i)) is) ≡ count_among sizes is
        → count_among sizes (cond b (i ∷ filter p is) (filter p is)) * count_among sizes (cond (not b) (i ∷ filter (λ i. not (p i)) is) (filter (λ i. not (p i)) is)) ≡ get_or sizes i 0 * count_among sizes is
    by_test true e = first (get_or sizes i 0) _ _ ∙ ap (λ (n : ℕ). get_or sizes i 0 * n) e
    by_test false e = second (get_or sizes i 0) _ _ ∙ ap (λ (n : ℕ). get_or sizes i 0 * n) e

-- one variable first or last
pub all-commutes : (sizes is : List ℕ) (i : ℕ) (f : Transfer) (s t : State) → summed_out sizes i (all_summed_out sizes is f) s t ≡ all_summed_out sizes is (summed_out sizes i f) s t
unfolding all_summed_out
all-commutes sizes [] i f s t = refl
all-commutes sizes (j ∷ is) i f s t = all-commutes sizes is i (summed_out sizes j f) s t ∙ ap (λ (g : Transfer). all_summed_out sizes is g s t) (λ k s t. summed_out-swap sizes i j f s t k)

-- some first and then the others
pub all-partition : (sizes : List ℕ) (p : ℕ → Bool) (is : List ℕ) (f : Transfer) (s t : State) → all_summed_out sizes (filter (λ i. not (p i)) is) (all_summed_out sizes (filter p is) f) s t ≡ all_summed_out sizes is f s t
unfolding all_summed_out
all-partition sizes p [] f s t = refl
all-partition sizes p (i ∷ is) f s t = by_test (p i) (all-partition sizes p is (summed_out sizes i f) s t)
  where
    others : List ℕ
    others = filter (λ i. not (p i)) is

    by_test : (b : Bool) → all_summed_out sizes others (all_summed_out sizes (filter p is) (summed_out sizes i f)) s t ≡ all_summed_out sizes is (summed_out sizes i f) s t
        → all_summed_out sizes (cond (not b) (i ∷ others) others) (all_summed_out sizes (cond b (i ∷ filter p is) (filter p is)) f) s t ≡ all_summed_out sizes is (summed_out sizes i f) s t
    by_test true e = e
    by_test false e = ap (λ (g : Transfer). all_summed_out sizes others g s t) (λ k s t. all-commutes sizes (filter p is) i f s t k) ∙ e

pub positive_parts : (a b : ℕ) → 0 < a * b → (0 < a) × (0 < b)
positive_parts zero b h = absurd (omega arith)
positive_parts (suc a) zero h = absurd (omega arith)
positive_parts (suc a) (suc b) h = (omega arith, omega arith)

gone_some : (sizes : List ℕ) (later : List Table) (there : List ℕ) → 0 < count_among sizes there → 0 < count_among sizes (gone sizes later there)
gone_some sizes later there some = (positive_parts _ _ (subst (λ (n : ℕ). 0 < n) (sym (count-partition sizes (all_ignore sizes later) there)) some)).0

kept_some : (sizes : List ℕ) (later : List Table) (there : List ℕ) → 0 < count_among sizes there → 0 < count_among sizes (kept sizes later there)
kept_some sizes later there some = (positive_parts _ _ (subst (λ (n : ℕ). 0 < n) (sym (count-partition sizes (all_ignore sizes later) there)) some)).1

-- ---- sums over the values of several variables, at a next state
module _ (sizes : List ℕ) (next : State) where
  pub all_mono : (is : List ℕ) (f g : Transfer) → ((s : State) → IsPoint sizes s → f s next ≤ℤ g s next) → (s : State) → IsPoint sizes s → all_summed_out sizes is f s next ≤ℤ all_summed_out sizes is g s next
  unfolding all_summed_out
  all_mono [] f g h s p = h s p
  all_mono (i ∷ is) f g h s p = all_mono is _ _ (λ s p. sum_below_mono (get_or sizes i 0) _ _ (λ x less. h (put s i x) (IsPoint-put sizes s i x p less))) s p

  pub all_same : (is : List ℕ) (f g : Transfer) → ((s : State) → IsPoint sizes s → f s next ≡ g s next) → (s : State) → IsPoint sizes s → all_summed_out sizes is f s next ≡ all_summed_out sizes is g s next
  unfolding all_summed_out
  all_same [] f g h s p = h s p
  all_same (i ∷ is) f g h s p = all_same is _ _ (λ s p. sum_below_same (get_or sizes i 0) _ _ (λ x less. h (put s i x) (IsPoint-put sizes s i x p less))) s p

  pub all-add : (is : List ℕ) (f g : Transfer) (s : State) → IsPoint sizes s → all_summed_out sizes is (λ s t. f s t +ℤ g s t) s next ≡ all_summed_out sizes is f s next +ℤ all_summed_out sizes is g s next
  unfolding all_summed_out
  all-add [] f g s p = refl
  all-add (i ∷ is) f g s p = all_same is _ _ (λ s p. sum_below-add (get_or sizes i 0) _ _) s p ∙ all-add is (summed_out sizes i f) (summed_out sizes i g) s p

  -- a table that ignores the variables comes out of the sum
  abbrev pub IgnoredBy : Table → ℕ → Type 0
  IgnoredBy table i = (s : State) (x : ℕ) → IsPoint sizes s → x < get_or sizes i 0 → table (put s i x) next ≡ table s next

  pub all-table : (is : List ℕ) (table : Table) (f : Transfer) → Every (IgnoredBy table) is → (s : State) → IsPoint sizes s → all_summed_out sizes is (λ s t. times (table s t) (f s t)) s next ≡ times (table s next) (all_summed_out sizes is f s next)
  unfolding all_summed_out
  all-table [] table f h s p = refl
  all-table (i ∷ is) table f (here, rest) s p =
      all_same is _ (λ s t. times (table s t) (summed_out sizes i f s t)) (λ s p. sum_below_same (get_or sizes i 0) _ _ (λ x less. ap (λ (n : ℕ). times n (f (put s i x) next)) (here s x p less)) ∙ sum_below-times (get_or sizes i 0) (table s next) (λ x. f (put s i x) next)) s p
      ∙ all-table is table (summed_out sizes i f) rest s p

  pub all-constant : (is : List ℕ) (n : ℕ) (s : State) → IsPoint sizes s → all_summed_out sizes is (λ s t. pos n) s next ≡ pos (count_among sizes is * n)
  unfolding all_summed_out
  all-constant [] n s p = ap pos (omega arith)
  all-constant (i ∷ is) n s p = all_same is _ (λ s t. pos (get_or sizes i 0 * n)) (λ s p. sum_below-constant (get_or sizes i 0) n) s p ∙ all-constant is (get_or sizes i 0 * n) s p ∙ ap pos (omega arith)

-- ---- with no floors
-- the product of the tables' probabilities
abbrev pub product : List Table → Table
product [] s next = 1
product (table ∷ tables) s next = table s next * product tables s next

unfoldable pub exactly_carried : List ℕ → List Table → List ℕ → Transfer → Transfer
exactly_carried sizes [] there f = f
exactly_carried sizes (table ∷ later) there f = exactly_carried sizes later (kept sizes later there) (all_summed_out sizes (gone sizes later there) (λ s next. times (table s next) (f s next)))

module _ (sizes : List ℕ) (next : State) (known : IsPoint sizes next) where
  -- what goes after a table is ignored by the tables that follow
  ignored : (table : Table) (i : ℕ) → ignores sizes table i ≡ true → IgnoredBy sizes next table i
  unfolding ignores
  ignored table i e s x p less = eqb-true _ _ (holds_below_at (get_or sizes i 0) _ (holds_over_at sizes _ (holds_over_at sizes _ e s p) next known) x less)

  ignored-product : (tables : List Table) (i : ℕ) → all_ignore sizes tables i ≡ true → IgnoredBy sizes next (product tables) i
  ignored-product [] i e s x p less = refl
  ignored-product (table ∷ tables) i e s x p less =
      let two = both (ignores sizes table i) (all_ignore sizes tables i) e in
      (λ k. ignored table i two.0 s x p less k * ignored-product tables i two.1 s x p less k)

  gone-ignored : (later : List Table) (there : List ℕ) → Every (IgnoredBy sizes next (product later)) (gone sizes later there)
  gone-ignored later there = Every-filter (IgnoredBy sizes next (product later)) (all_ignore sizes later) (ignored-product later) there

  exactly_mono : (tables : List Table) (there : List ℕ) (f g : Transfer) → ((s : State) → IsPoint sizes s → f s next ≤ℤ g s next) → (s : State) → IsPoint sizes s → exactly_carried sizes tables there f s next ≤ℤ exactly_carried sizes tables there g s next
  unfolding exactly_carried
  exactly_mono [] there f g h s p = h s p
  exactly_mono (table ∷ later) there f g h s p = exactly_mono later (kept sizes later there) _ _ (λ s p. all_mono sizes next (gone sizes later there) _ _ (λ s p. times_mono (table s next) _ _ (h s p)) s p) s p

  -- summing out on the way is summing out at the end
  pub exactly_is : (tables : List Table) (there : List ℕ) (f : Transfer) → (tables ≡ [] → there ≡ []) → (s : State) → IsPoint sizes s
      → exactly_carried sizes tables there f s next ≡ all_summed_out sizes there (λ s t. times (product tables s t) (f s t)) s next
  unfolding exactly_carried all_summed_out
  exactly_is [] there f ends s p = sym (ap (λ (is : List ℕ). all_summed_out sizes is (λ s t. times 1 (f s t)) s next) (ends refl) ∙ times-one (f s next))
  exactly_is (table ∷ later) there f ends s p =
      exactly_is later (kept sizes later there) _ (kept-ends sizes later there) s p
      ∙ all_same sizes next (kept sizes later there) _ _ (λ s p. sym (all-table sizes next (gone sizes later there) (product later) (λ s t. times (table s t) (f s t)) (gone-ignored later there) s p)) s p
      ∙ all-partition sizes (all_ignore sizes later) there (λ s t. times (product later s t) (times (table s t) (f s t))) s next
      ∙ all_same sizes next there _ _ (λ s p. sym (times-times (product later s next) (table s next) (f s next)) ∙ ap (λ (n : ℕ). times n (f s next)) (mul_comm (product later s next) (table s next))) s p

  all-times : (is : List ℕ) (n : ℕ) (f : Transfer) (s : State) → IsPoint sizes s → all_summed_out sizes is (λ s t. times n (f s t)) s next ≡ times n (all_summed_out sizes is f s next)
  all-times is n f s p = all-table sizes next is (λ s t. n) f (each is) s p
    where
      each : (is : List ℕ) → Every (IgnoredBy sizes next (λ s t. n)) is
      each [] = tt
      each (i ∷ is) = (λ s x p less. refl, each is)

  exactly_same : (tables : List Table) (there : List ℕ) (f g : Transfer) → ((s : State) → IsPoint sizes s → f s next ≡ g s next) → (s : State) → IsPoint sizes s → exactly_carried sizes tables there f s next ≡ exactly_carried sizes tables there g s next
  unfolding exactly_carried
  exactly_same [] there f g h s p = h s p
  exactly_same (table ∷ later) there f g h s p = exactly_same later (kept sizes later there) _ _ (λ s p. all_same sizes next (gone sizes later there) _ _ (λ s p. ap (times (table s next)) (h s p)) s p) s p

  exactly-times : (tables : List Table) (there : List ℕ) (n : ℕ) (f : Transfer) (s : State) → IsPoint sizes s → exactly_carried sizes tables there (λ s t. times n (f s t)) s next ≡ times n (exactly_carried sizes tables there f s next)
  unfolding exactly_carried
  exactly-times [] there n f s p = refl
  exactly-times (table ∷ later) there n f s p =
      exactly_same later (kept sizes later there) _ (λ s t. times n (all_summed_out sizes (gone sizes later there) (λ s t. times (table s t) (f s t)) s t)) (λ s p. all_same sizes next (gone sizes later there) _ (λ s t. times n (times (table s t) (f s t))) (λ s p. times-swap (table s next) n (f s next)) s p ∙ all-times (gone sizes later there) n _ s p) s p
      ∙ exactly-times later (kept sizes later there) n _ s p

  exactly-add : (tables : List Table) (there : List ℕ) (f g : Transfer) (s : State) → IsPoint sizes s → exactly_carried sizes tables there (λ s t. f s t +ℤ g s t) s next ≡ exactly_carried sizes tables there f s next +ℤ exactly_carried sizes tables there g s next
  unfolding exactly_carried
  exactly-add [] there f g s p = refl
  exactly-add (table ∷ later) there f g s p =
      exactly_same later (kept sizes later there) _ (λ s t. all_summed_out sizes (gone sizes later there) (λ s t. times (table s t) (f s t)) s t +ℤ all_summed_out sizes (gone sizes later there) (λ s t. times (table s t) (g s t)) s t) (λ s p. all_same sizes next (gone sizes later there) _ (λ s t. times (table s t) (f s t) +ℤ times (table s t) (g s t)) (λ s p. times-add (table s next) (f s next) (g s next)) s p ∙ all-add sizes next (gone sizes later there) _ _ s p) s p
      ∙ exactly-add later (kept sizes later there) _ _ s p

  -- ---- with floors
  -- never above the exact sums
  pub carried_low : (tables : List Table) (there : List ℕ) (f : Transfer) (s : State) → IsPoint sizes s → times (q ^ length tables) (carried sizes tables there f s next) ≤ℤ exactly_carried sizes tables there f s next
  unfolding carried exactly_carried
  carried_low [] there f s p = le_same (ap (λ (t : ℕ). times t (f s next)) (pow-zero q) ∙ times-one (f s next))
  carried_low (table ∷ later) there f s p =
      ≤ℤ_trans (le_same (ap (λ (t : ℕ). times t (carried sizes later (kept sizes later there) out s next)) (pow-suc q (length later) ∙ mul_comm (q ^ length later) q) ∙ times-times q (q ^ length later) _))
      (≤ℤ_trans (times_mono q _ _ (carried_low later (kept sizes later there) out s p))
      (≤ℤ_trans (le_same (sym (exactly-times later (kept sizes later there) q out s p)))
      (exactly_mono later (kept sizes later there) _ _ (λ s p. ≤ℤ_trans (le_same (sym (all-times (gone sizes later there) q part s p))) (all_mono sizes next (gone sizes later there) _ _ (λ s p. floor_below (times (table s next) (f s next)) q q_pos) s p)) s p)))
    where
      part : Transfer
      part s t = floor (times (table s t) (f s t)) q

      out : Transfer
      out = all_summed_out sizes (gone sizes later there) part

  -- each table's probabilities are at most one
  abbrev pub AreChances : List Table → Type 0
  AreChances tables = Every (λ table. (s : State) → IsPoint sizes s → table s next ≤ q) tables

  exactly_most : (tables : List Table) (there : List ℕ) (n : ℕ) → AreChances tables → 0 < count_among sizes there → (s : State) → IsPoint sizes s → exactly_carried sizes tables there (λ s t. pos n) s next ≤ℤ pos (q ^ length tables * (count_among sizes there * n))
  unfolding exactly_carried
  exactly_most [] there n small some s p = let less = mul-le-mul_right n some in let one = ap (λ (t : ℕ). t * (count_among sizes there * n)) (pow-zero q) in omega (arith, ints, less, one)
  exactly_most (table ∷ later) there n (small, rest) some s p =
      ≤ℤ_trans (exactly_mono later (kept sizes later there) _ (λ s t. pos (count_among sizes (gone sizes later there) * (q * n))) (λ s p. ≤ℤ_trans (all_mono sizes next (gone sizes later there) _ (λ s t. pos (q * n)) (λ s p. let e = mul-le-mul_right n (small s p) in omega (arith, ints, e)) s p) (le_same (all-constant sizes next (gone sizes later there) (q * n) s p))) s p)
      (≤ℤ_trans (exactly_most later (kept sizes later there) (count_among sizes (gone sizes later there) * (q * n)) rest (kept_some sizes later there some) s p)
      (le_same (ap pos (turned (q ^ length later) (count_among sizes (kept sizes later there)) (count_among sizes (gone sizes later there)) n ∙ (λ h. sym (pow-suc q (length later)) h * (count-partition sizes (all_ignore sizes later) there h * n))))))
    where
      turned : (a c g n : ℕ) → a * (c * (g * (q * n))) ≡ a * q * (g * c * n)
      turned a c g n = omega arith

  -- and how far below: one for each table and each state of those that are summed out
  pub carried_high : (tables : List Table) (there : List ℕ) (f : Transfer) → AreChances tables → 0 < count_among sizes there → (s : State) → IsPoint sizes s
      → exactly_carried sizes tables there f s next ≤ℤ times (q ^ length tables) (carried sizes tables there f s next +ℤ pos (length tables * count_among sizes there))
  unfolding carried exactly_carried
  carried_high [] there f small some s p = le_same (sym (ap (λ (t : ℕ). times t (f s next +ℤ pos (0 * count_among sizes there))) (pow-zero q) ∙ times-one (f s next +ℤ pos (0 * count_among sizes there)) ∙ none (f s next) (count_among sizes there)))
    where
      none : (z : ℤ) (n : ℕ) → z +ℤ pos (0 * n) ≡ z
      none z n = omega (arith, ints)
  carried_high (table ∷ later) there f (small, rest) some s p =
      ≤ℤ_trans (exactly_mono later stay _ (λ s t. times q (all_summed_out sizes go part s t +ℤ all_summed_out sizes go (λ s t. pos 1) s t)) (λ s p. ≤ℤ_trans (all_mono sizes next go _ (λ s t. times q (part s t +ℤ pos 1)) (λ s p. let above = floor_above (times (table s next) (f s next)) q q_pos in omega (arith, ints, above)) s p) (le_same (all-times go q (λ s t. part s t +ℤ pos 1) s p ∙ ap (times q) (all-add sizes next go part (λ s t. pos 1) s p)))) s p)
      (≤ℤ_trans (le_same (exactly-times later stay q _ s p ∙ ap (times q) (exactly-add later stay (all_summed_out sizes go part) (all_summed_out sizes go (λ s t. pos 1)) s p)))
      (≤ℤ_trans (times_mono q _ (times (q ^ length later) (last +ℤ pos (suc (length later) * count_among sizes there))) (inside (carried_high later stay (all_summed_out sizes go part) rest (kept_some sizes later there some) s p)))
      (le_same (sym (ap (λ (t : ℕ). times t (last +ℤ pos (suc (length later) * count_among sizes there))) (pow-suc q (length later) ∙ mul_comm (q ^ length later) q) ∙ times-times q (q ^ length later) _)))))
    where
      go : List ℕ
      go = gone sizes later there

      stay : List ℕ
      stay = kept sizes later there

      part : Transfer
      part s t = floor (times (table s t) (f s t)) q

      last : ℤ
      last = carried sizes later stay (all_summed_out sizes go part) s next

      counted : (l c g : ℕ) → 0 < g → l * c + c * (g * 1) ≤ suc l * (g * c)
      counted l c g some = let less = mul-le-mul_left l (mul-le-mul_right c some) in omega (arith, less)

      inside : exactly_carried sizes later stay (all_summed_out sizes go part) s next ≤ℤ times (q ^ length later) (last +ℤ pos (length later * count_among sizes stay))
          → (exactly_carried sizes later stay (all_summed_out sizes go part) s next +ℤ exactly_carried sizes later stay (all_summed_out sizes go (λ s t. pos 1)) s next) ≤ℤ times (q ^ length later) (last +ℤ pos (suc (length later) * count_among sizes there))
      inside low =
          let most : exactly_carried sizes later stay (all_summed_out sizes go (λ s t. pos 1)) s next ≤ℤ pos (q ^ length later * (count_among sizes stay * (count_among sizes go * 1))) =
          ≤ℤ_trans (exactly_mono later stay _ (λ s t. pos (count_among sizes go * 1)) (λ s p. le_same (all-constant sizes next go 1 s p)) s p) (exactly_most later stay (count_among sizes go * 1) rest (kept_some sizes later there some) s p) in
          let one = times-add (q ^ length later) last (pos (length later * count_among sizes stay)) in
          let two = times-add (q ^ length later) last (pos (suc (length later) * count_among sizes there)) in
          let room = mul-le-mul_left (q ^ length later) (counted (length later) (count_among sizes stay) (count_among sizes go) (gone_some sizes later there some)) in
          let same = ap (λ (n : ℕ). q ^ length later * (suc (length later) * n)) (count-partition sizes (all_ignore sizes later) there) in
          omega (arith, ints, low, most, one, two, room, same)

  -- nothing is carried below zero
  pub carried_from_zero : (tables : List Table) (there : List ℕ) (f : Transfer) → ((s : State) → IsPoint sizes s → pos 0 ≤ℤ f s next) → (s : State) → IsPoint sizes s → pos 0 ≤ℤ carried sizes tables there f s next
  unfolding carried
  carried_from_zero [] there f h s p = h s p
  carried_from_zero (table ∷ later) there f h s p =
      carried_from_zero later (kept sizes later there) _ (λ s p. ≤ℤ_trans (le_same (ap pos (none (count_among sizes (gone sizes later there))) ∙ sym (all-constant sizes next (gone sizes later there) 0 s p))) (all_mono sizes next (gone sizes later there) (λ s t. pos 0) _ (λ s p. floor_most (times (table s next) (f s next)) (pos 0) q q_pos (≤ℤ_trans (le_same (times-zero q ∙ sym (times-zero (table s next)))) (times_mono (table s next) _ _ (h s p)))) s p)) s p
    where
      none : (n : ℕ) → 0 ≡ n * 0
      none n = omega arith

-- ---- for code that carries weights
-- functions that agree at all states are carried to the same numbers
pub carried_same : (sizes : List ℕ) (next : State) (tables : List Table) (there : List ℕ) (f g : Transfer) → ((s : State) → IsPoint sizes s → f s next ≡ g s next) → (s : State) → IsPoint sizes s → carried sizes tables there f s next ≡ carried sizes tables there g s next
unfolding carried
carried_same sizes next [] there f g h s p = h s p
carried_same sizes next (table ∷ later) there f g h s p = carried_same sizes next later (kept sizes later there) _ _ (λ s p. all_same sizes next (gone sizes later there) _ _ (λ s p. ap (λ (z : ℤ). floor (times (table s next) z) q) (h s p)) s p) s p

-- the test tells that no state and next state are told apart by the variable
pub ignores_at : (sizes : List ℕ) (table : Table) (i : ℕ) → ignores sizes table i ≡ true → (s next : State) (x : ℕ) → IsPoint sizes s → IsPoint sizes next → x < get_or sizes i 0 → table (put s i x) next ≡ table s next
ignores_at sizes table i e s next x p known less = ignored sizes next known table i e s x p less

pub ignores_from : (sizes : List ℕ) (table : Table) (i : ℕ) → ((s next : State) (x : ℕ) → IsPoint sizes s → IsPoint sizes next → x < get_or sizes i 0 → table (put s i x) next ≡ table s next) → ignores sizes table i ≡ true
unfolding ignores
ignores_from sizes table i h = holds_over_all sizes _ (λ s p. holds_over_all sizes _ (λ next known. holds_below_all (get_or sizes i 0) _ (λ x less. eq-eqb _ _ (h s next x p known less))))
