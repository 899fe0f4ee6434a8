-- The factors of a model's initial belief are those of a lawful initial belief.
use Rattle.std.proofs.Common.{◌≡◌, ◌≢◌, ℕ, zero, suc, ◌+◌, ◌-◌, ◌*◌, ◌/◌, ◌%◌, ◌<◌, ◌≤◌, ◌⊎◌, inl, inr, ⊎_elim, refl, sym, ◌∙◌, ap, subst, arith, List, [], ◌∷◌, ◌++◌, length, get_or, map}
use Rattle.std.specs.Prelude.{pos, unsigned_abs, All, AllPairs, Contains, slice_set}
use Rattle.std.proofs.lemmas.Bool.{cases_lt, cases_order}
use Rattle.std.proofs.lemmas.List.Elements.{All-get_or, All-from_get_or, All-map, All-append, All-nil}
use Rattle.sp_dd.specs.Points as slots
use Rattle.sp_dd.specs.Floors.{sum_to}
use Rattle.sp_dd.specs.Func.{Shape, Func, value_of, size_of, IsPointOf, IsIndependentOf}
use Rattle.sp_dd.proofs.FuncLemmas.{value_of-function_of}
use Rattle.sp_dd.proofs.IndependenceLemmas.{agree_same}
use Rattle.sp_theory.specs.Points as theory
use Rattle.sp_theory.specs.Draws.{q}
use Rattle.sp_theory.specs.Model as model
use Rattle.sp_theory.proofs.Carried.{IsPoint-put}
use Rattle.sp_model.specs.declared.parts.Factor.{Factor}
use Rattle.sp_model.specs.declared.parts.Parts.{Parts}
use Rattle.sp_model.specs.Sizes.{AllSome}
use Rattle.sp_model.specs.Problem.{sizes_of, shape_of, twice_each, first_numbers, in_turn, point_of, vector_of, factor_of, problem, no_factor}
use Rattle.sp_model.specs.Kept.{IsProbability, IsFactor, IsModel, summed_out_own, all_own}
use Rattle.sp_model.proofs.SlotPoints.{Fits-point, Fits-none, padded-whole, length-padded, set-unprimed, size-unprimed}
use Rattle.sp_model.proofs.RowLaw.{some_sizes, point_in, value_in}
use Rattle.sp_model.proofs.Whole.{sum_to-sum_below}
use Rattle.sp_model.proofs.Counts.{length-sizes_of, times_some}

-- ---- sums over own variables
pub summed_out_own-shape : (f : Func) (own : List ℕ) → (summed_out_own f own).shape ≡ f.shape
summed_out_own-shape f [] = refl
summed_out_own-shape f (i ∷ own) = summed_out_own-shape f own

module _ (ks js : List ℕ) (n m : ℕ) (long : length ks ≡ n) (wide : length js ≡ m) (some : AllSome ks) (seen : AllSome js) (cells : 0 < slots.product (twice_each ks ++ js)) where
  -- the point of a state
  abbrev at_state : List ℕ → List ℕ
  at_state s = in_turn (first_numbers n s) (first_numbers n []) ++ first_numbers m []

  state_point : (s : List ℕ) → theory.IsPoint ks s → slots.IsPoint (twice_each ks ++ js) (at_state s)
  state_point s at = point_in ks js n m long wide some seen s [] [] (Fits-point ks s at) (Fits-none ks) (Fits-none js)

  whole_state : (s : List ℕ) → theory.IsPoint ks s → first_numbers n s ≡ s
  whole_state s at = ap (λ (c : ℕ). first_numbers c s) (sym long) ∙ padded-whole ks s at

  -- one variable with another value
  state_put : (s : List ℕ) (i v : ℕ) → theory.IsPoint ks s → i < length ks → v < get_or ks i 0 → slice_set (at_state s) (2 * i) v ≡ at_state (theory.put s i v)
  state_put s i v at known less =
      let same : length (first_numbers n s) ≡ length (first_numbers n []) = length-padded n s ∙ sym (length-padded n []) in
      let count = length-padded n s in
      set-unprimed (first_numbers n s) (first_numbers n []) (first_numbers m []) i v same (omega (arith, count, long, known))
      ∙ ap (λ (l : List ℕ). in_turn l (first_numbers n []) ++ first_numbers m []) (ap (λ (l : List ℕ). theory.put l i v) (whole_state s at) ∙ sym (whole_state (theory.put s i v) (IsPoint-put ks s i v at less)))

  own_sum : (f : Func) → f.shape.sizes ≡ twice_each ks ++ js → IsProbability f → (own : List ℕ) → All (λ i. i < length ks) own → (s : List ℕ) → theory.IsPoint ks s
      → model.sum_over_own ks own (λ t. pos (unsigned_abs (value_of f (at_state t)))) s ≡ value_of (summed_out_own f own) (at_state s)
  unfolding model.sum_over_own
  own_sum f shape probability [] within s at = value_in ks js n m long wide some seen f shape probability (at_state s) (state_point s at)
  own_sum f shape probability (i ∷ own) within s at =
      let known : i < length ks = All-get_or (λ i. i < length ks) (i ∷ own) 0 0 (omega arith) within in
      let rest : All (λ i. i < length ks) own = All-from_get_or (λ i. i < length ks) own 0 (λ k less. All-get_or (λ i. i < length ks) (i ∷ own) (suc k) 0 (omega arith) within) in
      let g : Func = summed_out_own f own in
      let same : g.shape.sizes ≡ twice_each ks ++ js = ap (λ (c : Shape). c.sizes) (summed_out_own-shape f own) ∙ shape in
      let size : size_of g.shape (2 * i) ≡ get_or ks i 0 = ap (λ (l : List ℕ). get_or l (2 * i) 0) same ∙ size-unprimed ks js i known in
      let P : List ℕ → Type 0 = λ l. slots.IsPoint l (at_state s) in
      let Q : List ℕ → Type 0 = λ l. 0 < slots.product l in
      sum_to-sum_below (get_or ks i 0) _ (λ v. value_of g (slice_set (at_state s) (2 * i) v))
      (λ v less. own_sum f shape probability own rest (theory.put s i v) (IsPoint-put ks s i v at less) ∙ ap (value_of g) (sym (state_put s i v at known less)))
      ∙ ap (λ (c : ℕ). sum_to c (λ v. value_of g (slice_set (at_state s) (2 * i) v))) (sym size)
      ∙ sym (value_of-function_of g.shape (λ x. sum_to (size_of g.shape (2 * i)) (λ v. value_of g (slice_set x (2 * i) v))) (at_state s) (subst Q (sym same) cells) (subst P (sym same) (state_point s at)))

-- ---- functions of own variables alone
-- whether a number is in a list
pub has : (xs : List ℕ) (i : ℕ) → Contains xs i ⊎ ((k : Contains xs i) → ⊥)
has [] i = inr (λ (k, less, e). absurd (omega arith))
has (x ∷ xs) i =
    ⊎_elim (λ (e : x ≡ i). inl (0, omega arith, e))
    (λ apart. ⊎_elim (λ (there : Contains xs i). inl (suc there.0, omega (arith, there.1), there.2))
    (λ (absent : (k : Contains xs i) → ⊥). inr (λ c. out c.0 c.1 c.2 apart absent))
    (has xs i))
    (cases_order x i)
  where
    out : (k : ℕ) → k < suc (length xs) → get_or (x ∷ xs) k i ≡ i → ((x < i) ⊎ (i < x)) → ((k : Contains xs i) → ⊥) → ⊥
    out zero less e apart absent = ⊎_elim (λ (h : x < i). absurd (omega arith)) (λ (h : i < x). absurd (omega arith)) apart
    out (suc k) less e apart absent = absent (k, omega arith, e)

even_at : (s t z : List ℕ) (i : ℕ) → length s ≡ length t → i < length s → get_or (in_turn s t ++ z) (2 * i) 0 ≡ get_or s i 0
even_at [] t z i e h = absurd (omega arith)
even_at (x ∷ s) [] z i e h = absurd (omega arith)
even_at (x ∷ s) (y ∷ t) z zero e h = refl
even_at (x ∷ s) (y ∷ t) z (suc i) e h =
    let next : 2 * suc i ≡ suc (suc (2 * i)) = omega arith in
    ap (λ (k : ℕ). get_or (x ∷ y ∷ (in_turn s t ++ z)) k 0) next ∙ even_at s t z i (omega arith) (omega arith)

-- the variable of a slot that isn't of an observation variable
pub record IsHalf (j n : ℕ) : Type 0 where
  pub variable : ℕ
  pub within : variable < n
  pub is : (j ≡ 2 * variable) ⊎ (j ≡ 2 * variable + 1)

half : (j n : ℕ) → j < 2 * n → IsHalf j n
half j n less = record { variable = j / 2; within = omega arith; is = parity j }
  where
    parity : (j : ℕ) → (j ≡ 2 * (j / 2)) ⊎ (j ≡ 2 * (j / 2) + 1)
    parity j = ⊎_elim (λ (h : j % 2 < 1). inl (omega arith)) (λ (h : 1 ≤ j % 2). inr (omega arith)) (cases_lt (j % 2) 1)

-- sizes above 0 have a point
product_some : (ks js : List ℕ) → AllSome ks → AllSome js → 0 < slots.product (twice_each ks ++ js)
product_some [] [] some seen = omega arith
product_some [] (j ∷ js) some seen = times_some j (slots.product js) seen.0 (product_some [] js tt seen.1)
product_some (k ∷ ks) js some seen = let rest = product_some ks js some.1 seen in times_some k (k * slots.product (twice_each ks ++ js)) some.0 (times_some k (slots.product (twice_each ks ++ js)) some.0 rest)

all_own-map : (p : Parts) (fs : List Factor) → model.all_own (map (factor_of p) fs) ≡ all_own fs
all_own-map p [] = refl
all_own-map p (f ∷ fs) = ap (λ (l : List ℕ). f.own ++ l) (all_own-map p fs)

own_within : (s : Shape) (n : ℕ) (fs : List Factor) → ((k : ℕ) → k < length fs → (d : Factor) → All (λ i. i < n) (get_or fs k d).own) → All (λ i. i < n) (all_own fs)
own_within s n [] all = All-nil _
own_within s n (f ∷ fs) all = All-append (λ i. i < n) f.own (all_own fs) (all 0 (omega arith) f) (own_within s n fs (λ k h. all (suc k) (omega arith)))

module _ (p : Parts) (known : IsModel p) where
  sizes_some : AllSome (sizes_of p.variables)
  sizes_some = some_sizes p.variables known.variables

  seen_some : AllSome (sizes_of p.sights)
  seen_some = some_sizes p.sights known.sights

  own_in : (own : List ℕ) → All (λ i. i < length p.variables) own → All (λ i. i < length (sizes_of p.variables)) own
  own_in own within = let P : ℕ → Type 0 = λ n. All (λ i. i < n) own in subst P (sym (length-sizes_of p.variables)) within

  pub point_at : (g : Func) → g.shape ≡ shape_of p → (s : List ℕ) → theory.IsPoint (sizes_of p.variables) s → IsPointOf g (point_of p s [] [])
  point_at g same s at =
      let P : Shape → Type 0 = λ c. slots.IsPoint c.sizes (point_of p s [] []) in
      subst P (sym same) (state_point (sizes_of p.variables) (sizes_of p.sights) (length p.variables) (length p.sights) (length-sizes_of p.variables) (length-sizes_of p.sights) sizes_some seen_some (product_some _ _ sizes_some seen_some) s at)

  factor_whole : (f : Factor) → IsFactor (shape_of p) f → (s : List ℕ) → theory.IsPoint (sizes_of p.variables) s
      → model.sum_over_own (sizes_of p.variables) f.own (λ t. pos (unsigned_abs (vector_of p f.func t))) s ≡ pos q
  unfolding q
  factor_whole f is s at =
      own_sum (sizes_of p.variables) (sizes_of p.sights) (length p.variables) (length p.sights) (length-sizes_of p.variables) (length-sizes_of p.sights) sizes_some seen_some (product_some _ _ sizes_some seen_some)
      f.func (ap (λ (c : Shape). c.sizes) is.shape) is.probability f.own (own_in f.own is.within) s at
      ∙ is.whole (point_of p s [] []) (point_at (summed_out_own f.func f.own) (summed_out_own-shape f.func f.own ∙ is.shape) s at)

  own_slot : (f : Factor) → IsFactor (shape_of p) f → (s t : List ℕ) → theory.IsPoint (sizes_of p.variables) s → theory.IsPoint (sizes_of p.variables) t
      → All (λ i. get_or s i 0 ≡ get_or t i 0) f.own → (j i : ℕ) → i < length p.variables → j ≡ 2 * i
      → IsIndependentOf f.func j ⊎ (get_or (point_of p s [] []) j 0 ≡ get_or (point_of p t [] []) j 0)
  own_slot f is s t at to agree j i within e =
      let n = length p.variables in
      let P : ℕ → Type 0 = λ k. IsIndependentOf f.func k in
      let value : (y : List ℕ) → theory.IsPoint (sizes_of p.variables) y → get_or (point_of p y [] []) j 0 ≡ get_or y i 0 = λ y there.
      ap (λ (k : ℕ). get_or (point_of p y [] []) k 0) e
      ∙ even_at (first_numbers n y) (first_numbers n []) (first_numbers (length p.sights) []) i (length-padded n y ∙ sym (length-padded n [])) (let count = length-padded n y in omega (arith, count, within))
      ∙ ap (λ (l : List ℕ). get_or l i 0) (ap (λ (c : ℕ). first_numbers c y) (sym (length-sizes_of p.variables)) ∙ padded-whole (sizes_of p.variables) y there) in
      let Q : ℕ → Type 0 = λ k. get_or s k 0 ≡ get_or t k 0 in
      ⊎_elim (λ (has : Contains f.own i). inr (value s at ∙ subst Q has.2 (All-get_or Q f.own has.0 i has.1 agree) ∙ sym (value t to)))
      (λ (absent : (k : Contains f.own i) → ⊥). inl (subst P (sym e) (is.not_others i within absent)))
      (has f.own i)

  factor_owned : (f : Factor) → IsFactor (shape_of p) f → model.DependsOnOwn (sizes_of p.variables) (factor_of p f)
  factor_owned f is s t at to agree =
      let n = length p.variables in
      let P : ℕ → Type 0 = λ k. IsIndependentOf f.func k in
      let count = ap (λ (c : Shape). length c.sizes) is.shape in
      ap unsigned_abs (agree_same f.func (point_of p s [] []) (point_of p t [] []) (point_at f.func is.shape s at) (point_at f.func is.shape t to)
      (λ j h. ⊎_elim
      (λ (less : j < 2 * n). let part = half j n less in
      ⊎_elim (λ (even : j ≡ 2 * part.variable). own_slot f is s t at to agree j part.variable part.within even)
      (λ (odd : j ≡ 2 * part.variable + 1). inl (subst P (sym odd) (is.not_primed part.variable part.within))) part.is)
      (λ (more : 2 * n ≤ j). let same : 2 * n + (j - 2 * n) ≡ j = omega arith in inl (subst P same (is.not_seen (j - 2 * n) (omega (arith, count, h, more)))))
      (cases_lt j (2 * n))))

  factor_at : (k : ℕ) → k < length p.init → (d : Factor) → IsFactor (shape_of p) (get_or p.init k d)
  factor_at k h d = All-get_or (IsFactor (shape_of p)) p.init k d h known.init

  pub problem_initial : model.HasInitial (problem p)
  unfolding problem
  problem_initial =
      let same = all_own-map p p.init in
      let P : List ℕ → Type 0 = λ l. AllPairs (λ i j. i ≢ j) l in
      let Q : List ℕ → Type 0 = λ l. All (λ i. i < length (sizes_of p.variables)) l in
      record {
        whole = All-map (λ f. (s : List ℕ) → theory.IsPoint (sizes_of p.variables) s → model.sum_over_own (sizes_of p.variables) f.own (λ t. pos (f.share t)) s ≡ pos q) (factor_of p) p.init
            (All-from_get_or (λ f. (s : List ℕ) → theory.IsPoint (sizes_of p.variables) s → model.sum_over_own (sizes_of p.variables) (factor_of p f).own (λ t. pos ((factor_of p f).share t)) s ≡ pos q) p.init no_factor (λ k h. factor_whole (get_or p.init k no_factor) (factor_at k h no_factor)));
        owned = All-map (model.DependsOnOwn (sizes_of p.variables)) (factor_of p) p.init
            (All-from_get_or (λ f. model.DependsOnOwn (sizes_of p.variables) (factor_of p f)) p.init no_factor (λ k h. factor_owned (get_or p.init k no_factor) (factor_at k h no_factor)));
        apart = subst P (sym same) known.apart;
        within = subst Q (sym same) (own_in (all_own p.init) (own_within (shape_of p) (length p.variables) p.init (λ k h d. (factor_at k h d).within)));
        every = λ i less. let R : List ℕ → Type 0 = λ l. Contains l i in subst R (sym same) (known.every i (let e = length-sizes_of p.variables in omega (arith, less, e)));
      }
