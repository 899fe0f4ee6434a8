-- Sums of weights times values.
use Rattle.std.proofs.Common.{◌≡◌, ◌≢◌, ℕ, zero, suc, ◌+◌, ◌*◌, ◌^◌, ◌<◌, ◌≤◌, ⊎_elim, List, [], ◌∷◌, length, get_or, drop, ℤ, pos, ◌+ℤ◌, ◌*ℤ◌, ◌≤ℤ◌, unsigned_abs, Bool, true, false, cond, nat_eq, sym, ◌∙◌, ap, ap₂, refl, subst, arith, All, add-one}
use Rattle.std.proofs.lemmas.Bool.{cases_lt}
use Rattle.std.proofs.lemmas.Bool.Decides.{Decides-eqb}
use Rattle.std.proofs.lemmas.Int.{ints, unsigned_abs-mul}
use Rattle.std.proofs.lemmas.List.{drop_all}
use Rattle.std.proofs.lemmas.List.Elements.{All-head, All-tail, All-drop, All-get_or}
use Rattle.std.proofs.Math.Nat.{mul-le-mul_left, mul-le-mul_right, mod-eq_of_lt}
use Rattle.std.proofs.Math.IntN.{zero-*ℤ}
use Rattle.std.proofs.Math.Seq.{drop-cons}
use Rattle.sp_dd.specs.Floors.{sum_to}
use Rattle.sp_dd.specs.Points.{IsPoint}
use Rattle.sp_dd.specs.Func.{Shape, Func, IsScope, Everywhere, value_of, state_count, state_at}
use Rattle.sp_dd.specs.Operations.{state_total, state_dot}
use Rattle.sp_dd.proofs.FloorLemmas.{add-*ℤ}
use Rattle.sp_dd.proofs.FuncLemmas.{value_of-function_of, scope_some}
use Rattle.sp_dd.proofs.PointLemmas.{place-point_at, point_at_is}
use Rattle.sp_states.specs.declared.support.Entry.{Entry}
use Rattle.sp_states.specs.States.{widths_of, state_number, function_of_values, function_of_weights, weight_in, entry_dot, IsValueList, AreEntries}
use Rattle.sp_states.proofs.WidthLemmas.{states_some, state_point}

sum_to_same : (n : ℕ) (g h : ℕ → ℤ) → ((v : ℕ) → v < n → g v ≡ h v) → sum_to n g ≡ sum_to n h
sum_to_same zero g h e = refl
sum_to_same (suc n) g h e = ap₂ (λ x y. x +ℤ y) (sum_to_same n g h (λ v l. e v (omega arith))) (e n (omega arith))

sum_to-add : (n : ℕ) (g h : ℕ → ℤ) → sum_to n (λ v. g v +ℤ h v) ≡ sum_to n g +ℤ sum_to n h
sum_to-add zero g h = omega (arith, ints)
sum_to-add (suc n) g h = omega (arith, ints, sum_to-add n g h)

sum_to_zero : (n : ℕ) (f : ℕ → ℤ) → sum_to n (λ k. pos 0 *ℤ f k) ≡ pos 0
sum_to_zero zero f = refl
sum_to_zero (suc n) f = omega (arith, ints, sum_to_zero n f, zero-*ℤ (f n))

-- one number alone counts
abbrev single : ℕ → ℕ → ℕ → ℕ
single i w k = cond (nat_eq i k) w 0

single_other : (t : Bool) (i w k : ℕ) → nat_eq i k ≡ t → i ≢ k → single i w k ≡ 0
single_other true i w k e ne = absurd (ne ((Decides-eqb i k).0 e))
single_other false i w k e ne = ap (λ b. cond b w 0) e

single_same : (i w : ℕ) → single i w i ≡ w
single_same i w = ap (λ b. cond b w 0) ((Decides-eqb i i).1 refl)

single_none : (n i w : ℕ) (f : ℕ → ℤ) → n ≤ i → sum_to n (λ k. pos (single i w k) *ℤ f k) ≡ pos 0
single_none n i w f l =
    sum_to_same n _ (λ k. pos 0 *ℤ f k) (λ k m. ap (λ x. pos x *ℤ f k) (single_other (nat_eq i k) i w k refl (omega arith)))
    ∙ sum_to_zero n f

single_sum : (n i w : ℕ) (f : ℕ → ℤ) → i < n → sum_to n (λ k. pos (single i w k) *ℤ f k) ≡ pos w *ℤ f i
single_sum zero i w f l = absurd (omega arith)
single_sum (suc n) i w f l =
    ⊎_elim
    (λ (low : i < n).
    (let last : pos (single i w n) *ℤ f n ≡ pos 0 = ap (λ x. pos x *ℤ f n) (single_other (nat_eq i n) i w n refl (omega arith)) ∙ zero-*ℤ (f n) in
    omega (arith, ints, single_sum n i w f low, last)))
    (λ (high : n ≤ i).
    (let is : n ≡ i = omega arith in
    let last : pos (single i w n) *ℤ f n ≡ pos w *ℤ f i = ap (λ k. pos (single i w k) *ℤ f k) is ∙ ap (λ x. pos x *ℤ f i) (single_same i w) in
    omega (arith, ints, single_none n i w f high, last)))
    (cases_lt i n)

none_sum : (n : ℕ) (f : ℕ → ℤ) → sum_to n (λ k. pos (weight_in [] k) *ℤ f k) ≡ pos 0
unfolding weight_in
none_sum n f = sum_to_zero n f

-- the sum over all states is that over the entries
pub entries_sum : (n : ℕ) (es : List Entry) (f : ℕ → ℤ) → All (λ (e : Entry). e.state < n) es → sum_to n (λ k. pos (weight_in es k) *ℤ f k) ≡ entry_dot es f
unfolding weight_in entry_dot
entries_sum n [] f h = none_sum n f
entries_sum n (e ∷ es) f h =
    let P : Entry → Type 0 = λ x. x.state < n in
    sum_to_same n _ (λ k. pos (single e.state e.weight k) *ℤ f k +ℤ pos (weight_in es k) *ℤ f k) (λ k l. add-*ℤ (pos (single e.state e.weight k)) (pos (weight_in es k)) (f k))
    ∙ sum_to-add n (λ k. pos (single e.state e.weight k) *ℤ f k) (λ k. pos (weight_in es k) *ℤ f k)
    ∙ ap₂ (λ x y. x +ℤ y) (single_sum n e.state e.weight f (All-head P e es h)) (entries_sum n es f (All-tail P e es h))

-- ---- sizes

-- all weights together
abbrev pub mass : List Entry → ℕ
mass [] = 0
mass (e ∷ es) = e.weight + mass es

mass_is : (es : List Entry) → entry_dot es (λ k. pos 1) ≡ pos (mass es)
unfolding entry_dot
mass_is [] = refl
mass_is (e ∷ es) = omega (arith, ints, mass_is es)

mass_sum : (n : ℕ) (es : List Entry) → All (λ (e : Entry). e.state < n) es → sum_to n (λ k. pos (weight_in es k)) ≡ pos (mass es)
mass_sum n es h = sum_to_same n _ (λ k. pos (weight_in es k) *ℤ pos 1) (λ k l. omega (arith, ints)) ∙ entries_sum n es (λ k. pos 1) h ∙ mass_is es

mass_drop : (k : ℕ) (es : List Entry) → mass (drop k es) ≤ mass es
mass_drop zero es = omega arith
mass_drop (suc k) [] = omega arith
mass_drop (suc k) (e ∷ es) = omega (arith, mass_drop k es)

dot_size : (m : ℕ) (es : List Entry) (f : ℕ → ℤ) → All (λ (e : Entry). unsigned_abs (f e.state) ≤ m) es → unsigned_abs (entry_dot es f) ≤ mass es * m
unfolding entry_dot
dot_size m [] f h = omega arith
dot_size m (e ∷ es) f h =
    let P : Entry → Type 0 = λ x. unsigned_abs (f x.state) ≤ m in
    let one : e.weight * unsigned_abs (f e.state) ≤ e.weight * m = mul-le-mul_left e.weight (All-head P e es h) in
    let is : unsigned_abs (pos e.weight *ℤ f e.state) ≡ e.weight * unsigned_abs (f e.state) = unsigned_abs-mul (pos e.weight) (f e.state) in
    let rest : unsigned_abs (entry_dot es f) ≤ mass es * m = dot_size m es f (All-tail P e es h) in
    let both : unsigned_abs (pos e.weight *ℤ f e.state +ℤ entry_dot es f) ≤ unsigned_abs (pos e.weight *ℤ f e.state) + unsigned_abs (entry_dot es f) = size_add (pos e.weight *ℤ f e.state) (entry_dot es f) in
    omega (arith, one, is, rest, both)
  where
    size_add : (a b : ℤ) → unsigned_abs (a +ℤ b) ≤ unsigned_abs a + unsigned_abs b
    size_add a b = omega (arith, ints)

-- ---- a step of the loop

-- what is known of entries and values
pub record AreSmall (es : List Entry) (vs : List ℤ) : Type 0 where
  pub states : All (λ (e : Entry). e.state < length vs) es
  pub weights : mass es ≤ 2 ^ 62
  pub values : (k : ℕ) → k < length vs → unsigned_abs (get_or vs k (pos 0)) ≤ 2 ^ 62

abbrev value_in : List ℤ → ℕ → ℤ
value_in vs k = get_or vs k (pos 0)

small_rest : (es : List Entry) (vs : List ℤ) (k : ℕ) → AreSmall es vs → unsigned_abs (entry_dot (drop k es) (value_in vs)) ≤ 2 ^ 124
small_rest es vs k h =
    let P : Entry → Type 0 = λ e. unsigned_abs (value_in vs e.state) ≤ 2 ^ 62 in
    let each : All P (drop k es) = λ i d l. h.values (get_or (drop k es) i d).state (All-drop (λ (e : Entry). e.state < length vs) k es h.states i d l) in
    let less : mass (drop k es) * 2 ^ 62 ≤ 2 ^ 62 * 2 ^ 62 = mul-le-mul_right (2 ^ 62) (le_trans (mass_drop k es) h.weights) in
    omega (arith, dot_size (2 ^ 62) (drop k es) (value_in vs) each, less)
  where
    le_trans : {a b c : ℕ} → a ≤ b → b ≤ c → a ≤ c
    le_trans h k = omega arith

pub record IsStep (es : List Entry) (vs : List ℤ) (k : ℕ) (sum : ℤ) (e : Entry) : Type 0 where
  pub state : e.state < length vs
  pub weight : e.weight ≤ 2 ^ 62
  pub size : unsigned_abs (sum +ℤ pos e.weight *ℤ get_or vs e.state (pos 0)) ≤ 2 ^ 125
  pub next : (sum +ℤ pos e.weight *ℤ get_or vs e.state (pos 0)) +ℤ entry_dot (drop (k + 1) es) (λ n. get_or vs n (pos 0)) ≡ entry_dot es (λ n. get_or vs n (pos 0))

step_here : (es : List Entry) (vs : List ℤ) (k : ℕ) (sum : ℤ) (d : Entry) → AreSmall es vs → k < length es → sum +ℤ entry_dot (drop k es) (value_in vs) ≡ entry_dot es (value_in vs) → IsStep es vs k sum (get_or es k d)
unfolding entry_dot
step_here es vs k sum d h l i =
    let e : Entry = get_or es k d in
    let head : drop k es ≡ e ∷ drop (k + 1) es = drop-cons es k d l ∙ ap (λ j. e ∷ drop j es) (sym (add-one k)) in
    let rest : sum +ℤ (pos e.weight *ℤ value_in vs e.state +ℤ entry_dot (drop (k + 1) es) (value_in vs)) ≡ entry_dot es (value_in vs) = ap (λ xs. sum +ℤ entry_dot xs (value_in vs)) (sym head) ∙ i in
    let here : mass (drop k es) ≡ e.weight + mass (drop (k + 1) es) = ap mass head in
    let whole : unsigned_abs (entry_dot es (value_in vs)) ≤ 2 ^ 124 = small_rest es vs 0 h in
    let next : (sum +ℤ pos e.weight *ℤ value_in vs e.state) +ℤ entry_dot (drop (k + 1) es) (value_in vs) ≡ entry_dot es (value_in vs) = assoc sum (pos e.weight *ℤ value_in vs e.state) (entry_dot (drop (k + 1) es) (value_in vs)) ∙ rest in
    record {
      state = All-get_or (λ (x : Entry). x.state < length vs) es k d l h.states;
      weight = omega (arith, here, mass_drop k es, h.weights);
      size = size_of (sum +ℤ pos e.weight *ℤ value_in vs e.state) (entry_dot (drop (k + 1) es) (value_in vs)) (entry_dot es (value_in vs)) next (small_rest es vs (k + 1) h) whole;
      next = next;
    }
  where
    assoc : (a b c : ℤ) → (a +ℤ b) +ℤ c ≡ a +ℤ (b +ℤ c)
    assoc a b c = omega (arith, ints)

    size_of : (a b c : ℤ) → a +ℤ b ≡ c → unsigned_abs b ≤ 2 ^ 124 → unsigned_abs c ≤ 2 ^ 124 → unsigned_abs a ≤ 2 ^ 125
    size_of a b c e l m = omega (arith, ints)

pub is_step : (es : List Entry) (vs : List ℤ) (k : ℕ) (sum : ℤ) (d e : Entry) → AreSmall es vs → k < length es → sum +ℤ entry_dot (drop k es) (λ n. get_or vs n (pos 0)) ≡ entry_dot es (λ n. get_or vs n (pos 0)) → e ≡ get_or es k d → IsStep es vs k sum e
is_step es vs k sum d e h l i q = subst (IsStep es vs k sum) (sym q) (step_here es vs k sum d h l i)

-- after the last entry
pub sum_end : (es : List Entry) (f : ℕ → ℤ) (k : ℕ) (sum : ℤ) → length es ≤ k → sum +ℤ entry_dot (drop k es) f ≡ entry_dot es f → sum ≡ entry_dot es f
unfolding entry_dot
sum_end es f k sum l h =
    let none : entry_dot (drop k es) f ≡ pos 0 = ap (λ xs. entry_dot xs f) (drop_all k es l) in
    omega (arith, ints, none, h)

-- ---- the functions that are listed

abbrev IsStateOf : Shape → ℕ → Type 0
IsStateOf s k = IsPoint s.sizes (state_at s k)

pub state_within : (s : Shape) (k : ℕ) → IsScope s → IsPoint s.sizes (state_at s k)
state_within s k c = state_point s.variables s.sizes (state_at s k) c.each (point_at_is (widths_of s) k (states_some s c))

pub number_of : (s : Shape) (k : ℕ) → IsScope s → k < state_count s → state_number s (state_at s k) ≡ k
number_of s k c l = place-point_at (widths_of s) k (states_some s c) ∙ mod-eq_of_lt l

weighted_at : (s : Shape) (es : List Entry) (k : ℕ) → IsScope s → k < state_count s → value_of (function_of_weights s es) (state_at s k) ≡ pos (weight_in es k)
weighted_at s es k c l = value_of-function_of s _ (state_at s k) (scope_some s c) (state_within s k c) ∙ ap (λ i. pos (weight_in es i)) (number_of s k c l)

tabulated_at : (s : Shape) (vs : List ℤ) (k : ℕ) → IsScope s → k < state_count s → value_of (function_of_values s vs) (state_at s k) ≡ get_or vs k (pos 0)
tabulated_at s vs k c l = value_of-function_of s _ (state_at s k) (scope_some s c) (state_within s k c) ∙ ap (λ i. get_or vs i (pos 0)) (number_of s k c l)

-- what is known of a list and a table on one scope
pub record IsPaired (w f : Func) (es : List Entry) (vs : List ℤ) : Type 0 where
  pub small : AreSmall es vs
  pub sum : entry_dot es (λ n. get_or vs n (pos 0)) ≡ state_dot w f

paired_here : (s : Shape) (es : List Entry) (vs : List ℤ) → AreEntries s es → IsValueList s vs → state_total (function_of_weights s es) ≤ℤ pos (2 ^ 62) → Everywhere (function_of_values s vs) (λ v. unsigned_abs v ≤ 2 ^ 62) → IsPaired (function_of_weights s es) (function_of_values s vs) es vs
paired_here s es vs a t total small =
    let n : ℕ = state_count s in
    let all : sum_to n (λ k. value_of (function_of_weights s es) (state_at s k)) ≡ pos (mass es) = sum_to_same n _ (λ k. pos (weight_in es k)) (λ k l. weighted_at s es k a.scope l) ∙ mass_sum n es a.states in
    record {
      small = record {
        states = (let P : ℕ → Type 0 = λ m. All (λ (e : Entry). e.state < m) es in subst P (sym t.count) a.states);
        weights = omega (arith, ints, all, total);
        values = λ k l. (let below : k < n = omega (arith, l, t.count) in subst (λ v. unsigned_abs v ≤ 2 ^ 62) (tabulated_at s vs k a.scope below) (small (state_at s k) (state_within s k a.scope)));
      };
      sum =
          sym (sum_to_same n _ (λ k. pos (weight_in es k) *ℤ get_or vs k (pos 0)) (λ k l. ap₂ (λ x y. x *ℤ y) (weighted_at s es k a.scope l) (tabulated_at s vs k a.scope l))
          ∙ entries_sum n es (λ k. get_or vs k (pos 0)) a.states);
    }

paired_on : (s t : Shape) (es : List Entry) (vs : List ℤ) → s ≡ t → AreEntries s es → IsValueList t vs → state_total (function_of_weights s es) ≤ℤ pos (2 ^ 62) → Everywhere (function_of_values t vs) (λ v. unsigned_abs v ≤ 2 ^ 62) → IsPaired (function_of_weights s es) (function_of_values t vs) es vs
paired_on s t es vs e =
    let P : Shape → Type 0 = λ u. AreEntries s es → IsValueList u vs → state_total (function_of_weights s es) ≤ℤ pos (2 ^ 62) → Everywhere (function_of_values u vs) (λ v. unsigned_abs v ≤ 2 ^ 62) → IsPaired (function_of_weights s es) (function_of_values u vs) es vs in
    subst P e (paired_here s es vs)

pub paired : (w f : Func) (s t : Shape) (es : List Entry) (vs : List ℤ) → function_of_weights s es ≡ w → function_of_values t vs ≡ f → w.shape ≡ f.shape → AreEntries s es → IsValueList t vs → state_total w ≤ℤ pos (2 ^ 62) → Everywhere f (λ v. unsigned_abs v ≤ 2 ^ 62) → IsPaired w f es vs
paired w f s t es vs p q e a b total small =
    let shapes : s ≡ t = ap (λ (g : Func). g.shape) p ∙ e ∙ sym (ap (λ (g : Func). g.shape) q) in
    let h : IsPaired (function_of_weights s es) (function_of_values t vs) es vs = paired_on s t es vs shapes a b (subst (λ g. state_total g ≤ℤ pos (2 ^ 62)) (sym p) total) (subst (λ g. Everywhere g (λ v. unsigned_abs v ≤ 2 ^ 62)) (sym q) small) in
    subst (λ g. IsPaired g f es vs) p (subst (λ g. IsPaired (function_of_weights s es) g es vs) q h)
