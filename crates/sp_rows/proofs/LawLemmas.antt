-- What holds of a table that isn't refused by its values, and of the tables that a text leaves out.
use Rattle.std.proofs.Common.{◌≡◌, ◌≢◌, ℕ, zero, suc, ◌+◌, ◌-◌, ◌*◌, ◌^◌, ◌<◌, ◌≤◌, ◌==◌, eqb, Bool, true, false, List, [], ◌∷◌, ◌++◌, Option, Some, None, refl, sym, ◌∙◌, ap, ap₂, subst, arith, get_or, set, length, map, ◌⊎◌, inl, inr}
use Rattle.std.specs.Prelude.{ℤ, pos, negsuc, int_le, ◌≤ℤ◌, ◌+ℤ◌, ◌*ℤ◌, ◌&&◌, not, position, option_map, cond, nat_lt, unsigned_abs, if◌then◌else◌, All, slice_index}
use Rattle.std.specs.List.{list_all, position_or_len}
use Rattle.std.specs.Ordering.{int_eq}
use Rattle.std.proofs.lemmas.Int.{ints}
use Rattle.std.proofs.lemmas.Bool.Decides.{Decides-int_eq, nat_tests, eqb_tells}
use Rattle.std.proofs.lemmas.List.{get_or-set_other, get_or-set_same}
use Rattle.std.proofs.lemmas.List.Sums.{fails_before_first}
use Rattle.std.proofs.Math.Nat.{mul-le-mul_right, mul-le-mul_left}
use Rattle.sp_theory.specs.Points.{count_of}
use Rattle.sp_dd.specs.Floors.{ticks, sum_to}
use Rattle.sp_dd.specs.Points.{product, place, point_at, IsPoint}
use Rattle.sp_dd.specs.Func.{Shape, Func, IsScope, IsPointOf, Everywhere, IsIndependentOf, value_of, function_of, size_of}
use Rattle.sp_dd.specs.Operations.{summed_out, IsRow, plus, scalar_multiple, everywhere}
use Rattle.sp_dd.proofs.FuncLemmas.{scope_some, value_of-function_of, IsPoint-with}
use Rattle.sp_dd.proofs.PointLemmas.{place-below}
use Rattle.sp_model.specs.Problem.{twice_each}
use Rattle.sp_model.specs.Sizes.{AllSome}
use Rattle.sp_model.specs.Kept.{IsProbability, IsTransitionTable, summed_out_own}
use Rattle.sp_model.proofs.InitialLaw.{summed_out_own-shape}
use Rattle.sp_rows.specs.declared.tables.Table.{Table}
use Rattle.sp_rows.specs.declared.tables.Table.TheVariants as table
use Rattle.sp_rows.specs.Tables.{values_of, is_within, is_probability, is_reward, first_apart, slot_of, numbers_rows, widths_from, row_widths, bad_row, bad_sum, identity, less, own_count}
use Rattle.sp_rows.proofs.LeafLemmas.{length_leaves, leaf_at_point, pass_all}
use Rattle.sp_ddops.proofs.StateSumLemmas.{sum_to_same}
use Rattle.sp_rows.proofs.RowLemmas.{both, length-point}
use Rattle.sp_rows.proofs.KeptLemmas.{coordinate, has_pair}

-- ---- a function that is one number
mapped_none : {A B : Type 0} (g : A → B) (o : Option A) → option_map g o ≡ None → o ≡ None
mapped_none g None h = refl
mapped_none g (Some x) h = cc

no_position : (test : ℤ → Bool) (xs : List ℤ) → position test xs ≡ None → length xs ≤ position_or_len test xs
no_position test xs h = grind (arith)

not_apart : (u v : ℤ) → not (int_eq u v) ≡ false → u ≡ v
not_apart u v h = (Decides-int_eq u v).0 (let same : (b : Bool) → not b ≡ false → b ≡ true = back in same (int_eq u v) h)
  where
    back : (b : Bool) → not b ≡ false → b ≡ true
    back true e = refl
    back false e = cc

pub apart_none : (f : Func) (v : ℤ) → IsScope f.shape → first_apart f v ≡ None → Everywhere f (λ u. u ≡ v)
apart_none f v scope h x p =
    let none = no_position (λ u. not (int_eq u v)) (values_of f) (mapped_none (point_at f.shape.sizes) _ h) in
    let within : place f.shape.sizes x < length (values_of f) = (let b = place-below f.shape.sizes x (scope_some f.shape scope) in let e = length_leaves f scope in omega arith) in
    sym (leaf_at_point f scope x p) ∙ not_apart _ v (fails_before_first (λ u. not (int_eq u v)) (values_of f) (place f.shape.sizes x) (pos 0) (omega arith))

le_of : (a b : ℤ) → int_le a b ≡ true → a ≤ℤ b
le_of a b h = grind (arith, ints)

pub within_of : (lo hi : ℤ) (f : Func) → IsScope f.shape → is_within lo hi f ≡ true → Everywhere f (λ v. (lo ≤ℤ v) × (v ≤ℤ hi))
within_of lo hi f scope h x p =
    let parts = both (int_le lo (value_of f x)) (int_le (value_of f x) hi) (pass_all f scope (λ v. int_le lo v && int_le v hi) h x p) in
    (le_of lo _ parts.0, le_of _ hi parts.1)

pub probability_of : (f : Func) → IsScope f.shape → is_probability f ≡ true → IsProbability f
probability_of f scope h = within_of (pos 0) (pos ticks) f scope h

-- ---- rows
pub rows_whole : (f : Func) (t : Table) → IsScope f.shape → slot_of f.shape.variables t < length f.shape.sizes → is_probability f ≡ true → bad_row f t ≡ None → IsRow f (slot_of f.shape.variables t)
rows_whole f t scope within h none =
    let slot = slot_of f.shape.variables t in
    let sums = summed_out f slot in
    let one = apart_none sums (pos ticks) scope (mapped_none _ _ none) in
    record {
      weights = λ x p v b. (probability_of f scope h (set x slot v) (IsPoint-with f.shape.sizes x slot v p b)).0;
      whole = λ x p. sym (value_of-function_of f.shape (λ x. sum_to (size_of f.shape slot) (λ v. value_of f (set x slot v))) x (scope_some f.shape scope) p) ∙ one x p;
    }

pub sum_whole : (f : Func) (own : List ℕ) → IsScope f.shape → bad_sum f own ≡ None → Everywhere (summed_out_own f own) (λ v. v ≡ pos ticks)
sum_whole f own scope none =
    apart_none (summed_out_own f own) (pos ticks) (subst IsScope (sym (summed_out_own-shape f own)) scope) (mapped_none _ _ none)

-- ---- rewards
abs_of : (v : ℤ) → negsuc 999999999999999 ≤ℤ v → v ≤ℤ pos 1000000000000000 → unsigned_abs v ≤ 10 ^ 15
abs_of v h k = grind (arith, ints)

pub reward_small : (f : Func) → IsScope f.shape → is_reward f ≡ true → Everywhere f (λ v. unsigned_abs v ≤ 10 ^ 15)
reward_small f scope h x p = let b = within_of _ _ f scope h x p in abs_of _ b.0 b.1

pub less_free : (f g : Func) (slot : ℕ) → IsScope f.shape → g.shape ≡ f.shape → slot < length f.shape.sizes → IsIndependentOf f slot → IsIndependentOf g slot → IsIndependentOf (less f g) slot
less_free f g slot scope e within hf hg x v p b =
    let q = IsPoint-with f.shape.sizes x slot v p b in
    let some = scope_some f.shape scope in
    let gp : IsPointOf g x = subst (λ (s : Shape). IsPoint s.sizes x) (sym e) p in
    let gq : IsPointOf g (set x slot v) = subst (λ (s : Shape). IsPoint s.sizes (set x slot v)) (sym e) q in
    let gb : v < size_of g.shape slot = subst (λ (s : Shape). v < size_of s slot) (sym e) b in
    let gs : IsScope g.shape = subst IsScope (sym e) scope in
    let at = λ (y : List ℕ) (r : IsPointOf f y) (s : IsPointOf g y). value_of-function_of f.shape (λ y. value_of f y +ℤ value_of (scalar_multiple g (negsuc 0)) y) y some r
    ∙ ap (λ z. value_of f y +ℤ z) (value_of-function_of g.shape (λ y. negsuc 0 *ℤ value_of g y) y (scope_some g.shape gs) s) in
    at (set x slot v) q gq ∙ ap₂ (λ a c. a +ℤ (negsuc 0 *ℤ c)) (hf x v p b) (hg x v gp gb) ∙ sym (at x p gp)

pub zero_free : (s : Shape) (slot : ℕ) → IsScope s → slot < length s.sizes → IsIndependentOf (everywhere s (pos 0)) slot
zero_free s slot scope within x v p b =
    value_of-function_of s (λ y. pos 0) (set x slot v) (scope_some s scope) (IsPoint-with s.sizes x slot v p b) ∙ sym (value_of-function_of s (λ y. pos 0) x (scope_some s scope) p)

-- ---- how many rows there are
width_most : (b : Bool) (w : ℕ) → 1 ≤ w → (if b then w else 1) ≤ w
width_most true w h = omega arith
width_most false w h = h

no_more : (counts : ℕ → Bool) (k : ℕ) (js : List ℕ) → ((slot : ℕ) → k ≤ slot → counts slot ≡ false) → product (widths_from counts k js) ≡ 1
no_more counts k [] h = refl
no_more counts k (j ∷ js) h = rw (h k (omega arith)) (let more = no_more counts (k + 1) js (λ slot l. h slot (omega arith)) in omega arith)

squared : (a b w p c : ℕ) → a ≤ w → b ≤ w → p ≤ c * c → a * (b * p) ≤ (w * c) * (w * c)
squared a b w p c h k l =
    let one : a * (b * p) ≤ w * (b * p) = mul-le-mul_right (b * p) h in
    let two : w * (b * p) ≤ w * (w * p) = mul-le-mul_left w (mul-le-mul_right p k) in
    let three : w * (w * p) ≤ w * (w * (c * c)) = mul-le-mul_left w (mul-le-mul_left w l) in
    let same : w * (w * (c * c)) ≡ (w * c) * (w * c) = grind arith in
    omega arith

pairs_most : (counts : ℕ → Bool) (k : ℕ) (ks js : List ℕ) → AllSome ks → ((slot : ℕ) → k + 2 * length ks ≤ slot → counts slot ≡ false) → product (widths_from counts k (twice_each ks ++ js)) ≤ count_of ks * count_of ks
pairs_most counts k [] js h none = let e = no_more counts k js (λ slot l. none slot (omega arith)) in omega arith
pairs_most counts k (w ∷ ks) js h none =
    squared _ _ w _ (count_of ks) (width_most (counts k) w h.0) (width_most (counts (k + 1)) w h.0) (pairs_most counts (k + 1 + 1) ks js h.1 (λ slot l. none slot (omega arith)))

none_behind : (n : ℕ) (t : Table) (slot : ℕ) → 2 * n ≤ slot → numbers_rows n t slot ≡ false
none_behind n (table.Move i) slot h = rw (not_below slot (2 * n) h) refl
  where
    not_below : (a b : ℕ) → b ≤ a → nat_lt a b ≡ false
    not_below a b h = grind (arith)
none_behind n (table.Sight j) slot h = rw (not_below slot (2 * n) h) refl
  where
    not_below : (a b : ℕ) → b ≤ a → nat_lt a b ≡ false
    not_below a b h = grind (arith)

square_small : (c : ℕ) → c ≤ 2 ^ 24 → c * c ≤ 2 ^ 48
square_small c h = let one : c * c ≤ c * 2 ^ 24 = mul-le-mul_left c h in omega arith

pub few_rows : (ks js : List ℕ) (t : Table) → AllSome ks → count_of ks ≤ 2 ^ 24 → product (widths_from (numbers_rows (length ks) t) 0 (twice_each ks ++ js)) ≤ 2 ^ 48
few_rows ks js t some h = let most = pairs_most (numbers_rows (length ks) t) 0 ks js some (λ slot l. none_behind (length ks) t slot (omega arith)) in let small = square_small (count_of ks) h in omega arith

-- ---- the table of a variable that keeps its value
same_is : (a b : ℕ) → a ≡ b → (if a == b then pos ticks else pos 0) ≡ pos ticks
same_is a b e = let t : (a == b) ≡ true = grind (arith, nat_tests) in rw t refl

other_is : (a b : ℕ) → a ≢ b → (if a == b then pos ticks else pos 0) ≡ pos 0
other_is a b e = let t : (a == b) ≡ false = grind (arith, nat_tests) in rw t refl

sum_before : (k n : ℕ) → n ≤ k → sum_to n (λ v. if k == v then pos ticks else pos 0) ≡ pos 0
sum_before k zero h = refl
sum_before k (suc n) h = rw (sum_before k n (omega arith), other_is k n (omega arith)) refl

sum_at : (k n : ℕ) → k < n → sum_to n (λ v. if k == v then pos ticks else pos 0) ≡ pos ticks
sum_at k zero h = absurd (omega arith)
sum_at k (suc n) h = go (λ low. sum_at k n low) (eqb_tells k n)
  where
    go : (k < n → sum_to n (λ v. if k == v then pos ticks else pos 0) ≡ pos ticks) → ((eqb k n ≡ true) × (k ≡ n)) ⊎ ((eqb k n ≡ false) × (k ≢ n)) → sum_to n (λ v. if k == v then pos ticks else pos 0) +ℤ (if k == n then pos ticks else pos 0) ≡ pos ticks
    go more (inl e) = let low : n ≤ k = (let f = e.1 in omega arith) in rw (sum_before k n low, same_is k n e.1) refl
    go more (inr e) = let low : k < n = (let f = e.1 in omega arith) in rw (more low, other_is k n e.1) refl

module _ (s : Shape) (i : ℕ) (scope : IsScope s) (h : i < s.variables) where
  identity_at : (x : List ℕ) → IsPoint s.sizes x → value_of (identity s i) x ≡ (if get_or x (2 * i) 0 == get_or x (2 * i + 1) 0 then pos ticks else pos 0)
  identity_at x p = value_of-function_of s (λ x. if slice_index x (2 * i) == slice_index x (2 * i + 1) then pos ticks else pos 0) x (scope_some s scope) p

  share_of : (b : Bool) → (let v : ℤ = (if b then pos ticks else pos 0) in (pos 0 ≤ℤ v) × (v ≤ℤ pos ticks))
  share_of true = (omega (arith, ints), omega (arith, ints))
  share_of false = (omega (arith, ints), omega (arith, ints))

  identity_share : (x : List ℕ) → IsPoint s.sizes x → (pos 0 ≤ℤ value_of (identity s i) x) × (value_of (identity s i) x ≤ℤ pos ticks)
  identity_share x p = rw (identity_at x p) (share_of (get_or x (2 * i) 0 == get_or x (2 * i + 1) 0))

  identity_free : (slot : ℕ) → slot ≢ 2 * i → slot ≢ 2 * i + 1 → IsIndependentOf (identity s i) slot
  identity_free slot a b x v p l =
      identity_at (set x slot v) (IsPoint-with s.sizes x slot v p l)
      ∙ ap₂ (λ m n. if m == n then pos ticks else pos 0) (get_or-set_other x slot (2 * i) v 0 (λ e. a (sym e))) (get_or-set_other x slot (2 * i + 1) v 0 (λ e. b (sym e)))
      ∙ sym (identity_at x p)

  row_sum : (x : List ℕ) → IsPoint s.sizes x → sum_to (size_of s (2 * i + 1)) (λ v. value_of (identity s i) (set x (2 * i + 1) v)) ≡ pos ticks
  row_sum x p =
      let pair = has_pair s i scope h in
      let n = size_of s (2 * i + 1) in
      let k = get_or x (2 * i) 0 in
      let low : k < n = (let c = coordinate s.sizes x (2 * i) p pair.unprimed in let e = pair.same in omega arith) in
      sum_to_same n _ (λ v. if k == v then pos ticks else pos 0)
      (λ v l. identity_at (set x (2 * i + 1) v) (IsPoint-with s.sizes x (2 * i + 1) v p l)
      ∙ ap₂ (λ m n. if m == n then pos ticks else pos 0) (get_or-set_other x (2 * i + 1) (2 * i) v 0 (omega arith))
      (get_or-set_same x (2 * i + 1) v 0 (let e = length-point s.sizes x p in let w = pair.primed in omega arith)))
      ∙ sum_at k n low

  pub identity_move : IsTransitionTable s i (identity s i)
  identity_move = record {
    shape = refl;
    probability = identity_share;
    row = record {
      weights = λ x p v b. (identity_share (set x (2 * i + 1) v) (IsPoint-with s.sizes x (2 * i + 1) v p b)).0;
      whole = row_sum;
    };
    not_later = λ k a b. identity_free (2 * k + 1) (omega arith) (omega arith);
    not_seen = λ j b. identity_free (2 * s.variables + j) (omega arith) (omega arith);
  }
