-- The values at each point, and the list of them.
use Rattle.std.proofs.Common.{◌≡◌, ℕ, ◌<◌, ◌≤◌, ◌%◌, ◌^◌, Bool, true, false, List, [], ◌∷◌, Option, Some, None, refl, sym, ◌∙◌, ap, subst, arith, get_or, length, map}
use Rattle.std.specs.Prelude.{ℤ, pos, negsuc, ◌*ℤ◌, unsigned_abs, int_le, ◌≤ℤ◌, ◌&&◌, not, position, option_map, cond, nat_lt}
use Rattle.std.specs.List.{list_all, position_or_len, All, AllPass}
use Rattle.std.specs.Ordering.{int_eq}
use Rattle.std.specs.Option.{MatchOption, IfSome}
use Rattle.std.proofs.Math.Nat.{mod-eq_of_lt}
use Rattle.std.proofs.lemmas.Int.{ints, unsigned_abs-mul}
use Rattle.std.proofs.lemmas.Bool.Decides.{Decides-int_eq}
use Rattle.std.proofs.lemmas.List.FromFn.{length-map-range_with_len, get_or-map-range_with_len}
use Rattle.std.proofs.lemmas.List.Sums.{AllPass-from_list_all, list_all-from_AllPass, position_or_len_is}
use Rattle.std.proofs.lemmas.List.Elements.{All-get_or, All-from_get_or}
use Rattle.std.proofs.lemmas.List.Folds.{list_all_at}
use Rattle.sp_dd.specs.Points.{product, place, point_at}
use Rattle.sp_dd.specs.Func.{Func, IsScope, IsPointOf, Everywhere, value_of, leaves_of}
use Rattle.sp_dd.specs.Operations.{IsLeast, IsGreatest, IsFirstApart, scalar_multiple}
use Rattle.sp_dd.proofs.FuncLemmas.{scope_some, value_of-function_of}
use Rattle.sp_dd.proofs.PointLemmas.{place-below, place-point_at, point_at-place, point_at_is}
use Rattle.sp_rows.specs.Tables.{values_of, is_within, first_apart}

mod_small : (k n : ℕ) → k < n → k % n ≡ k
mod_small k n h = mod-eq_of_lt h

module _ (f : Func) (scope : IsScope f.shape) where
  some : 0 < product f.shape.sizes
  some = scope_some f.shape scope

  pub length_leaves : length (values_of f) ≡ product f.shape.sizes
  unfolding leaves_of
  length_leaves = length-map-range_with_len _ 0 (product f.shape.sizes)

  place_back : (k : ℕ) → k < product f.shape.sizes → place f.shape.sizes (point_at f.shape.sizes k) ≡ k
  place_back k h = place-point_at f.shape.sizes k some ∙ mod_small k (product f.shape.sizes) h

  pub leaf_is : (k : ℕ) → k < product f.shape.sizes → value_of f (point_at f.shape.sizes k) ≡ get_or (values_of f) k (pos 0)
  unfolding leaves_of
  leaf_is k h = sym (get_or-map-range_with_len (λ k. value_of f (point_at f.shape.sizes k)) 0 (product f.shape.sizes) k k (pos 0) h (omega arith))

  pub leaf_at_point : (x : List ℕ) → IsPointOf f x → get_or (values_of f) (place f.shape.sizes x) (pos 0) ≡ value_of f x
  leaf_at_point x p = sym (leaf_is (place f.shape.sizes x) (place-below f.shape.sizes x some)) ∙ ap (value_of f) (point_at-place f.shape.sizes x some p)

  place_within : (x : List ℕ) → place f.shape.sizes x < length (values_of f)
  place_within x = let h = place-below f.shape.sizes x some in let e = length_leaves in omega arith

  -- a test of each value holds of each leaf, and back
  pub all_pass : (test : ℤ → Bool) → Everywhere f (λ v. test v ≡ true) → list_all test (values_of f) ≡ true
  all_pass test h =
      list_all-from_AllPass test (values_of f)
      (All-from_get_or (λ v. test v ≡ true) (values_of f) (pos 0)
      (λ k b. let within : k < product f.shape.sizes = let e = length_leaves in omega arith in
      subst (λ (v : ℤ). test v ≡ true) (leaf_is k within) (h (point_at f.shape.sizes k) (point_at_is f.shape.sizes k some))))

  pub pass_all : (test : ℤ → Bool) → list_all test (values_of f) ≡ true → Everywhere f (λ v. test v ≡ true)
  pass_all test h x p =
      subst (λ (v : ℤ). test v ≡ true) (leaf_at_point x p) (All-get_or (λ v. test v ≡ true) (values_of f) (place f.shape.sizes x) (pos 0) (place_within x) (AllPass-from_list_all test (values_of f) h))

  pub fails_at : (test : ℤ → Bool) (x : List ℕ) → IsPointOf f x → test (value_of f x) ≡ false → list_all test (values_of f) ≡ false
  fails_at test x p h = list_all_at test (values_of f) (place f.shape.sizes x) (pos 0) (place_within x) (rw (leaf_at_point x p) h)

le_true : (a b : ℤ) → a ≤ℤ b → int_le a b ≡ true
le_true a b h = grind (arith, ints)

true_le : (a b : ℤ) → int_le a b ≡ true → a ≤ℤ b
true_le a b h = grind (arith, ints)

le_trans : (a b c : ℤ) → a ≤ℤ b → b ≤ℤ c → a ≤ℤ c
le_trans a b c h k = omega (arith, ints)

both_true : (a b : Bool) → a ≡ true → b ≡ true → (a && b) ≡ true
both_true a b h k = grind arith

not_first : (a b : Bool) → a ≡ false → (a && b) ≡ false
not_first a b h = grind arith

not_second : (a b : Bool) → b ≡ false → (a && b) ≡ false
not_second true b h = h
not_second false b h = refl

pub within_is : (f : Func) (lo hi a b : ℤ) → IsScope f.shape → IsLeast f a → IsGreatest f b → (int_le lo a && int_le b hi) ≡ is_within lo hi f
within_is f lo hi a b scope least greatest = go (int_le lo a) (int_le b hi) refl refl
  where
    go : (x y : Bool) → int_le lo a ≡ x → int_le b hi ≡ y → (x && y) ≡ is_within lo hi f
    go true true h k = sym (all_pass f scope (λ v. int_le lo v && int_le v hi)
        (λ x p. both_true _ _ (le_true lo _ (le_trans lo a _ (true_le lo a h) (least.bound x p))) (le_true _ hi (le_trans _ b hi (greatest.bound x p) (true_le b hi k)))))
    go true false h k = sym (fails_at f scope (λ v. int_le lo v && int_le v hi) greatest.point greatest.inside (rw greatest.reached (not_second _ _ k)))
    go false y h k = sym (fails_at f scope (λ v. int_le lo v && int_le v hi) least.point least.inside (rw least.reached (not_first _ _ h)))

-- the first leaf that isn't v is that of the first point where the function isn't
not_apart : (u v : ℤ) → u ≡ v → not (int_eq u v) ≡ false
not_apart u v e = ap not ((Decides-int_eq u v).1 e)

is_apart : (u v : ℤ) → (u ≡ v → ⊥) → not (int_eq u v) ≡ true
is_apart u v h = go (int_eq u v) (Decides-int_eq u v).0
  where
    go : (b : Bool) → (b ≡ true → u ≡ v) → not b ≡ true
    go true k = absurd (h (k refl))
    go false k = refl

position_at : (test : ℤ → Bool) (xs : List ℤ) (i : ℕ) → i < length xs → position_or_len test xs ≡ i → position test xs ≡ Some i
position_at test xs i h e = rw e (grind arith)

position_none : (test : ℤ → Bool) (xs : List ℤ) → position_or_len test xs ≡ length xs → position test xs ≡ None
position_none test xs e = rw e (grind arith)

first_apart_is : (f : Func) (v : ℤ) (x : List ℕ) → IsScope f.shape → IsFirstApart f v x → Some x ≡ first_apart f v
first_apart_is f v x scope first =
    let i = place f.shape.sizes x in
    let within : i < length (values_of f) = place_within f scope x in
    let at : position_or_len (λ u. not (int_eq u v)) (values_of f) ≡ i =
    position_or_len_is (λ u. not (int_eq u v)) (values_of f) i (pos 0) (omega arith)
    (λ k h. let below : k < product f.shape.sizes = let e = length_leaves f scope in omega arith in
    not_apart _ v (sym (leaf_is f scope k below) ∙ first.before (point_at f.shape.sizes k) (point_at_is f.shape.sizes k (some f scope)) (rw (place_back f scope k below) h)))
    (λ h. is_apart _ v (λ e. first.apart (sym (leaf_at_point f scope x first.inside) ∙ e))) in
    sym (ap (option_map (point_at f.shape.sizes)) (position_at _ (values_of f) i within at) ∙ ap Some (point_at-place f.shape.sizes x (some f scope) first.inside))

none_apart_is : (f : Func) (v : ℤ) → IsScope f.shape → Everywhere f (λ u. u ≡ v) → first_apart f v ≡ None
none_apart_is f v scope all =
    ap (option_map (point_at f.shape.sizes)) (position_none _ (values_of f)
    (position_or_len_is (λ u. not (int_eq u v)) (values_of f) (length (values_of f)) (pos 0) (omega arith)
    (λ k h. let below : k < product f.shape.sizes = let e = length_leaves f scope in omega arith in
    not_apart _ v (sym (leaf_is f scope k below) ∙ all (point_at f.shape.sizes k) (point_at_is f.shape.sizes k (some f scope))))
    (λ h. absurd (omega arith))))

pub apart_is : (f : Func) (v : ℤ) (o : Option (List ℕ)) → IsScope f.shape → MatchOption o (Everywhere f (λ u. u ≡ v)) (λ x. IsFirstApart f v x) → o ≡ first_apart f v
apart_is f v None scope h = sym (none_apart_is f v scope h)
apart_is f v (Some x) scope h = first_apart_is f v x scope h

pub apart_inside : (f : Func) (v : ℤ) (o : Option (List ℕ)) → MatchOption o (Everywhere f (λ u. u ≡ v)) (λ x. IsFirstApart f v x) → IfSome o (λ x. IsPointOf f x)
apart_inside f v None h = tt
apart_inside f v (Some x) h = h.inside

-- less a cost within 10^18
pub small_cost : (f g : Func) → IsScope f.shape → g ≡ scalar_multiple f (negsuc 0) → Everywhere f (λ v. unsigned_abs v ≤ 10 ^ 18) → Everywhere g (λ v. unsigned_abs v ≤ 10 ^ 18)
small_cost f g scope e small x p =
    let inside : IsPointOf f x = subst (λ (h : Func). IsPointOf h x) e p in
    let v = value_of f x in
    let is : value_of g x ≡ negsuc 0 *ℤ v = ap (λ h. value_of h x) e ∙ value_of-function_of f.shape (λ y. negsuc 0 *ℤ value_of f y) x (scope_some f.shape scope) inside in
    rw is (let h = small x inside in omega (arith, unsigned_abs-mul (negsuc 0) v))
