-- Conditions on all values of a function.
use Rattle.std.proofs.Common.{◌≡◌, ℕ, zero, suc, ◌+◌, ◌<◌, ◌≤◌, Bool, true, false, ◌&&◌, List, ℤ, pos, ◌≤ℤ◌, refl, sym, ap, ◌∙◌, subst, arith}
use Rattle.std.specs.Prelude.{int_le, nat_lt, ◌*ℤ◌}
use Rattle.std.specs.List.{list_all, range_with_len}
use Rattle.std.specs.Bool.{OnTrue, OnFalse}
use Rattle.std.proofs.lemmas.Bool.{false≢true}
use Rattle.std.proofs.lemmas.Bool.Decides.{Decides-int_eq, nat_tests}
use Rattle.std.proofs.lemmas.Int.{ints}
use Rattle.std.proofs.lemmas.List.Folds.{list_all-map}
use Rattle.sp_dd.specs.Floors.{ticks, floor_div}
use Rattle.sp_dd.specs.Points.{product, place, point_at}
use Rattle.sp_dd.specs.Func.{Func, IsScope, IsPointOf, Everywhere, value_of, function_of, leaves_of}
use Rattle.sp_dd.specs.Operations.{IsProductWhole, HasPartialTick}
use Rattle.sp_dd.proofs.PointLemmas.{place-below, point_at-place, point_at_is}
use Rattle.sp_dd.proofs.FuncLemmas.{scope_some, value_of-function_of}
use Rattle.sp_trees.specs.Conditions.{all_values, lies_between, HasOutside, is_whole, is_product_whole}

-- ---- a test of each number of a range

pub range_all : (p : ℕ → Bool) (a n : ℕ) → ((k : ℕ) → a ≤ k → k < a + n → p k ≡ true) → list_all p (range_with_len a n) ≡ true
range_all p a zero h = refl
range_all p a (suc n) h = both (p a) (h a (omega arith) (omega arith)) (range_all p (a + 1) n (λ k l m. h k (omega arith) (omega arith)))
  where
    both : (b : Bool) → b ≡ true → list_all p (range_with_len (a + 1) n) ≡ true → (b && list_all p (range_with_len (a + 1) n)) ≡ true
    both true e f = f
    both false e f = e

left_of : (a b : Bool) → (a && b) ≡ true → a ≡ true
left_of true b h = refl
left_of false b h = h

right_of : (a b : Bool) → (a && b) ≡ true → b ≡ true
right_of true b h = h
right_of false b h = absurd (false≢true h)

pub range_at : (p : ℕ → Bool) (a n k : ℕ) → list_all p (range_with_len a n) ≡ true → a ≤ k → k < a + n → p k ≡ true
range_at p a zero k h l m = absurd (omega arith)
range_at p a (suc n) zero h l m = let e : a ≡ 0 = omega arith in subst (λ i. p i ≡ true) e (left_of (p a) _ h)
range_at p a (suc n) (suc k) h l m = go (nat_lt a (suc k)) refl (λ low. range_at p (a + 1) n (suc k) (right_of (p a) _ h) low (omega arith))
  where
    go : (b : Bool) → nat_lt a (suc k) ≡ b → (a + 1 ≤ suc k → p (suc k) ≡ true) → p (suc k) ≡ true
    go true e more = more (grind (arith, nat_tests))
    go false e more = let same : a ≡ suc k = grind (arith, nat_tests) in subst (λ i. p i ≡ true) same (left_of (p a) _ h)

-- ---- a test of each value

pub all_from : (test : ℤ → Bool) (f : Func) → IsScope f.shape → Everywhere f (λ v. test v ≡ true) → all_values test f ≡ true
unfolding leaves_of
all_from test f c h =
    list_all-map test (λ k. value_of f (point_at f.shape.sizes k)) (range_with_len 0 (product f.shape.sizes))
    ∙ range_all _ 0 (product f.shape.sizes) (λ k l m. h (point_at f.shape.sizes k) (point_at_is f.shape.sizes k (scope_some f.shape c)))

pub all_at : (test : ℤ → Bool) (f : Func) → IsScope f.shape → all_values test f ≡ true → Everywhere f (λ v. test v ≡ true)
unfolding leaves_of
all_at test f c h x w =
    let some = scope_some f.shape c in
    let ks = range_with_len 0 (product f.shape.sizes) in
    let e : list_all (λ k. test (value_of f (point_at f.shape.sizes k))) ks ≡ true = sym (list_all-map test (λ k. value_of f (point_at f.shape.sizes k)) ks) ∙ h in
    let low : place f.shape.sizes x < product f.shape.sizes = place-below f.shape.sizes x some in
    subst (λ y. test (value_of f y) ≡ true) (point_at-place f.shape.sizes x some w)
    (range_at (λ k. test (value_of f (point_at f.shape.sizes k))) 0 (product f.shape.sizes) (place f.shape.sizes x) e (omega arith) (omega arith))

not_all : (test : ℤ → Bool) (f : Func) (x : List ℕ) → IsScope f.shape → IsPointOf f x → test (value_of f x) ≡ false → all_values test f ≡ false
not_all test f x c w e = go (all_values test f) refl
  where
    go : (b : Bool) → all_values test f ≡ b → all_values test f ≡ false
    go true h = absurd (false≢true (sym e ∙ all_at test f c h x w))
    go false h = h

between_true : (low high v : ℤ) → low ≤ℤ v → v ≤ℤ high → (int_le low v && int_le v high) ≡ true
between_true low high v l h = grind (arith, ints)

between_false : (low high v : ℤ) → ¬ ((low ≤ℤ v) × (v ≤ℤ high)) → (int_le low v && int_le v high) ≡ false
between_false low high v h = grind (arith, ints)

pub between_is : (b : Bool) (low high : ℤ) (f : Func) → IsScope f.shape → OnTrue b (Everywhere f (λ v. (low ≤ℤ v) × (v ≤ℤ high))) → OnFalse b (HasOutside low high f) → b ≡ lies_between low high f
between_is true low high f c h k = sym (all_from _ f c (λ x w. let h = h x w in between_true low high (value_of f x) h.0 h.1))
between_is false low high f c h k = sym (not_all _ f k.point c k.inside (between_false low high (value_of f k.point) k.outside))

pub between_as : (b : Bool) (l h low high : ℤ) (f : Func) → l ≡ low → h ≡ high → IsScope f.shape → OnTrue b (Everywhere f (λ v. (l ≤ℤ v) × (v ≤ℤ h))) → OnFalse b (HasOutside l h f) → b ≡ lies_between low high f
between_as b l h low high f e g c y n = between_is b l h f c y n ∙ ap (λ u. lies_between u h f) e ∙ ap (λ u. lies_between low u f) g

-- ---- whole products

pub whole_true : (f g : Func) → IsScope f.shape → IsProductWhole f g → is_product_whole f g ≡ true
whole_true f g c h =
    all_from is_whole (function_of f.shape (λ x. value_of f x *ℤ value_of g x)) c (λ x w.
    let e = value_of-function_of f.shape (λ x. value_of f x *ℤ value_of g x) x (scope_some f.shape c) w in
    ap is_whole e ∙ (Decides-int_eq _ _).1 (h x w))

pub whole_false : (f g : Func) → IsScope f.shape → HasPartialTick f g → is_product_whole f g ≡ false
whole_false f g c h =
    let z = value_of f h.point *ℤ value_of g h.point in
    not_all is_whole (function_of f.shape (λ x. value_of f x *ℤ value_of g x)) h.point c h.inside
    (ap is_whole (value_of-function_of f.shape (λ x. value_of f x *ℤ value_of g x) h.point (scope_some f.shape c) h.inside)
    ∙ go z (is_whole z) refl h.partial)
  where
    go : (z : ℤ) (b : Bool) → is_whole z ≡ b → ¬ (floor_div z ticks *ℤ pos ticks ≡ z) → is_whole z ≡ false
    go z true e n = absurd (n ((Decides-int_eq (floor_div z ticks *ℤ pos ticks) z).0 e))
    go z false e n = e
