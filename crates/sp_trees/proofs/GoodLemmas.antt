-- The functions that judging gives: of the scope, small, and of mentioned slots alone.
use Rattle.std.proofs.Common.{◌≡◌, ◌≢◌, ℕ, ◌<◌, ◌≤◌, ◌^◌, ◌&&◌, Bool, true, false, List, length, get_or, refl, sym, ap, ◌∙◌, subst, arith}
use Rattle.std.specs.Prelude.{ℤ, pos, neg_ℤ, int_le, ◌+ℤ◌, ◌*ℤ◌, unsigned_abs, slice_set, slice_index, slice_index_or, Result, Ok, Err, IfOk, All, if◌then◌else◌}
use Rattle.std.proofs.lemmas.Int.{ints}
use Rattle.std.proofs.lemmas.Bool.{false≢true}
use Rattle.std.proofs.Math.Seq.{get_or-set_other}
use Rattle.sp_dd.specs.Floors.{ticks, floor_div}
use Rattle.sp_dd.specs.Points.{IsPoint}
use Rattle.sp_dd.specs.Func.{Shape, Func, IsScope, Everywhere, IsIndependentOf, value_of, function_of, size_of}
use Rattle.sp_dd.specs.Operations.{everywhere, plus, product_floor, part_chosen}
use Rattle.sp_dd.proofs.FuncLemmas.{scope_some, value_of-function_of, IsPoint-with}
use Rattle.sp_dd.proofs.IndependenceLemmas.{point-below}
use Rattle.sp_trees.specs.declared.refusal.ModelKind.{ModelKind}
use Rattle.sp_trees.specs.declared.refusal.ModelKind.TheVariants as kind
use Rattle.sp_trees.specs.declared.slots.Slots.{Slots}
use Rattle.sp_trees.specs.declared.lists.Op.{Op}
use Rattle.sp_trees.specs.declared.lists.Op.TheVariants as op
use Rattle.sp_trees.specs.Slots.{has}
use Rattle.sp_trees.specs.Conditions.{is_within, is_product_whole}
use Rattle.sp_trees.specs.Lists.{greatest_partial, partial_within_limit, result_of_operation, at_bracket, result_of_step}
use Rattle.sp_trees.specs.Good.{IsFit, IsGood}
use Rattle.sp_trees.proofs.ConditionLemmas.{all_at}

-- ---- small

within_small : (f : Func) → IsScope f.shape → is_within greatest_partial f ≡ true → Everywhere f (λ v. unsigned_abs v ≤ 10 ^ 18)
within_small f c h x w = small (value_of f x) (all_at _ f c h x w)
  where
    small : (v : ℤ) → (int_le (neg_ℤ (pos (10 ^ 18))) v && int_le v (pos (10 ^ 18))) ≡ true → unsigned_abs v ≤ 10 ^ 18
    small v e = grind (arith, ints)

checked_fit : (s : Shape) (f : Func) → IsScope s → f.shape ≡ s → IfOk (partial_within_limit f) (IsFit s)
checked_fit s f c e = go (is_within greatest_partial f) refl
  where
    go : (b : Bool) → is_within greatest_partial f ≡ b → IfOk (if b then Ok f else Err kind.TooLarge) (IsFit s)
    go true h = record { shape = e; small = within_small f (subst IsScope (sym e) c) h }
    go false h = tt

combined_fit : (s : Shape) (o : Op) (f g : Func) → IsScope s → IsFit s f → IfOk (result_of_operation o f g) (IsFit s)
combined_fit s op.Sum f g c h = checked_fit s (plus f g) c h.shape
combined_fit s op.Product f g c h = go (is_product_whole f g)
  where
    go : (b : Bool) → IfOk (if b then partial_within_limit (product_floor f g) else Err kind.TooFine) (IsFit s)
    go true = checked_fit s (product_floor f g) c h.shape
    go false = tt

bracket_keeps : (P : Func → Type 0) (at : ℕ) (r : Result Func ModelKind) → IfOk r P → IfOk (at_bracket at r) P
bracket_keeps P at (Ok f) h = h
bracket_keeps P at (Err e) h = tt

pub joined_fit : (s : Shape) (o : Op) (at : ℕ) → IsScope s → (f g : Func) → IsFit s f → IsFit s g → IfOk (result_of_step o at f g) (IsFit s)
joined_fit s o at c f g h k = bracket_keeps (IsFit s) at (result_of_operation o f g) (combined_fit s o f g c h)

-- ---- independent

independent : (s : Shape) (h : List ℕ → ℤ) (slot : ℕ) → IsScope s → ((x : List ℕ) (v : ℕ) → IsPoint s.sizes x → v < size_of s slot → h (slice_set x slot v) ≡ h x) → IsIndependentOf (function_of s h) slot
independent s h slot c e x v w l =
    value_of-function_of s h (slice_set x slot v) (scope_some s c) (IsPoint-with s.sizes x slot v w l) ∙ e x v w l ∙ sym (value_of-function_of s h x (scope_some s c) w)

-- f's independence at the points of g's scope
across : (s : Shape) (f : Func) (slot : ℕ) → f.shape ≡ s → IsIndependentOf f slot → (x : List ℕ) (v : ℕ) → IsPoint s.sizes x → v < size_of s slot → value_of f (slice_set x slot v) ≡ value_of f x
across s f slot e h x v w l = h x v (subst (λ (t : Shape). IsPoint t.sizes x) (sym e) w) (subst (λ (t : Shape). v < size_of t slot) (sym e) l)

combined_free : (s : Shape) (o : Op) (f g : Func) (slot : ℕ) → IsScope s → f.shape ≡ s → g.shape ≡ s → IsIndependentOf f slot → IsIndependentOf g slot → IfOk (result_of_operation o f g) (λ r. IsIndependentOf r slot)
combined_free s o f g slot c ef eg hf hg = go o
  where
    scope : IsScope f.shape
    scope = subst IsScope (sym ef) c

    again : g.shape ≡ f.shape
    again = eg ∙ sym ef

    checked_free : (r : Func) → IsIndependentOf r slot → IfOk (partial_within_limit r) (λ r. IsIndependentOf r slot)
    checked_free r h = step (is_within greatest_partial r)
      where
        step : (b : Bool) → IfOk (if b then Ok r else Err kind.TooLarge) (λ r. IsIndependentOf r slot)
        step true = h
        step false = tt

    go : (o : Op) → IfOk (result_of_operation o f g) (λ r. IsIndependentOf r slot)
    go op.Sum = checked_free (plus f g) (independent f.shape _ slot scope (λ x v w l. (λ i. hf x v w l i +ℤ across f.shape g slot again hg x v w l i)))
    go op.Product = step (is_product_whole f g)
      where
        step : (b : Bool) → IfOk (if b then partial_within_limit (product_floor f g) else Err kind.TooFine) (λ r. IsIndependentOf r slot)
        step true = checked_free (product_floor f g) (independent f.shape _ slot scope (λ x v w l. (λ i. floor_div (hf x v w l i *ℤ across f.shape g slot again hg x v w l i) ticks)))
        step false = tt

both_good : (s : Shape) (m : Slots) (r : Result Func ModelKind) → IfOk r (IsFit s) → ((slot : ℕ) → slot < length s.sizes → has m slot ≡ false → IfOk r (λ f. IsIndependentOf f slot)) → IfOk r (IsGood s m)
both_good s m (Ok f) h k = record { fit = h; free = k }
both_good s m (Err e) h k = tt

pub joined_good : (s : Shape) (m : Slots) (o : Op) (at : ℕ) → IsScope s → (f g : Func) → IsGood s m f → IsGood s m g → IfOk (result_of_step o at f g) (IsGood s m)
joined_good s m o at c f g h k =
    bracket_keeps (IsGood s m) at (result_of_operation o f g)
    (both_good s m (result_of_operation o f g) (combined_fit s o f g c h.fit) (λ slot l n. combined_free s o f g slot c h.fit.shape k.fit.shape (h.free slot l n) (k.free slot l n)))

pub everywhere_good : (s : Shape) (m : Slots) (v : ℤ) → IsScope s → unsigned_abs v ≤ 10 ^ 18 → IsGood s m (everywhere s v)
everywhere_good s m v c h = record {
  fit = record { shape = refl; small = λ x w. subst (λ u. unsigned_abs u ≤ 10 ^ 18) (sym (value_of-function_of s (λ x. v) x (scope_some s c) w)) h };
  free = λ slot l n. independent s (λ x. v) slot c (λ x u w l. refl);
}

-- a wider set of slots serves too
pub good_more : (s : Shape) (m n : Slots) (f : Func) → ((slot : ℕ) → has m slot ≡ true → has n slot ≡ true) → IsGood s m f → IsGood s n f
good_more s m n f more h = record { fit = h.fit; free = λ slot l e. h.free slot l (less slot e (has m slot) refl) }
  where
    less : (slot : ℕ) → has n slot ≡ false → (b : Bool) → has m slot ≡ b → has m slot ≡ false
    less slot e true k = absurd (false≢true (sym e ∙ more slot k))
    less slot e false k = k

-- ---- a choice between parts

pub chosen_good : (s : Shape) (m : Slots) (slot : ℕ) (parts : List Func) → IsScope s → slot < length s.sizes → has m slot ≡ true → length parts ≡ size_of s slot → All (IsGood s m) parts → IsGood s m (part_chosen s slot parts)
chosen_good s m slot parts c here mine count good = record {
  fit = record { shape = refl; small = λ x w. subst (λ v. unsigned_abs v ≤ 10 ^ 18) (sym (value_of-function_of s _ x (scope_some s c) w)) (small x w) };
  free = λ k l e. independent s _ k c (λ x v w b. free k e l x v w b);
}
  where
    none : Func
    none = everywhere s (pos 0)

    part_of : List ℕ → Func
    part_of x = slice_index_or parts (slice_index x slot) none

    inside : (x : List ℕ) → IsPoint s.sizes x → slice_index x slot < length parts
    inside x w = let low : get_or x slot 0 < size_of s slot = point-below s.sizes x slot w here in omega arith

    small : (x : List ℕ) → IsPoint s.sizes x → unsigned_abs (value_of (part_of x) x) ≤ 10 ^ 18
    small x w = let h = good (slice_index x slot) none (inside x w) in h.fit.small x (subst (λ (t : Shape). IsPoint t.sizes x) (sym h.fit.shape) w)

    apart : (k : ℕ) → has m k ≡ false → slot ≢ k
    apart k e q = false≢true (sym e ∙ ap (has m) (sym q) ∙ mine)

    free : (k : ℕ) → has m k ≡ false → k < length s.sizes → (x : List ℕ) (v : ℕ) → IsPoint s.sizes x → v < size_of s k → value_of (part_of (slice_set x k v)) (slice_set x k v) ≡ value_of (part_of x) x
    free k e l x v w b =
        let h = good (slice_index x slot) none (inside x w) in
        ap (λ i. value_of (slice_index_or parts i none) (slice_set x k v)) (get_or-set_other x k slot v 0 (apart k e))
        ∙ across s (part_of x) k h.fit.shape (h.free k l e) x v w b
