-- The rows on the values of a list.
use Rattle.std.proofs.Common.{◌≡◌, ℕ, zero, suc, ◌+◌, ◌<◌, ◌≤◌, ◌^◌, ◌&&◌, Bool, true, false, List, [], ◌∷◌, Option, Some, None, refl, sym, ap, ◌∙◌, subst, arith, inl, inr}
use Rattle.std.specs.Prelude.{ℤ, pos, neg_ℤ, int_le, ◌+ℤ◌, ◌*ℤ◌, unsigned_abs, Result, Ok, Err, IfOk, if◌then◌else◌}
use Rattle.std.specs.List.{list_all, range_with_len}
use Rattle.std.proofs.lemmas.Bool.{false≢true}
use Rattle.std.proofs.lemmas.Int.{ints}
use Rattle.std.proofs.lemmas.List.Folds.{list_all-map}
use Rattle.sp_dd.specs.Floors.{ticks, floor_div}
use Rattle.sp_dd.specs.Points.{IsPoint, product, point_at}
use Rattle.sp_dd.specs.Func.{Shape, Func, IsScope, IsPointOf, value_of, function_of, leaves_of}
use Rattle.sp_dd.specs.Operations.{plus, product_floor}
use Rattle.sp_dd.proofs.PointLemmas.{point_at_is}
use Rattle.sp_dd.proofs.FuncLemmas.{scope_some, value_of-function_of}
use Rattle.sp_trees.specs.declared.refusal.ModelKind.{ModelKind}
use Rattle.sp_trees.specs.declared.refusal.ModelKind.TheVariants as kind
use Rattle.sp_trees.specs.declared.refusal.Refusal.{Refusal}
use Rattle.sp_trees.specs.declared.judged.Judged.{Judged}
use Rattle.sp_trees.specs.declared.lists.Op.{Op}
use Rattle.sp_trees.specs.declared.lists.Op.TheVariants as op
use Rattle.sp_trees.specs.Conditions.{is_whole, is_within, is_product_whole, all_values}
use Rattle.sp_trees.specs.Lists.{greatest_partial, partial_within_limit, result_of_operation, at_bracket, step, then_more, steps}
use Rattle.sp_trees.specs.Values.{Value, product_of}
use Rattle.sp_trees.specs.Good.{IsFit}
use Rattle.sp_trees.specs.Rows.{IsFirstRefusal, operation, partial_of, IsFine, IsPartial, IsLarge, PartialRow, ListRow}
use Rattle.sp_trees.proofs.ConditionLemmas.{all_at}
use Rattle.sp_trees.proofs.GoodLemmas.{joined_fit}
use Rattle.sp_trees.proofs.LeastLemmas.{least_only}

-- ---- a value that fails a test

pub range_not : (p : ℕ → Bool) (a n : ℕ) → list_all p (range_with_len a n) ≡ false → (k : ℕ) × (a ≤ k) × (k < a + n) × (p k ≡ false)
range_not p a zero h = absurd (false≢true (sym h))
range_not p a (suc n) h = go (p a) refl (range_not p (a + 1) n)
  where
    later : (k : ℕ) × (a + 1 ≤ k) × (k < (a + 1) + n) × (p k ≡ false) → (k : ℕ) × (a ≤ k) × (k < a + suc n) × (p k ≡ false)
    later (k, l, m, e) = (k, omega arith, omega arith, e)

    go : (b : Bool) → p a ≡ b → (list_all p (range_with_len (a + 1) n) ≡ false → (k : ℕ) × (a + 1 ≤ k) × (k < (a + 1) + n) × (p k ≡ false)) → (k : ℕ) × (a ≤ k) × (k < a + suc n) × (p k ≡ false)
    go true e more = later (more (sym (ap (λ b. b && list_all p (range_with_len (a + 1) n)) e) ∙ h))
    go false e more = (a, omega arith, omega arith, e)

pub some_not : (test : ℤ → Bool) (f : Func) → IsScope f.shape → all_values test f ≡ false → (x : List ℕ) × IsPointOf f x × (test (value_of f x) ≡ false)
unfolding leaves_of
some_not test f c h =
    let e = sym (list_all-map test (λ k. value_of f (point_at f.shape.sizes k)) (range_with_len 0 (product f.shape.sizes))) ∙ h in
    let k = range_not (λ k. test (value_of f (point_at f.shape.sizes k))) 0 (product f.shape.sizes) e in
    (point_at f.shape.sizes k.0, point_at_is f.shape.sizes k.0 (scope_some f.shape c), k.3)

-- ---- one partial result

module _ (s : Shape) (c : IsScope s) where
  -- a function of the scope has these values
  pub record Tells (f : Func) (v : Value) : Type 0 where
    pub fit : IsFit s f
    pub value : (x : List ℕ) → IsPoint s.sizes x → v x ≡ Some (value_of f x)

  pub fine : (f : Func) (v : Value) → Tells f v → IsFine s v
  fine f v h x w = (value_of f x, h.value x w, h.fit.small x (subst (λ (t : Shape). IsPoint t.sizes x) (sym h.fit.shape) w))

  abbrev Outcome : Value → Result Func ModelKind → Type 0
  Outcome v (Ok h) = Tells h v
  Outcome v (Err kind.TooFine) = IsPartial s v
  Outcome v (Err kind.TooLarge) = IsLarge s v
  Outcome v (Err _) = ⊥

  value_made : (f : Func) (h : List ℕ → ℤ) (x : List ℕ) → f.shape ≡ s → IsPoint s.sizes x → value_of (function_of f.shape h) x ≡ h x
  value_made f h x e w = value_of-function_of f.shape h x (scope_some f.shape (subst IsScope (sym e) c)) (subst (λ (t : Shape). IsPoint t.sizes x) (sym e) w)

  checked_outcome : (f : Func) (v : Value) → f.shape ≡ s → ((x : List ℕ) → IsPoint s.sizes x → v x ≡ Some (value_of f x)) → IfOk (partial_within_limit f) (IsFit s) → Outcome v (partial_within_limit f)
  checked_outcome f v e h k = go (is_within greatest_partial f) refl k
    where
      large : (z : ℤ) → (int_le (neg_ℤ (pos (10 ^ 18))) z && int_le z (pos (10 ^ 18))) ≡ false → 10 ^ 18 < unsigned_abs z
      large z e = grind (arith, ints)

      go : (b : Bool) → is_within greatest_partial f ≡ b → IfOk (if b then Ok f else Err kind.TooLarge) (IsFit s) → Outcome v (if b then Ok f else Err kind.TooLarge)
      go true q fit = record { fit = fit; value = h }
      go false q fit =
          let found = some_not (λ v. int_le (neg_ℤ (pos greatest_partial)) v && int_le v (pos greatest_partial)) f (subst IsScope (sym e) c) q in
          let here : IsPoint s.sizes found.0 = subst (λ (t : Shape). IsPoint t.sizes found.0) e found.1 in
          record {
            whole = λ x w. (value_of f x, h x w);
            point = found.0;
            inside = here;
            value = value_of f found.0;
            is = h found.0 here;
            large = large (value_of f found.0) found.2;
          }

  bracket_back : (at : ℕ) (r : Result Func ModelKind) → IfOk (at_bracket at r) (IsFit s) → IfOk r (IsFit s)
  bracket_back at (Ok f) h = h
  bracket_back at (Err e) h = tt

  pub combined_outcome : (o : Op) (f g : Func) (a b : Value) → Tells f a → Tells g b → Outcome (partial_of o a b) (result_of_operation o f g)
  combined_outcome op.Sum f g a b h k =
      checked_outcome (plus f g) (partial_of op.Sum a b) h.fit.shape
      (λ x w. (λ i. operation op.Sum (h.value x w i) (k.value x w i)) ∙ ap (λ z. Some z) (sym (value_made f (λ x. value_of f x +ℤ value_of g x) x h.fit.shape w)))
      (bracket_back 0 (result_of_operation op.Sum f g) (joined_fit s op.Sum 0 c f g h.fit k.fit))
  combined_outcome op.Product f g a b h k = go (is_product_whole f g) refl (bracket_back 0 (result_of_operation op.Product f g) (joined_fit s op.Product 0 c f g h.fit k.fit))
    where
      z : List ℕ → ℤ
      z x = value_of f x *ℤ value_of g x

      next : Value
      next = partial_of op.Product a b

      next_is : (x : List ℕ) (t : Bool) → IsPoint s.sizes x → is_whole (value_of f x *ℤ value_of g x) ≡ t
          → next x ≡ (if t then Some (floor_div (value_of f x *ℤ value_of g x) ticks) else None)
      next_is x t w e =
          (λ i. product_of (h.value x w i) (k.value x w i)) ∙ ap (λ (t : Bool). if t then Some (floor_div (value_of f x *ℤ value_of g x) ticks) else None) e

      scope : IsScope f.shape
      scope = subst IsScope (sym h.fit.shape) c

      go : (t : Bool) → is_product_whole f g ≡ t → IfOk (if t then partial_within_limit (product_floor f g) else Err kind.TooFine) (IsFit s) → Outcome next (if t then partial_within_limit (product_floor f g) else Err kind.TooFine)
      go true e fit =
          checked_outcome (product_floor f g) next h.fit.shape
          (λ x w.
          let whole : is_whole (value_of f x *ℤ value_of g x) ≡ true =
          ap is_whole (sym (value_made f (λ x. value_of f x *ℤ value_of g x) x h.fit.shape w))
          ∙ all_at is_whole (function_of f.shape (λ x. value_of f x *ℤ value_of g x)) scope e x (subst (λ (t : Shape). IsPoint t.sizes x) (sym h.fit.shape) w) in
          next_is x true w whole ∙ ap (λ z. Some z) (sym (value_made f (λ x. floor_div (value_of f x *ℤ value_of g x) ticks) x h.fit.shape w)))
          fit
      go false e fit =
          let found = some_not is_whole (function_of f.shape (λ x. value_of f x *ℤ value_of g x)) scope e in
          let here : IsPoint s.sizes found.0 = subst (λ (t : Shape). IsPoint t.sizes found.0) h.fit.shape found.1 in
          record {
            point = found.0;
            inside = here;
            none = next_is found.0 false here (ap is_whole (sym (value_made f (λ x. value_of f x *ℤ value_of g x) found.0 h.fit.shape here)) ∙ found.2);
          }

  -- ---- a list

  -- there is such a refusal and no other, or none
  abbrev IsOnly : (Refusal → Type 0) → Option Refusal → Type 0
  IsOnly R None = (r : Refusal) → ¬ R r
  IsOnly R (Some x) = R x × ((r : Refusal) → R r → r ≡ x)

  only_same : (S T : Refusal → Type 0) (o : Option Refusal) → ((r : Refusal) → S r → T r) → ((r : Refusal) → T r → S r) → IsOnly S o → IsOnly T o
  only_same S T None to back h = λ r t. h r (back r t)
  only_same S T (Some x) to back h = (to x h.0, λ r t. h.1 r (back r t))

  only_least : (R : Refusal → Type 0) (o : Option Refusal) → IsOnly R o → IsFirstRefusal R o
  only_least R None h = h
  only_least R (Some x) h = least_only R x h.0 h.1

  abbrev pub refusal_in : {X : Type 0} → Result X Refusal → Option Refusal
  refusal_in (Ok x) = None
  refusal_in (Err r) = Some r

  -- a partial result that is formed is one, and no other
  none_some : {X : Type 0} (o : Option X) (x : X) → o ≡ None → o ≡ Some x → ⊥
  none_some o x h k = (let e : None ≡ Some x = sym h ∙ k in cc)

  not_partial : (v : Value) → ((x : List ℕ) → IsPoint s.sizes x → (z : ℤ) × (v x ≡ Some z)) → IsPartial s v → ⊥
  not_partial v h p = let z = h p.point p.inside in none_some (v p.point) z.0 p.none z.1

  not_large : (v : Value) → IsFine s v → IsLarge s v → ⊥
  not_large v h p =
      let z = h p.point p.inside in
      let same : z.0 ≡ p.value = some_is (sym z.1 ∙ p.is) in
      let small : unsigned_abs p.value ≤ greatest_partial = subst (λ u. unsigned_abs u ≤ greatest_partial) same z.2 in
      let large : greatest_partial < unsigned_abs p.value = p.large in
      omega arith
    where
      some_is : {a b : ℤ} → Some a ≡ Some b → a ≡ b
      some_is e = cc

  is_some : (v : Value) → IsFine s v → (x : List ℕ) → IsPoint s.sizes x → (z : ℤ) × (v x ≡ Some z)
  is_some v h x w = let z = h x w in (z.0, z.1)

  -- trees that aren't refused, with their values
  abbrev pub AreTold : List Judged → List Value → Type 0
  AreTold [] [] = Unit {0}
  AreTold [] (v ∷ vs) = ⊥
  AreTold (j ∷ js) [] = ⊥
  AreTold (j ∷ js) (v ∷ vs) = ((g : Func) × (j.outcome ≡ Ok g) × Tells g v) × AreTold js vs

  module _ (o : Op) (at : ℕ) where
    next_only : (v w : Value) (ws : List Value) (js : List Judged) (r : Result Func ModelKind) → Outcome (partial_of o v w) r
        → ((h : Func) → Tells h (partial_of o v w) → IsOnly (PartialRow o s at (partial_of o v w) ws) (refusal_in (steps o at (Some h) js)))
        → IsOnly (PartialRow o s at v (w ∷ ws)) (refusal_in (then_more (at_bracket at r) (λ f. steps o at (Some f) js)))
    next_only v w ws js (Ok h) p more =
        let fine_here = fine h (partial_of o v w) p in
        only_same _ _ (refusal_in (steps o at (Some h) js)) (λ r q. inr (fine_here, q))
        (λ r q. elim q [ inl b ↦ elim b [ inl d ↦ absurd (not_partial (partial_of o v w) (is_some (partial_of o v w) fine_here) d.0) | inr d ↦ absurd (not_large (partial_of o v w) fine_here d.0) ] | inr m ↦ m.1 ])
        (more h p)
    next_only v w ws js (Err kind.TooFine) p more = (
      inl (inl (p, refl)),
      λ r q. elim q [ inl b ↦ elim b [ inl d ↦ d.1 | inr d ↦ absurd (not_partial (partial_of o v w) d.0.whole p) ] | inr m ↦ absurd (not_partial (partial_of o v w) (is_some (partial_of o v w) m.0) p) ],
    )
    next_only v w ws js (Err kind.TooLarge) p more = (
      inl (inr (p, refl)),
      λ r q. elim q [ inl b ↦ elim b [ inl d ↦ absurd (not_partial (partial_of o v w) p.whole d.0) | inr d ↦ d.1 ] | inr m ↦ absurd (not_large (partial_of o v w) m.0 p) ],
    )
    next_only v w ws js (Err _) p more = absurd p

    partial_only : (f : Func) (v : Value) → Tells f v → (js : List Judged) (ws : List Value) → AreTold js ws → IsOnly (PartialRow o s at v ws) (refusal_in (steps o at (Some f) js))
    unfolding steps
    partial_only f v h [] [] k = λ r n. n
    partial_only f v h [] (w ∷ ws) k = absurd k
    partial_only f v h (j ∷ js) [] k = absurd k
    partial_only f v h (j ∷ js) (w ∷ ws) ((g, e, t), k) =
        subst (λ r. IsOnly (PartialRow o s at v (w ∷ ws)) (refusal_in (then_more (step o at (Some f) r) (λ f. steps o at (Some f) js)))) (sym e)
        (next_only v w ws js (result_of_operation o f g) (combined_outcome o f g v w h t) (λ h p. partial_only h (partial_of o v w) p js ws k))

    -- the rows on the values of a list
    pub list_least : (js : List Judged) (ws : List Value) → AreTold js ws → IsFirstRefusal (ListRow o s at ws) (refusal_in (steps o at None js))
    unfolding steps
    list_least [] [] k = λ r n. n
    list_least [] (w ∷ ws) k = absurd k
    list_least (j ∷ js) [] k = absurd k
    list_least (j ∷ js) (w ∷ ws) ((g, e, t), k) =
        subst (λ r. IsFirstRefusal (PartialRow o s at w ws) (refusal_in (then_more (step o at None r) (λ f. steps o at (Some f) js)))) (sym e)
        (only_least (PartialRow o s at w ws) (refusal_in (steps o at (Some g) js)) (partial_only g w t js ws k))
