-- The pairs of dominated members: each may be pruned where both its members are present.
use Rattle.std.proofs.Common.{◌≡◌, ◌≢◌, ◌∙◌, ℕ, List, [], ◌∷◌, get_or, sym, ap, refl, subst, Bool, true, false, cond, not, ◌&&◌, eqb, arith}
use Rattle.std.specs.Prelude.{◌≤ℤ◌, nat_lt, int_lt, filter, All, AllPairs}
use Rattle.std.specs.List.{list_any, flat_map}
use Rattle.std.proofs.lemmas.Int.{ints}
use Rattle.std.proofs.lemmas.Bool.{eqb-true, not-true}
use Rattle.std.proofs.lemmas.List.Elements.{All-nil, All-cons, All-head, All-tail, All-append, All-filter, filter_passes}
use Rattle.std.proofs.lemmas.List.Folds.{Any-from_list_any}
use Rattle.sp_theory.specs.Points.{IsPoint}
use Rattle.sp_theory.specs.Model.{Model, State}
use Rattle.sp_theory.specs.Plan.{Record, record_at}
use Rattle.sp_theory.specs.Values.{Member, Edition}
use Rattle.sp_theory.specs.Book.{IsMember, without, IsPresent, IsUnder, AreUnder, CanPrune}
use Rattle.sp_theory.specs.OneThread.{nowhere_above, yields, least_id, pair_of, dominated, applying}
use Rattle.sp_theory.specs.Laws.{Apart, IdsTellVectors, DominatedMayGo}
use Rattle.sp_theory.proofs.Pruning.{get_or_any}
use Rattle.sp_theory.proofs.Order.{not_eqb, by_order}
use Rattle.sp_theory.proofs.Extremes.{both, holds_over_at}

-- two ids, each member of the first under each of the second
abbrev pub IsPair : Model → Edition → ℕ × ℕ → Type 0
IsPair m edition p = (p.0 ≢ p.1) × All (λ x. x.id ≡ p.0 → All (λ y. y.id ≡ p.1 → IsUnder m x y) edition) edition

-- so it is where some members are left
pair_left : (m : Model) (test : Member → Bool) (edition : Edition) (p : ℕ × ℕ) → IsPair m edition p → IsPair m (filter test edition) p
pair_left m test edition p (differ, under) = (
  differ,
  All-filter test (λ x. x.id ≡ p.0 → All (λ y. y.id ≡ p.1 → IsUnder m x y) (filter test edition)) edition
      (λ k d less e. All-filter test (λ y. y.id ≡ p.1 → IsUnder m (get_or edition k d) y) edition (under k d less e)),
)

pub nowhere_above_at : (m : Model) (x y : Member) → nowhere_above m x y ≡ true → (s : State) → IsPoint m.sizes s → x.vector s ≤ℤ y.vector s
unfolding nowhere_above
nowhere_above_at m x y e s at = let low = not-true (int_lt (y.vector s) (x.vector s)) (holds_over_at m.sizes _ e s at) in omega (arith, ints, low)

least_id_case : (P : ℕ → Type 0) (id : ℕ) (ys : List Member) → P id → All (λ y. P y.id) ys → P (least_id id ys)
unfolding least_id
least_id_case P id [] p all = p
least_id_case P id (y ∷ ys) p all = least_id_case P (cond (nat_lt y.id id) y.id id) ys (by_test (nat_lt y.id id)) (All-tail (λ y. P y.id) y ys all)
  where
    by_test : (b : Bool) → P (cond b y.id id)
    by_test true = All-head (λ y. P y.id) y ys all
    by_test false = p

-- ids tell vectors where each member is that of its record
pub tell_by_records : (m : Model) (records : List Record) (edition : Edition) → All (IsMember m records) edition → IdsTellVectors edition
tell_by_records m records edition members i c within k d less e = (members k d less).1 ∙ ap (λ (n : ℕ). (record_at m records n).vector) e ∙ sym (members i c within).1

-- and where all ids differ
pub tell_apart : (edition : Edition) → AllPairs Apart edition → IdsTellVectors edition
tell_apart edition apart i c within k d less e =
    by_order k i
    (λ before. absurd (apart k i d before within (e ∙ ap (λ (z : Member). z.id) (get_or_any edition i c d within))))
    (λ same. ap (λ (z : Member). z.vector) (ap (λ (n : ℕ). get_or edition n d) same ∙ get_or_any edition i d c within))
    (λ past. absurd (apart i k d past less (sym (e ∙ ap (λ (z : Member). z.id) (get_or_any edition i c d within)))))

module _ (m : Model) (edition : Edition) where
  -- all members of its id have its vector
  Known : Member → Type 0
  Known x = All (λ y. y.id ≡ x.id → y.vector ≡ x.vector) edition

  yields_pair : (x y : Member) → Known x → Known y → yields m x y ≡ true → IsPair m edition (x.id, y.id)
  unfolding yields Known
  yields_pair x y of_x of_y e =
      let two = both (not (eqb x.id y.id)) _ e in
      let under = (both (nowhere_above m x y) _ two.1).0 in (
        not_eqb x.id y.id two.0,
        λ k d less e j c within f s at. subst (λ z. z ≤ℤ (get_or edition j c).vector s) (λ h. sym (of_x k d less e) h s) (subst (λ z. x.vector s ≤ℤ z) (λ h. sym (of_y j c within f) h s) (nowhere_above_at m x y under s at)),
      )

  dominated_in_pairs : (xs : List Member) → All Known edition → All Known xs → All (IsPair m edition) (flat_map (λ x. pair_of x (filter (yields m x) edition)) xs)
  dominated_in_pairs [] known of_xs = All-nil (IsPair m edition)
  dominated_in_pairs (x ∷ xs) known of_xs =
      All-append (IsPair m edition) _ _
      (first (filter (yields m x) edition) (λ k d less. yields_pair x _ (All-head Known x xs of_xs) (All-filter (yields m x) Known edition known k d less) (filter_passes (yields m x) edition k d less)))
      (dominated_in_pairs xs known (All-tail Known x xs of_xs))
    where
      first : (ys : List Member) → All (λ y. IsPair m edition (x.id, y.id)) ys → All (IsPair m edition) (pair_of x ys)
      first [] all = All-nil (IsPair m edition)
      first (y ∷ ys) all = All-cons (IsPair m edition) (x.id, least_id y.id ys) [] (least_id_case (λ n. IsPair m edition (x.id, n)) y.id ys (All-head (λ y. IsPair m edition (x.id, y.id)) y ys all) (All-tail (λ y. IsPair m edition (x.id, y.id)) y ys all)) (All-nil (IsPair m edition))

  pub dominated_pairs : IdsTellVectors edition → All (IsPair m edition) (dominated m edition)
  unfolding dominated Known
  dominated_pairs tell = dominated_in_pairs edition tell tell

module _ (m : Model) where
  -- of such pairs those that apply, in order, may be pruned
  pub applying_can : (edition : Edition) (pairs : List (ℕ × ℕ)) → All (IsPair m edition) pairs → CanPrune m edition (applying edition pairs)
  unfolding applying
  applying_can edition [] all = tt
  applying_can edition ((x, y) ∷ pairs) all = by_test (list_any (λ z. eqb z.id x) edition) (list_any (λ z. eqb z.id y) edition) refl refl (applying_can (without edition x) pairs (λ k d less. pair_left m (λ z. not (eqb z.id x)) edition _ (All-tail (IsPair m edition) (x, y) pairs all k d less))) (applying_can edition pairs (All-tail (IsPair m edition) (x, y) pairs all))
    where
      present : (id : ℕ) → list_any (λ z. eqb z.id id) edition ≡ true → IsPresent edition id
      present id e = let (k, z, less, is, same) = Any-from_list_any (λ z. eqb z.id id) edition e in (k, z, less, is, eqb-true z.id id same)

      pair : IsPair m edition (x, y)
      pair = All-head (IsPair m edition) (x, y) pairs all

      are_under : IsPresent edition y → AreUnder m edition x y
      are_under (j, r, within, is, id) k d less e = (j, r, within, is, (id, subst (λ (z : Member). z.id ≡ y → IsUnder m (get_or edition k d) z) is (pair.1 k d less e j r within) id))

      by_test : (a b : Bool) → list_any (λ z. eqb z.id x) edition ≡ a → list_any (λ z. eqb z.id y) edition ≡ b
          → CanPrune m (without edition x) (applying (without edition x) pairs) → CanPrune m edition (applying edition pairs)
          → CanPrune m edition (cond (a && b) ((x, y) ∷ applying (without edition x) pairs) (applying edition pairs))
      by_test true true e f applies skips = (pair.0, present x e, present y f, are_under (present y f), applies)
      by_test true false e f applies skips = skips
      by_test false b e f applies skips = skips

pub dominated_may_go : DominatedMayGo
dominated_may_go m edition tell = applying_can m edition (dominated m edition) (dominated_pairs m edition tell)
