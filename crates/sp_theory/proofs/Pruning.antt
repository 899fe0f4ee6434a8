-- Members that may go: what stays has the same values, is not empty, and has no record twice.
use Rattle.std.proofs.Common.{◌≡◌, ◌≢◌, ℕ, zero, suc, ◌<◌, List, [], ◌∷◌, length, get_or, refl, sym, ap, ◌∙◌, subst, arith, Bool, true, false, not, eqb}
use Rattle.std.specs.Prelude.{◌≤ℤ◌, All, Any, AllPairs, Contains}
use Rattle.std.proofs.lemmas.Bool.{ne_eqb, eqb-true}
use Rattle.std.proofs.lemmas.List.Elements.{All-filter, All-contains}
use Rattle.std.proofs.lemmas.List.Kept.{AllPairs-filter}
use lib.Signed.{≤ℤ_refl}
use Rattle.sp_theory.specs.Model.{Model}
use Rattle.sp_theory.specs.Values.{Weights, Member, leaf_member, Edition, dot, greatest_member, value}
use Rattle.sp_theory.specs.Book.{without, pruned, IsPresent, IsUnder, AreUnder, CanPrune}
use Rattle.sp_theory.specs.Laws.{Apart, PruningKeepsValues}
use Rattle.sp_theory.proofs.Whole.{≤ℤ_trans}
use Rattle.sp_theory.proofs.Order.{same_from}
use Rattle.sp_theory.proofs.Greatest.{greatest_among, Contains-filter, kept_all, dot_mono, value_high}

-- an element of a list is the same whatever stands in past its end
pub get_or_any : {X : Type 0} (xs : List X) (k : ℕ) (d e : X) → k < length xs → get_or xs k d ≡ get_or xs k e
get_or_any [] k d e less = absurd (omega (arith, less))
get_or_any (x ∷ xs) zero d e less = refl
get_or_any (x ∷ xs) (suc k) d e less = get_or_any xs k d e (omega (arith, less))

pub without_filled : (edition : Edition) (x y : ℕ) → x ≢ y → IsPresent edition y → 0 < length (without edition x)
without_filled edition x y differ (j, z, less, is, id) = has_some _ _ (subst (λ z. not (eqb z.id x) ≡ true → Contains (without edition x) z) is (Contains-filter (λ z. not (eqb z.id x)) edition j z less) (ap not (ne_eqb z.id x (λ same. differ (sym same ∙ id)))))
  where
    has_some : (xs : List Member) (z : Member) → Contains xs z → 0 < length xs
    has_some xs z (k, less, is) = omega arith

module _ (m : Model) (w : Weights) where
  pub value_without : (edition : Edition) (x y : ℕ) → x ≢ y → IsPresent edition x → IsPresent edition y → AreUnder m edition x y
      → (value m edition w ≤ℤ value m (without edition x) w) × (value m (without edition x) w ≤ℤ value m edition w)
  unfolding value greatest_member
  value_without edition x y differ (i, at_x, less_x, is_x, id_x) has_y under = (
    greatest_among _ _ (λ z. dot m w z.vector ≤ℤ value m (without edition x) w) (leaf_member m) edition (omega (arith, less_x)) each,
    greatest_among _ _ (λ z. dot m w z.vector ≤ℤ value m edition w) (leaf_member m) (without edition x) (without_filled edition x y differ has_y) (All-filter (λ z. not (eqb z.id x)) (λ z. dot m w z.vector ≤ℤ value m edition w) edition (value_high m edition w)),
  )
    where
      stays : (j : ℕ) (r : Member) → j < length edition → get_or edition j r ≡ r → r.id ≡ y → Contains (without edition x) r
      stays j r less is id = subst (λ z. not (eqb z.id x) ≡ true → Contains (without edition x) z) is (Contains-filter (λ z. not (eqb z.id x)) edition j r less) (ap not (ne_eqb r.id x (λ same. differ (sym same ∙ id))))

      by_id : (z : Member) → (z.id ≡ x → Any (λ r. (r.id ≡ y) × IsUnder m z r) edition) → (b : Bool) → eqb z.id x ≡ b → (not (eqb z.id x) ≡ true → dot m w z.vector ≤ℤ value m (without edition x) w) → dot m w z.vector ≤ℤ value m (without edition x) w
      by_id z below false e here = here (ap not e)
      by_id z below true e here =
          let (j, r, less, is, (id, low)) = below (eqb-true z.id x e) in
          ≤ℤ_trans (dot_mono m w z.vector r.vector low) (All-contains (λ z. dot m w z.vector ≤ℤ value m (without edition x) w) (without edition x) r (value_high m (without edition x) w) (stays j r less is id))

      each : All (λ z. dot m w z.vector ≤ℤ value m (without edition x) w) edition
      each k d less = by_id (get_or edition k d) (under k d less) (eqb (get_or edition k d).id x) refl
          (kept_all (λ z. not (eqb z.id x)) (λ z. dot m w z.vector ≤ℤ value m (without edition x) w) edition (value_high m (without edition x) w) k d less)

  pub value_pruned : (edition : Edition) (pairs : List (ℕ × ℕ)) → CanPrune m edition pairs
      → (value m edition w ≤ℤ value m (pruned edition pairs) w) × (value m (pruned edition pairs) w ≤ℤ value m edition w)
  unfolding pruned
  value_pruned edition [] can = (≤ℤ_refl _, ≤ℤ_refl _)
  value_pruned edition ((x, y) ∷ pairs) (differ, has_x, has_y, under, rest) =
      let one = value_without edition x y differ has_x has_y under in
      let more = value_pruned (without edition x) pairs rest in
      (≤ℤ_trans one.0 more.0, ≤ℤ_trans more.1 one.1)

pub pruned_members : (P : Member → Type 0) (edition : Edition) (pairs : List (ℕ × ℕ)) → All P edition → All P (pruned edition pairs)
unfolding pruned
pruned_members P edition [] all = all
pruned_members P edition ((x, y) ∷ pairs) all = pruned_members P (without edition x) pairs (All-filter (λ z. not (eqb z.id x)) P edition all)

pub pruned_filled : (m : Model) (edition : Edition) (pairs : List (ℕ × ℕ)) → 0 < length edition → CanPrune m edition pairs → 0 < length (pruned edition pairs)
unfolding pruned
pruned_filled m edition [] some can = some
pruned_filled m edition ((x, y) ∷ pairs) some (differ, has_x, has_y, under, rest) = pruned_filled m (without edition x) pairs (without_filled edition x y differ has_y) rest

pub pruned_apart : (edition : Edition) (pairs : List (ℕ × ℕ)) → AllPairs Apart edition → AllPairs Apart (pruned edition pairs)
unfolding pruned
pruned_apart edition [] apart = apart
pruned_apart edition ((x, y) ∷ pairs) apart = pruned_apart (without edition x) pairs (AllPairs-filter Apart (λ z. not (eqb z.id x)) edition apart)

pub pruned_same : PruningKeepsValues
pruned_same m edition pairs can w = let two = value_pruned m w edition pairs can in same_from two.1 two.0
