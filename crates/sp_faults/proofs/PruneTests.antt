-- The test of a prune tells whether the pairs may be pruned, and is the same for editions that agree.
use Rattle.std.proofs.Common.{◌≡◌, ◌≢◌, ◌∙◌, sym, ap, refl, arith, ◌⊎◌, inl, inr, ℕ, suc, List, [], ◌∷◌, get_or, Bool, true, false, not, ◌&&◌, ◌||◌, eqb}
use Rattle.std.specs.Prelude.{◌≤ℤ◌, int_lt, All, Any}
use Rattle.std.specs.List.{list_any, list_all}
use Rattle.std.proofs.lemmas.Int.{ints}
use Rattle.std.proofs.lemmas.Bool.{not-true}
use Rattle.std.proofs.lemmas.Bool.Decides.{eqb_tells}
use Rattle.std.proofs.lemmas.List.Folds.{Any-from_list_any, list_any-from_Any, list_all_at}
use Rattle.sp_theory.specs.Model.{Model}
use Rattle.sp_theory.specs.Values.{Member, Edition}
use Rattle.sp_theory.specs.Book.{without, IsPresent, IsUnder, AreUnder, CanPrune}
use Rattle.sp_theory.specs.OneThread.{nowhere_above}
use Rattle.sp_theory.specs.Agreement.{MembersAgree, EditionsAgree}
use Rattle.sp_theory.proofs.Extremes.{both, holds_over_at, holds_over_all}
use Rattle.sp_theory.proofs.PairsAgreement.{is_under_same, list_any_same, without_agrees}
use Rattle.sp_faults.specs.PruneTests.{has_above, are_under, can_drop, can_prune}
use Rattle.sp_faults.specs.Laws.{PruneTestsTell, PruneTestsAgree}

-- ---- tests of lists
all_at : {X : Type 0} (p : X → Bool) (xs : List X) → list_all p xs ≡ true → All (λ x. p x ≡ true) xs
all_at p xs e k d less = by_test (p (get_or xs k d)) refl
  where
    by_test : (b : Bool) → p (get_or xs k d) ≡ b → p (get_or xs k d) ≡ true
    by_test true f = f
    by_test false f = absurd (let no_all = list_all_at p xs k d less f in cc)

all_from : {X : Type 0} (p : X → Bool) (xs : List X) → All (λ x. p x ≡ true) xs → list_all p xs ≡ true
all_from p [] h = refl
all_from p (x ∷ xs) h = (λ i. h 0 x (omega arith) i && all_from p xs (λ k d less. h (suc k) d (omega (arith, less))) i)

same_id : (i j : ℕ) → eqb i j ≡ true → i ≡ j
same_id i j e = by_test (eqb_tells i j)
  where
    by_test : ((eqb i j ≡ true) × (i ≡ j)) ⊎ ((eqb i j ≡ false) × (i ≢ j)) → i ≡ j
    by_test (inl (f, is)) = is
    by_test (inr (f, differ)) = absurd (cc)

id_same : (i j : ℕ) → i ≡ j → eqb i j ≡ true
id_same i j is = by_test (eqb_tells i j)
  where
    by_test : ((eqb i j ≡ true) × (i ≡ j)) ⊎ ((eqb i j ≡ false) × (i ≢ j)) → eqb i j ≡ true
    by_test (inl (f, is)) = f
    by_test (inr (f, differ)) = absurd (differ is)

id_differs : (i j : ℕ) → not (eqb i j) ≡ true → i ≢ j
id_differs i j e is = let f = id_same i j is in let g : not (eqb i j) ≡ false = ap not f in absurd (cc)

differs_id : (i j : ℕ) → i ≢ j → not (eqb i j) ≡ true
differs_id i j differ = by_test (eqb_tells i j)
  where
    by_test : ((eqb i j ≡ true) × (i ≡ j)) ⊎ ((eqb i j ≡ false) × (i ≢ j)) → not (eqb i j) ≡ true
    by_test (inl (f, is)) = absurd (differ is)
    by_test (inr (f, other)) = ap not f

-- ---- members
module _ (m : Model) where
  under_at : (x y : Member) → nowhere_above m x y ≡ true → IsUnder m x y
  unfolding nowhere_above
  under_at x y e s at = let low = not-true (int_lt (y.vector s) (x.vector s)) (holds_over_at m.sizes _ e s at) in omega (arith, ints, low)

  under_from : (x y : Member) → IsUnder m x y → nowhere_above m x y ≡ true
  unfolding nowhere_above
  under_from x y under = holds_over_all m.sizes _ (λ s at. by_test (int_lt (y.vector s) (x.vector s)) refl (under s at))
    where
      by_test : {u v : _} (b : Bool) → int_lt u v ≡ b → v ≤ℤ u → not (int_lt u v) ≡ true
      by_test true e low = absurd (omega (arith, ints, e, low))
      by_test false e low = ap not e

  module _ (edition : Edition) where
    present_at : (id : ℕ) → list_any (λ z. eqb z.id id) edition ≡ true → IsPresent edition id
    present_at id e = let (k, z, less, is, at) = Any-from_list_any (λ (z : Member). eqb z.id id) edition e in (k, z, less, is, same_id z.id id at)

    present_from : (id : ℕ) → IsPresent edition id → list_any (λ z. eqb z.id id) edition ≡ true
    present_from id (k, z, less, is, at) = list_any-from_Any (λ (z : Member). eqb z.id id) edition (k, z, less, is, id_same z.id id at)

    above_at : (p : Member) (y : ℕ) → has_above m edition p y ≡ true → Any (λ r. (r.id ≡ y) × IsUnder m p r) edition
    above_at p y e =
        let (k, r, less, is, at) = Any-from_list_any (λ (r : Member). eqb r.id y && nowhere_above m p r) edition e in
        let (one, two) = both (eqb r.id y) (nowhere_above m p r) at in
        (k, r, less, is, (same_id r.id y one, under_at p r two))

    above_from : (p : Member) (y : ℕ) → Any (λ r. (r.id ≡ y) × IsUnder m p r) edition → has_above m edition p y ≡ true
    above_from p y (k, r, less, is, (one, two)) = list_any-from_Any (λ (r : Member). eqb r.id y && nowhere_above m p r) edition (k, r, less, is, (λ i. id_same r.id y one i && under_from p r two i))

    are_at : (x y : ℕ) → are_under m edition x y ≡ true → AreUnder m edition x y
    are_at x y e k d less same = above_at (get_or edition k d) y (by_first (all_at (λ (p : Member). not (eqb p.id x) || has_above m edition p y) edition e k d less))
      where
        by_first : (not (eqb (get_or edition k d).id x) || has_above m edition (get_or edition k d) y) ≡ true → has_above m edition (get_or edition k d) y ≡ true
        by_first h = sym (ap (λ (b : Bool). not b || has_above m edition (get_or edition k d) y) (id_same (get_or edition k d).id x same)) ∙ h

    are_from : (x y : ℕ) → AreUnder m edition x y → are_under m edition x y ≡ true
    are_from x y h = all_from (λ (p : Member). not (eqb p.id x) || has_above m edition p y) edition (λ k d less. by_test (get_or edition k d) (eqb_tells (get_or edition k d).id x) (h k d less))
      where
        by_test : (p : Member) → ((eqb p.id x ≡ true) × (p.id ≡ x)) ⊎ ((eqb p.id x ≡ false) × (p.id ≢ x)) → (p.id ≡ x → Any (λ r. (r.id ≡ y) × IsUnder m p r) edition) → (not (eqb p.id x) || has_above m edition p y) ≡ true
        by_test p (inl (e, is)) some = (λ i. not (e i) || above_from p y (some is) i)
        by_test p (inr (e, other)) some = ap (λ (b : Bool). not b || has_above m edition p y) e

  -- ---- the law of the test
  pub can_at : (edition : Edition) (pairs : List (ℕ × ℕ)) → can_prune m edition pairs ≡ true → CanPrune m edition pairs
  can_at edition [] e = tt
  can_at edition ((x, y) ∷ pairs) e =
      let (drop, rest) = both (can_drop m edition x y) (can_prune m (without edition x) pairs) e in
      let (differ, more) = both (not (eqb x y)) _ drop in
      let (one, most) = both (list_any (λ z. eqb z.id x) edition) _ more in
      let (other, under) = both (list_any (λ z. eqb z.id y) edition) _ most in
      (id_differs x y differ, present_at edition x one, present_at edition y other, are_at edition x y under, can_at (without edition x) pairs rest)

  pub can_from : (edition : Edition) (pairs : List (ℕ × ℕ)) → CanPrune m edition pairs → can_prune m edition pairs ≡ true
  can_from edition [] h = refl
  can_from edition ((x, y) ∷ pairs) (differ, one, other, under, rest) =
      (λ i. (differs_id x y differ i && (present_from edition x one i && (present_from edition y other i && are_from edition x y under i))) && can_from (without edition x) pairs rest i)

  -- ---- the same for editions that agree
  above_same : (xs ys : Edition) (p p' : Member) (y : ℕ) → MembersAgree m p p' → EditionsAgree m xs ys → has_above m xs p y ≡ has_above m ys p' y
  above_same [] [] p p' y same agree = refl
  above_same (a ∷ xs) (b ∷ ys) p p' y same (first, rest) = λ h. (eqb (first.0 h) y && is_under_same m p a p' b same first h) || above_same xs ys p p' y same rest h
  above_same [] (b ∷ ys) p p' y same agree = absurd agree
  above_same (a ∷ xs) [] p p' y same agree = absurd agree

  are_same : (edition other xs ys : Edition) (x y : ℕ) → EditionsAgree m edition other → EditionsAgree m xs ys
      → list_all (λ p. not (eqb p.id x) || has_above m edition p y) xs ≡ list_all (λ p. not (eqb p.id x) || has_above m other p y) ys
  are_same edition other [] [] x y whole agree = refl
  are_same edition other (a ∷ xs) (b ∷ ys) x y whole (first, rest) = λ h. (not (eqb (first.0 h) x) || above_same edition other a b y first whole h) && are_same edition other xs ys x y whole rest h
  are_same edition other [] (b ∷ ys) x y whole agree = absurd agree
  are_same edition other (a ∷ xs) [] x y whole agree = absurd agree

  pub can_same : (edition other : Edition) (pairs : List (ℕ × ℕ)) → EditionsAgree m edition other → can_prune m edition pairs ≡ can_prune m other pairs
  can_same edition other [] agree = refl
  can_same edition other ((x, y) ∷ pairs) agree = λ h.
      (not (eqb x y) && (list_any_same m x edition other agree h && (list_any_same m y edition other agree h && are_same edition other edition other x y agree agree h)))
      && can_same (without edition x) (without other x) pairs (without_agrees m edition other x agree) h

pub prune_tests_tell : PruneTestsTell
prune_tests_tell m edition pairs = (can_at m edition pairs, can_from m edition pairs)

pub prune_tests_agree : PruneTestsAgree
prune_tests_agree m edition other agree pairs = can_same m edition other pairs agree
