-- Editions that agree have the same dominated pairs, of which the same apply.
use Rattle.std.proofs.Common.{◌≡◌, ℕ, zero, suc, ◌<◌, List, [], ◌∷◌, ◌++◌, refl, subst, arith, Bool, true, false, cond, not, ◌&&◌, ◌||◌, eqb}
use Rattle.std.specs.Prelude.{int_lt, nat_lt, filter}
use Rattle.std.specs.List.{list_any, flat_map}
use Rattle.sp_theory.specs.Sums.{holds_below}
use Rattle.sp_theory.specs.Points.{IsPoint, holds_over}
use Rattle.sp_theory.specs.Model.{Model}
use Rattle.sp_theory.specs.Values.{Member, Edition}
use Rattle.sp_theory.specs.Book.{without, pruned}
use Rattle.sp_theory.specs.OneThread.{nowhere_above, yields, least_id, pair_of, dominated, applying}
use Rattle.sp_theory.specs.Agreement.{MembersAgree, EditionsAgree}

holds_below_same : (n : ℕ) (test test' : ℕ → Bool) → ((k : ℕ) → k < n → test k ≡ test' k) → holds_below n test ≡ holds_below n test'
unfolding holds_below
holds_below_same zero test test' same = refl
holds_below_same (suc n) test test' same = λ h. holds_below_same n test test' (λ k less. same k (omega arith)) h && same n (omega arith) h

pub holds_over_same : (ks : List ℕ) (test test' : List ℕ → Bool) → ((xs : List ℕ) → IsPoint ks xs → test xs ≡ test' xs) → holds_over ks test ≡ holds_over ks test'
unfolding holds_over
holds_over_same [] test test' same = same [] tt
holds_over_same (k ∷ ks) test test' same = holds_below_same k _ _ (λ x less. holds_over_same ks (λ xs. test (x ∷ xs)) (λ xs. test' (x ∷ xs)) (λ xs p. same (x ∷ xs) (less, p)))

module _ (m : Model) where
  pub is_under_same : (x y x' y' : Member) → MembersAgree m x x' → MembersAgree m y y' → nowhere_above m x y ≡ nowhere_above m x' y'
  unfolding nowhere_above
  is_under_same x y x' y' first second = holds_over_same m.sizes _ _ (λ s p. λ h. not (int_lt (second.2 s p h) (first.2 s p h)))

  yields_same : (x y x' y' : Member) → MembersAgree m x x' → MembersAgree m y y' → yields m x y ≡ yields m x' y'
  unfolding yields
  yields_same x y x' y' first second = λ h. not (eqb (first.0 h) (second.0 h)) && (is_under_same x y x' y' first second h && (not (is_under_same y x y' x' second first h) || nat_lt (second.0 h) (first.0 h)))

  filter_agrees : (test test' : Member → Bool) → ((x y : Member) → MembersAgree m x y → test x ≡ test' y) → (xs ys : Edition) → EditionsAgree m xs ys → EditionsAgree m (filter test xs) (filter test' ys)
  filter_agrees test test' same [] [] agree = tt
  filter_agrees test test' same (x ∷ xs) (y ∷ ys) (first, rest) =
      subst (λ (t : Bool). EditionsAgree m (cond (test x) (x ∷ filter test xs) (filter test xs)) (cond t (y ∷ filter test' ys) (filter test' ys))) (same x y first)
      (by_test (test x) (filter_agrees test test' same xs ys rest))
    where
      by_test : (b : Bool) → EditionsAgree m (filter test xs) (filter test' ys) → EditionsAgree m (cond b (x ∷ filter test xs) (filter test xs)) (cond b (y ∷ filter test' ys) (filter test' ys))
      by_test true more = (first, more)
      by_test false more = more
  filter_agrees test test' same [] (y ∷ ys) agree = absurd agree
  filter_agrees test test' same (x ∷ xs) [] agree = absurd agree

  least_id_same : (i j : ℕ) (xs ys : Edition) → i ≡ j → EditionsAgree m xs ys → least_id i xs ≡ least_id j ys
  unfolding least_id
  least_id_same i j [] [] e agree = e
  least_id_same i j (x ∷ xs) (y ∷ ys) e (first, rest) = least_id_same (cond (nat_lt x.id i) x.id i) (cond (nat_lt y.id j) y.id j) xs ys (λ h. cond (nat_lt (first.0 h) (e h)) (first.0 h) (e h)) rest
  least_id_same i j [] (y ∷ ys) e agree = absurd agree
  least_id_same i j (x ∷ xs) [] e agree = absurd agree

  pair_of_same : (x y : Member) (xs ys : Edition) → MembersAgree m x y → EditionsAgree m xs ys → pair_of x xs ≡ pair_of y ys
  pair_of_same x y [] [] first agree = refl
  pair_of_same x y (x' ∷ xs) (y' ∷ ys) first (second, rest) = λ h. (first.0 h, least_id_same x'.id y'.id xs ys second.0 rest h) ∷ []
  pair_of_same x y [] (y' ∷ ys) first agree = absurd agree
  pair_of_same x y (x' ∷ xs) [] first agree = absurd agree

  dominated_in_same : (edition other xs ys : Edition) → EditionsAgree m edition other → EditionsAgree m xs ys → flat_map (λ x. pair_of x (filter (yields m x) edition)) xs ≡ flat_map (λ x. pair_of x (filter (yields m x) other)) ys
  dominated_in_same edition other [] [] whole agree = refl
  dominated_in_same edition other (x ∷ xs) (y ∷ ys) whole (first, rest) = λ h.
      pair_of_same x y _ _ first (filter_agrees (yields m x) (yields m y) (λ z z' same. yields_same x z y z' first same) edition other whole) h
      ++ dominated_in_same edition other xs ys whole rest h
  dominated_in_same edition other [] (y ∷ ys) whole agree = absurd agree
  dominated_in_same edition other (x ∷ xs) [] whole agree = absurd agree

  pub dominated_same : (edition other : Edition) → EditionsAgree m edition other → dominated m edition ≡ dominated m other
  unfolding dominated
  dominated_same edition other agree = dominated_in_same edition other edition other agree agree

  pub list_any_same : (id : ℕ) (xs ys : Edition) → EditionsAgree m xs ys → list_any (λ z. eqb z.id id) xs ≡ list_any (λ z. eqb z.id id) ys
  list_any_same id [] [] agree = refl
  list_any_same id (x ∷ xs) (y ∷ ys) (first, rest) = λ h. eqb (first.0 h) id || list_any_same id xs ys rest h
  list_any_same id [] (y ∷ ys) agree = absurd agree
  list_any_same id (x ∷ xs) [] agree = absurd agree

  pub without_agrees : (edition other : Edition) (id : ℕ) → EditionsAgree m edition other → EditionsAgree m (without edition id) (without other id)
  without_agrees edition other id agree = filter_agrees (λ z. not (eqb z.id id)) (λ z. not (eqb z.id id)) (λ x y same. λ h. not (eqb (same.0 h) id)) edition other agree

  pub pruned_agrees : (edition other : Edition) (pairs : List (ℕ × ℕ)) → EditionsAgree m edition other → EditionsAgree m (pruned edition pairs) (pruned other pairs)
  unfolding pruned
  pruned_agrees edition other [] agree = agree
  pruned_agrees edition other ((x, y) ∷ pairs) agree = pruned_agrees (without edition x) (without other x) pairs (without_agrees edition other x agree)

  pub applying_same : (edition other : Edition) (pairs : List (ℕ × ℕ)) → EditionsAgree m edition other → applying edition pairs ≡ applying other pairs
  unfolding applying
  applying_same edition other [] agree = refl
  applying_same edition other ((x, y) ∷ pairs) agree = λ h.
      cond (list_any_same x edition other agree h && list_any_same y edition other agree h)
      ((x, y) ∷ applying_same (without edition x) (without other x) pairs (without_agrees edition other x agree) h)
      (applying_same edition other pairs agree h)
