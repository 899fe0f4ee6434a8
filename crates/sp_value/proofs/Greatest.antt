-- The greatest element of a list by a score, as a loop over the list finds it.
use Rattle.std.proofs.Common.{◌≡◌, ℕ, zero, suc, ◌<◌, ◌≤◌, refl, arith, List, [], ◌∷◌, length, get_or, drop, Bool, true, false, cond, not, ◌&&◌, ◌||◌, ap, ◌∙◌}
use Rattle.std.specs.Prelude.{ℤ, int_lt, nat_lt}
use Rattle.sp_theory.specs.Values.{better, greatest_from, greatest}
use Rattle.sp_value.specs.Scores.{outdoes}

drop_at : {X : Type 0} (xs : List X) (k : ℕ) (d : X) → k < length xs → drop k xs ≡ get_or xs k d ∷ drop (suc k) xs
drop_at [] k d less = absurd (omega arith)
drop_at (x ∷ xs) zero d less = refl
drop_at (x ∷ xs) (suc k) d less = drop_at xs k d (omega arith)

drop_all : {X : Type 0} (xs : List X) (k : ℕ) → length xs ≤ k → drop k xs ≡ []
drop_all [] zero far = refl
drop_all [] (suc k) far = refl
drop_all (x ∷ xs) zero far = absurd (omega arith)
drop_all (x ∷ xs) (suc k) far = drop_all xs k (omega arith)

module _ {X : Type 0} (none : X) (score : X → ℤ) (id : X → ℕ) where
  better-outdoes : (x y : X) → better score id x y ≡ cond (outdoes (score y) (id y) (score x) (id x)) y x
  better-outdoes x y = by_test (int_lt (score x) (score y)) (int_lt (score y) (score x)) (nat_lt (id y) (id x))
    where
      by_test : (a b c : Bool) → cond a y (cond b x (cond c y x)) ≡ cond (a || (not b && c)) y x
      by_test true b c = refl
      by_test false true c = refl
      by_test false false true = refl
      by_test false false false = refl

  -- the greatest, where the first element is at hand
  pub greatest_first : (xs : List X) → 0 < length xs → greatest none score id xs ≡ greatest_from score id (get_or xs 0 none) (drop 1 xs)
  unfolding greatest
  greatest_first [] some = absurd (omega arith)
  greatest_first (x ∷ xs) some = refl

  -- one more element is met
  pub greatest_next : (xs : List X) (best k : ℕ) → k < length xs
      → greatest_from score id (get_or xs best none) (drop k xs) ≡ greatest_from score id (get_or xs (cond (outdoes (score (get_or xs k none)) (id (get_or xs k none)) (score (get_or xs best none)) (id (get_or xs best none))) k best) none) (drop (suc k) xs)
  unfolding greatest_from
  greatest_next xs best k less =
      ap (λ (ys : List X). greatest_from score id (get_or xs best none) ys) (drop_at xs k none less)
      ∙ ap (λ (x : X). greatest_from score id x (drop (suc k) xs)) (better-outdoes (get_or xs best none) (get_or xs k none) ∙ by_test (outdoes (score (get_or xs k none)) (id (get_or xs k none)) (score (get_or xs best none)) (id (get_or xs best none))))
    where
      by_test : (b : Bool) → cond b (get_or xs k none) (get_or xs best none) ≡ get_or xs (cond b k best) none
      by_test true = refl
      by_test false = refl

  -- all elements are met
  pub greatest_last : (xs : List X) (best k : ℕ) → length xs ≤ k → greatest_from score id (get_or xs best none) (drop k xs) ≡ get_or xs best none
  unfolding greatest_from
  greatest_last xs best k far = ap (λ (ys : List X). greatest_from score id (get_or xs best none) ys) (drop_all xs k far)
