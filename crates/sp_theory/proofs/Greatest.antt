-- The greatest element of a list by a score, and the value of an edition.
use Rattle.std.proofs.Common.{◌≡◌, ℕ, suc, ◌<◌, ◌≤◌, List, [], ◌∷◌, length, refl, sym, subst, arith, Bool, true, false, cond}
use Rattle.std.specs.Prelude.{ℤ, ◌≤ℤ◌, int_lt, nat_lt, All, Contains, filter}
use Rattle.std.proofs.lemmas.Int.{ints}
use Rattle.std.proofs.lemmas.List.Elements.{All-head, All-tail, All-cons, All-nil, All-contains_itself}
use Rattle.std.proofs.lemmas.Bool.{leb-true, leb-false}
use lib.Signed.{≤ℤ_refl}
use Rattle.sp_theory.specs.Points.{IsPoint}
use Rattle.sp_theory.specs.Model.{Vector, Model}
use Rattle.sp_theory.specs.Values.{better, greatest_from, greatest, Weights, Member, leaf_member, Edition, dot, greatest_member, value, Reaches}
use Rattle.sp_theory.proofs.Whole.{times_mono}
use Rattle.sp_theory.specs.Laws.{GreatestIsLeast}
use Rattle.sp_theory.proofs.Weighing.{sum_over_mono}
use Rattle.sp_theory.proofs.Order.{same_from}
use Rattle.sp_theory.proofs.Whole.{≤ℤ_trans}

module _ {X : Type 0} (score : X → ℤ) (id : X → ℕ) where
  pub better_case : (P : X → Type 0) (x y : X) → P x → P y → P (better score id x y)
  better_case P x y p r = by_test (int_lt (score x) (score y)) (int_lt (score y) (score x)) (nat_lt (id y) (id x))
    where
      by_test : (a b c : Bool) → P (cond a y (cond b x (cond c y x)))
      by_test true b c = r
      by_test false true c = p
      by_test false false true = r
      by_test false false false = p

  pub better_high : (x y : X) → (score x ≤ℤ score (better score id x y)) × (score y ≤ℤ score (better score id x y))
  better_high x y = by_test (int_lt (score x) (score y)) (int_lt (score y) (score x)) (nat_lt (id y) (id x)) refl refl
    where
      by_test : (a b c : Bool) → int_lt (score x) (score y) ≡ a → int_lt (score y) (score x) ≡ b → (score x ≤ℤ score (cond a y (cond b x (cond c y x)))) × (score y ≤ℤ score (cond a y (cond b x (cond c y x))))
      by_test true b c e f = (omega (arith, ints), ≤ℤ_refl (score y))
      by_test false true c e f = (≤ℤ_refl (score x), omega (arith, ints))
      by_test false false true e f = (omega (arith, ints), ≤ℤ_refl (score y))
      by_test false false false e f = (≤ℤ_refl (score x), omega (arith, ints))

  pub greatest_from_case : (P : X → Type 0) (x : X) (ys : List X) → P x → All P ys → P (greatest_from score id x ys)
  unfolding greatest_from
  greatest_from_case P x [] p all = p
  greatest_from_case P x (y ∷ ys) p all = greatest_from_case P (better score id x y) ys (better_case P x y p (All-head P y ys all)) (All-tail P y ys all)

  pub greatest_from_high : (x : X) (ys : List X) → (score x ≤ℤ score (greatest_from score id x ys)) × All (λ y. score y ≤ℤ score (greatest_from score id x ys)) ys
  unfolding greatest_from
  greatest_from_high x [] = (≤ℤ_refl (score x), All-nil (λ z. score z ≤ℤ score x))
  greatest_from_high x (y ∷ ys) =
      let rest = greatest_from_high (better score id x y) ys in
      let two = better_high x y in
      (≤ℤ_trans two.0 rest.0, All-cons (λ z. score z ≤ℤ score (greatest_from score id (better score id x y) ys)) y ys (≤ℤ_trans two.1 rest.0) rest.1)

  -- what holds of each element, and of the stand-in, holds of the greatest
  pub greatest_case : (P : X → Type 0) (none : X) (xs : List X) → P none → All P xs → P (greatest none score id xs)
  unfolding greatest
  greatest_case P none [] p all = p
  greatest_case P none (x ∷ xs) p all = greatest_from_case P x xs (All-head P x xs all) (All-tail P x xs all)

  -- no score is above that of the greatest
  pub greatest_high : (none : X) (xs : List X) → All (λ x. score x ≤ℤ score (greatest none score id xs)) xs
  unfolding greatest
  greatest_high none [] = All-nil (λ z. score z ≤ℤ score none)
  greatest_high none (x ∷ xs) = let both = greatest_from_high x xs in All-cons (λ z. score z ≤ℤ score (greatest_from score id x xs)) x xs both.0 both.1

  -- the greatest of some elements stands among them
  pub greatest_among : (P : X → Type 0) (none : X) (xs : List X) → 0 < length xs → All P xs → P (greatest none score id xs)
  unfolding greatest
  greatest_among P none [] some all = absurd (omega arith)
  greatest_among P none (x ∷ xs) some all = greatest_from_case P x xs (All-head P x xs all) (All-tail P x xs all)

  -- of equal scores the least number is kept
  better_least : (x y : X) → (score x ≡ score (better score id x y) → id (better score id x y) ≤ id x) × (score y ≡ score (better score id x y) → id (better score id x y) ≤ id y)
  better_least x y = by_test (int_lt (score x) (score y)) (int_lt (score y) (score x)) (nat_lt (id y) (id x)) refl refl refl
    where
      by_test : (a b c : Bool) → int_lt (score x) (score y) ≡ a → int_lt (score y) (score x) ≡ b → nat_lt (id y) (id x) ≡ c
          → (score x ≡ score (cond a y (cond b x (cond c y x))) → id (cond a y (cond b x (cond c y x))) ≤ id x) × (score y ≡ score (cond a y (cond b x (cond c y x))) → id (cond a y (cond b x (cond c y x))) ≤ id y)
      by_test true b c e f g = ((λ same. absurd (omega (arith, ints, e, same))), (λ same. omega arith))
      by_test false true c e f g = ((λ same. omega arith), (λ same. absurd (omega (arith, ints, f, same))))
      by_test false false true e f g = let less = leb-true (suc (id y)) (id x) g in ((λ same. omega (arith, less)), (λ same. omega arith))
      by_test false false false e f g = let high = leb-false (suc (id y)) (id x) g in ((λ same. omega arith), (λ same. omega (arith, high)))

  greatest_from_least : (x : X) (ys : List X) → All (λ y. score y ≡ score (greatest_from score id x ys) → id (greatest_from score id x ys) ≤ id y) (x ∷ ys)
  unfolding greatest_from
  greatest_from_least x [] = All-cons (λ z. score z ≡ score x → id x ≤ id z) x [] (λ same. omega arith) (All-nil (λ z. score z ≡ score x → id x ≤ id z))
  greatest_from_least x (y ∷ ys) =
      let best = greatest_from score id (better score id x y) ys in
      let rest = greatest_from_least (better score id x y) ys in
      let first = All-head (λ z. score z ≡ score best → id best ≤ id z) (better score id x y) ys rest in
      let high = (greatest_from_high (better score id x y) ys).0 in
      let two = better_high x y in
      let least = better_least x y in
      All-cons (λ z. score z ≡ score best → id best ≤ id z) x (y ∷ ys) (through x best first high two.0 least.0)
      (All-cons (λ z. score z ≡ score best → id best ≤ id z) y ys (through y best first high two.1 least.1) (All-tail (λ z. score z ≡ score best → id best ≤ id z) (better score id x y) ys rest))
    where
      through : (z best : X) → (score (better score id x y) ≡ score best → id best ≤ id (better score id x y)) → score (better score id x y) ≤ℤ score best → score z ≤ℤ score (better score id x y)
          → (score z ≡ score (better score id x y) → id (better score id x y) ≤ id z) → score z ≡ score best → id best ≤ id z
      through z best first high low least same =
          let up : score (better score id x y) ≤ℤ score z = subst (λ n. score (better score id x y) ≤ℤ n) (sym same) high in
          let one = first (same_from high (subst (λ n. n ≤ℤ score (better score id x y)) same low)) in
          let two = least (same_from low up) in
          omega (arith, one, two)

  greatest_least : (none : X) (xs : List X) → All (λ y. score y ≡ score (greatest none score id xs) → id (greatest none score id xs) ≤ id y) xs
  unfolding greatest
  greatest_least none [] = All-nil (λ z. score z ≡ score none → id none ≤ id z)
  greatest_least none (x ∷ xs) = greatest_from_least x xs

-- for elements of every type
pub greatest_is_least : (X : Type 0) → GreatestIsLeast X
greatest_is_least X none score id xs some = (greatest_among score id (Contains xs) none xs some (All-contains_itself xs), greatest_high score id none xs, greatest_least score id none xs)

pub value_high : (m : Model) (edition : Edition) (w : Weights) → All (λ x. dot m w x.vector ≤ℤ value m edition w) edition
unfolding value greatest_member
value_high m edition w = greatest_high (λ x. dot m w x.vector) (λ x. x.id) (leaf_member m) edition

pub reached_value : (m : Model) (edition : Edition) (w : Weights) (z : ℤ) → Reaches m edition w z → z ≤ℤ value m edition w
reached_value m edition w z (k, x, less, is, high) = ≤ℤ_trans high (subst (λ (y : Member). dot m w y.vector ≤ℤ value m edition w) is (value_high m edition w k x less))

pub dot_mono : (m : Model) (w : Weights) (u v : Vector) → ((s : List ℕ) → IsPoint m.sizes s → u s ≤ℤ v s) → dot m w u ≤ℤ dot m w v
unfolding dot
dot_mono m w u v h = sum_over_mono m.sizes _ _ (λ s p. times_mono (w s) (u s) (v s) (h s p))

-- what holds of a filter's elements holds of those that pass
pub kept_all : {X : Type 0} (p : X → Bool) (Q : X → Type 0) (xs : List X) → All Q (filter p xs) → All (λ z. p z ≡ true → Q z) xs
kept_all p Q [] all = All-nil (λ z. p z ≡ true → Q z)
kept_all {X} p Q (x ∷ xs) all = by_test (p x) refl all (kept_all p Q xs)
  where
    by_test : (b : Bool) → p x ≡ b → All Q (cond b (x ∷ filter p xs) (filter p xs)) → (All Q (filter p xs) → All (λ z. p z ≡ true → Q z) xs) → All (λ z. p z ≡ true → Q z) (x ∷ xs)
    by_test true e all rest = All-cons (λ z. p z ≡ true → Q z) x xs (λ f. All-head Q x (filter p xs) all) (rest (All-tail Q x (filter p xs) all))
    by_test false e all rest = All-cons (λ z. p z ≡ true → Q z) x xs (λ f. absurd (cc)) (rest all)

pub Contains-filter : {X : Type 0} (p : X → Bool) (xs : List X) → All (λ z. p z ≡ true → Contains (filter p xs) z) xs
Contains-filter p xs = kept_all p (Contains (filter p xs)) xs (All-contains_itself (filter p xs))
