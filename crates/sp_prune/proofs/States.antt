-- A value vector compared at its points is compared at its states.
use Rattle.std.proofs.Common.{◌≡◌, ◌∙◌, sym, ap, subst, refl, arith, ℕ, zero, suc, ◌+◌, ◌-◌, ◌*◌, ◌/◌, ◌%◌, ◌<◌, ◌≤◌, List, [], ◌∷◌, ◌++◌, length, get_or, Bool, true, false, not, ◌⊎◌, inl, inr, ⊎_elim}
use Rattle.std.specs.Prelude.{ℤ, ◌≤ℤ◌, ◌<ℤ◌, int_lt, Option, Some, None, MatchOption, slice_get}
use Rattle.std.specs.Option.{is_some}
use Rattle.std.proofs.lemmas.Option.{slice_get_within, get_or_from_slice_get}
use Rattle.std.proofs.lemmas.List.{length-map, get_or-map}
use Rattle.std.proofs.lemmas.Int.{ints}
use Rattle.std.proofs.lemmas.Bool.{cases_lt}
use Rattle.sp_dd.specs.Points as slots
use Rattle.sp_dd.specs.Func.{Shape, Func, value_of, IsPointOf, IsIndependentOf, IsOnUnprimed}
use Rattle.sp_dd.specs.Operations.{IsAtMost, IsFirstAbove}
use Rattle.sp_dd.proofs.IndependenceLemmas.{agree_same}
use Rattle.sp_theory.specs.Points as theory
use Rattle.sp_theory.specs.OneThread.{nowhere_above}
use Rattle.sp_theory.proofs.Extremes.{holds_over_at, holds_over_all}
use Rattle.sp_model.specs.declared.parts.Parts.{Parts}
use Rattle.sp_model.specs.Problem.{sizes_of, shape_of, in_turn, first_numbers, point_of, vector_of, problem}
use Rattle.sp_model.specs.Kept.{IsModel}
use Rattle.sp_model.proofs.SlotPoints.{padded-whole, length-padded, length-point, split}
use Rattle.sp_model.proofs.InitialLaw.{point_at}
use Rattle.sp_value.specs.declared.editions.Member.{Member}
use Rattle.sp_value.specs.Editions.{IsVector, member_of, edition_of}
use Rattle.sp_model.proofs.Counts.{length-sizes_of}

-- ---- points and states
-- the value of an unprimed slot
even_at : (s t z : List ℕ) (i : ℕ) → length s ≡ length t → i < length s → get_or (in_turn s t ++ z) (2 * i) 0 ≡ get_or s i 0
even_at [] t z i e h = absurd (omega arith)
even_at (x ∷ s) [] z i e h = absurd (omega arith)
even_at (x ∷ s) (y ∷ t) z zero e h = refl
even_at (x ∷ s) (y ∷ t) z (suc i) e h =
    let next : 2 * suc i ≡ suc (suc (2 * i)) = omega arith in
    ap (λ (k : ℕ). get_or (x ∷ y ∷ (in_turn s t ++ z)) k 0) next ∙ even_at s t z i (omega arith) (omega arith)

parity : (j : ℕ) → (j ≡ 2 * (j / 2)) ⊎ (j ≡ 2 * (j / 2) + 1)
parity j = ⊎_elim (λ (h : j % 2 < 1). inl (omega arith)) (λ (h : 1 ≤ j % 2). inr (omega arith)) (cases_lt (j % 2) 1)

-- not above, as a test
pub not_above : (a b : ℤ) → a ≤ℤ b → not (int_lt b a) ≡ true
not_above a b low = by_test (int_lt b a) refl
  where
    by_test : (c : Bool) → int_lt b a ≡ c → not c ≡ true
    by_test true e = absurd (omega (arith, ints))
    by_test false e = refl

module _ (p : Parts) (known : IsModel p) where
  abbrev n : ℕ
  n = length p.variables

  long : (s : List ℕ) → theory.IsPoint (sizes_of p.variables) s → length s ≡ n
  long s at = length-point (sizes_of p.variables) s at ∙ length-sizes_of p.variables

  whole : (s : List ℕ) → theory.IsPoint (sizes_of p.variables) s → first_numbers n s ≡ s
  whole s at = ap (λ (k : ℕ). first_numbers k s) (sym (length-sizes_of p.variables)) ∙ padded-whole (sizes_of p.variables) s at

  -- a function of unprimed slots has the value of the state
  state_value : (f : Func) → f.shape ≡ shape_of p → IsOnUnprimed f → (s t z : List ℕ) → theory.IsPoint (sizes_of p.variables) s → theory.IsPoint (sizes_of p.variables) t → IsPointOf f (in_turn s t ++ z)
      → value_of f (in_turn s t ++ z) ≡ vector_of p f s
  state_value f shape is s t z at to inside =
      agree_same f (in_turn s t ++ z) (point_of p s [] []) inside (point_at p known f shape s at)
      (λ j less. ⊎_elim (λ (low : j < 2 * n). ⊎_elim (λ (even : j ≡ 2 * (j / 2)). inr (unprimed j even low)) (λ (odd : j ≡ 2 * (j / 2) + 1). inl (subst (IsIndependentOf f) (sym odd) (is.not_primed (j / 2) (omega (arith, variables, low))))) (parity j))
      (λ (high : 2 * n ≤ j). inl (subst (IsIndependentOf f) (behind j high) (is.not_others (j - 2 * n) (subst (λ (k : ℕ). k < length f.shape.sizes) (sym (behind j high)) less))))
      (cases_lt j (2 * n)))
    where
      variables : f.shape.variables ≡ n
      variables = ap (λ (c : Shape). c.variables) shape

      behind : (j : ℕ) → 2 * n ≤ j → 2 * f.shape.variables + (j - 2 * n) ≡ j
      behind j high = omega (arith, variables, high)

      unprimed : (j : ℕ) → j ≡ 2 * (j / 2) → j < 2 * n → get_or (in_turn s t ++ z) j 0 ≡ get_or (point_of p s [] []) j 0
      unprimed j even low =
          let own = long s at in
          let next = long t to in
          let first = length-padded n s in
          let second = length-padded n [] in
          ap (λ (k : ℕ). get_or (in_turn s t ++ z) k 0) even ∙ even_at s t z (j / 2) (omega (arith, own, next)) (omega (arith, own, low))
          ∙ sym (ap (λ (k : ℕ). get_or (point_of p s [] []) k 0) even ∙ even_at (first_numbers n s) (first_numbers n []) (first_numbers (length p.sights) []) (j / 2) (omega (arith, first, second)) (omega (arith, first, low)) ∙ ap (λ (l : List ℕ). get_or l (j / 2) 0) (whole s at))

  module _ (x y : Member) (of_x : IsVector p x.vector) (of_y : IsVector p y.vector) where
    -- at most at each point is at most at each state
    pub at_most : IsAtMost x.vector y.vector → nowhere_above (problem p) (member_of p x) (member_of p y) ≡ true
    unfolding nowhere_above problem
    at_most below = holds_over_all (sizes_of p.variables) _ (λ s at. not_above _ _ (below (point_of p s [] []) (point_at p known x.vector of_x.shape s at)))

    -- above at some point is above at some state
    pub some_above : (point : List ℕ) → IsFirstAbove x.vector y.vector point → nowhere_above (problem p) (member_of p x) (member_of p y) ≡ false
    unfolding nowhere_above problem
    some_above point first = by_test (nowhere_above (problem p) (member_of p x) (member_of p y)) refl
      where
        by_test : (c : Bool) → nowhere_above (problem p) (member_of p x) (member_of p y) ≡ c → c ≡ false
        by_test false e = refl
        by_test true e =
            let parts = split (sizes_of p.variables) (sizes_of p.sights) point (subst (λ (c : Shape). slots.IsPoint c.sizes point) of_x.shape first.inside) in
            let inside : IsPointOf x.vector (in_turn parts.state parts.next ++ parts.seen) = subst (IsPointOf x.vector) (sym parts.whole) first.inside in
            let other : IsPointOf y.vector (in_turn parts.state parts.next ++ parts.seen) = subst (λ (c : Shape). slots.IsPoint c.sizes (in_turn parts.state parts.next ++ parts.seen)) (of_x.shape ∙ sym of_y.shape) inside in
            let high = ap (value_of x.vector) (sym parts.whole) ∙ state_value x.vector of_x.shape of_x.unprimed parts.state parts.next parts.seen parts.at parts.to inside in
            let low = ap (value_of y.vector) (sym parts.whole) ∙ state_value y.vector of_y.shape of_y.unprimed parts.state parts.next parts.seen parts.at parts.to other in
            let test = holds_over_at (sizes_of p.variables) _ e parts.state parts.at in
            let above = first.above in
            absurd (never _ _ test (subst (λ (z : ℤ). z <ℤ vector_of p x.vector parts.state) low (subst (λ (z : ℤ). value_of y.vector point <ℤ z) high above)))
          where
            never : (a b : ℤ) → not (int_lt b a) ≡ true → b <ℤ a → ⊥
            never a b test less = by_lt (int_lt b a) refl test
              where
                by_lt : (c : Bool) → int_lt b a ≡ c → not c ≡ true → ⊥
                by_lt true e test = absurd (cc)
                by_lt false e test = absurd (omega (arith, ints))

    -- what the comparison of the vectors tells
    pub nowhere_is : (point : Option (List ℕ)) → MatchOption point (IsAtMost x.vector y.vector) (λ q. IsFirstAbove x.vector y.vector q) → (b : Bool) → is_some point ≡ not b → b ≡ nowhere_above (problem p) (member_of p x) (member_of p y)
    nowhere_is None below true e = sym (at_most below)
    nowhere_is None below false e = absurd (cc)
    nowhere_is (Some q) first true e = absurd (cc)
    nowhere_is (Some q) first false e = sym (some_above q first)

-- a member that was read
pub read_member : (p : Parts) (members own : List Member) (k : ℕ) (x : Member) → members ≡ own → slice_get members k ≡ Some x → (k < length (edition_of p own)) × (member_of p x ≡ get_or (edition_of p own) k (member_of p x))
read_member p members own k x same at =
    let here : slice_get own k ≡ Some x = subst (λ (xs : List Member). slice_get xs k ≡ Some x) same at in
    let within = slice_get_within own k x here in (
      subst (λ (c : ℕ). k < c) (sym (length-map own (member_of p))) within,
      sym (get_or-map (member_of p) own k x (member_of p x) within ∙ ap (member_of p) (get_or_from_slice_get own k x x here)),
    )
