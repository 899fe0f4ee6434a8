-- The sum over all states of slots is that over all states of values.
use Rattle.std.proofs.Common.{◌≡◌, ℕ, ◌+◌, ◌*◌, ◌/◌, ◌%◌, ◌<◌, refl, sym, ◌∙◌, ap, arith, List, [], ◌∷◌, ◌++◌, length}
use Rattle.std.specs.Prelude.{ℤ, pos, ◌*ℤ◌, ◌≤ℤ◌}
use Rattle.std.proofs.lemmas.Nat.{mod_below, div_below, div-add-mod'}
use Rattle.std.proofs.Math.Nat.{mod-eq_of_lt}
use Rattle.sp_dd.specs.Points as slots
use Rattle.sp_dd.specs.Floors.{sum_to}
use Rattle.sp_dd.specs.Func.{Shape, Func, value_of, Everywhere}
use Rattle.sp_dd.specs.Operations.{state_dot}
use Rattle.sp_dd.proofs.PointLemmas.{point_at-turn}
use Rattle.sp_theory.specs.Sums.{times}
use Rattle.sp_theory.specs.Points as theory
use Rattle.sp_theory.specs.Values as values
use Rattle.sp_theory.proofs.Numbers.{sum_over-numbers, point_of-point}
use Rattle.sp_model.specs.declared.parts.Parts.{Parts}
use Rattle.sp_model.specs.Sizes.{AllSome}
use Rattle.sp_model.specs.Problem.{sizes_of, shape_of, twice_each, first_numbers, in_turn, point_of, vector_of, problem}
use Rattle.sp_model.specs.Kept.{IsModel}
use Rattle.sp_model.specs.Links.{weights_of}
use Rattle.sp_model.proofs.Whole.{sum_to-sum_below, pos-unsigned_abs}
use Rattle.sp_model.proofs.Counts.{length-sizes_of, count_of-some}
use Rattle.sp_model.proofs.SlotPoints.{padded-whole}
use Rattle.sp_model.proofs.RowLaw.{some_sizes}
use Rattle.sp_model.proofs.InitialLaw.{point_at}

product-ones : (js : List ℕ) → slots.product (slots.ones js) ≡ 1
product-ones [] = refl
product-ones (j ∷ js) = let rest = product-ones js in omega (arith, rest)

-- as many points of unprimed slots as states
product-state_widths : (ks js : List ℕ) → slots.product (slots.state_widths (length ks) (twice_each ks ++ js)) ≡ theory.count_of ks
product-state_widths [] js = product-ones js
product-state_widths (k ∷ ks) js =
    let rest = product-state_widths ks js in
    let one : 1 * slots.product (slots.state_widths (length ks) (twice_each ks ++ js)) ≡ theory.count_of ks = omega (arith, rest) in
    ap (λ (n : ℕ). k * n) one

point_at-ones : (js : List ℕ) (k : ℕ) → slots.point_at (slots.ones js) k ≡ first_numbers (length js) []
point_at-ones [] k = refl
point_at-ones (j ∷ js) k =
    let none : k / slots.product (slots.ones js) % 1 ≡ 0 = (let less = mod_below (k / slots.product (slots.ones js)) 1 (omega arith) in omega (arith, less)) in
    let rest = point_at-ones js k in
    (λ i. none i ∷ rest i)

-- the point of a state's number
point_at-state : (ks js : List ℕ) (k : ℕ) → AllSome ks → k < theory.count_of ks
    → slots.point_at (slots.state_widths (length ks) (twice_each ks ++ js)) k ≡ in_turn (theory.point_of ks k) (first_numbers (length ks) []) ++ first_numbers (length js) []
unfolding theory.point_of
point_at-state [] js k some less = point_at-ones js k
point_at-state (n ∷ ks) js k some less =
    let ws = slots.state_widths (length ks) (twice_each ks ++ js) in
    let c = theory.count_of ks in
    let states = product-state_widths ks js in
    let have : 0 < c = count_of-some ks some.1 in
    let one : slots.product (1 ∷ ws) ≡ c = (let e : 1 * slots.product ws ≡ c = omega (arith, states) in e) in
    let first : k / slots.product (1 ∷ ws) % n ≡ k / c = ap (λ (d : ℕ). k / d % n) one ∙ mod-eq_of_lt (div_below k c n have less) in
    let second : k / slots.product ws % 1 ≡ 0 = (let low = mod_below (k / slots.product ws) 1 (omega arith) in omega (arith, low)) in
    let some_ws : 0 < slots.product ws = omega (arith, states, have) in
    let parts : k ≡ k / c * c + k % c = sym (div-add-mod' k c) in
    let turned : slots.point_at ws k ≡ slots.point_at ws (k % c) =
    ap (slots.point_at ws) (parts ∙ ap (λ (d : ℕ). k / c * d + k % c) (sym states)) ∙ point_at-turn ws (k / c) (k % c) some_ws in
    let rest = turned ∙ point_at-state ks js (k % c) some.1 (mod_below k c have) in
    (λ i. first i ∷ second i ∷ rest i)

module _ (p : Parts) (known : IsModel p) where
  state_at-point_of : (k : ℕ) → k < theory.count_of (sizes_of p.variables)
      → slots.point_at (slots.state_widths (length p.variables) (shape_of p).sizes) k ≡ point_of p (theory.point_of (sizes_of p.variables) k) [] []
  state_at-point_of k less =
      let ks = sizes_of p.variables in
      let js = sizes_of p.sights in
      let s = theory.point_of ks k in
      ap (λ (n : ℕ). slots.point_at (slots.state_widths n (twice_each ks ++ js)) k) (sym (length-sizes_of p.variables))
      ∙ point_at-state ks js k (some_sizes p.variables known.variables) less
      ∙ ap (λ (l : List ℕ). in_turn l (first_numbers (length ks) []) ++ first_numbers (length js) []) (sym (padded-whole ks s (point_of-point ks k less)))
      ∙ ap (λ (n : ℕ). in_turn (first_numbers n s) (first_numbers n []) ++ first_numbers (length js) []) (length-sizes_of p.variables)
      ∙ ap (λ (n : ℕ). in_turn (first_numbers (length p.variables) s) (first_numbers (length p.variables) []) ++ first_numbers n []) (length-sizes_of p.sights)

  pub state_dot-dot : (w f : Func) → w.shape ≡ shape_of p → f.shape ≡ shape_of p → Everywhere w (λ v. pos 0 ≤ℤ v) → state_dot w f ≡ values.dot (problem p) (weights_of p w) (vector_of p f)
  unfolding problem values.dot
  state_dot-dot w f e h not_negative =
      let ks = sizes_of p.variables in
      let at : ℕ → List ℕ = λ k. slots.point_at (slots.state_widths (length p.variables) (shape_of p).sizes) k in
      let count : slots.product (slots.state_widths (length p.variables) (shape_of p).sizes) ≡ theory.count_of ks =
      ap (λ (n : ℕ). slots.product (slots.state_widths n (shape_of p).sizes)) (sym (length-sizes_of p.variables)) ∙ product-state_widths ks (sizes_of p.sights) in
      let here : (k : ℕ) → k < theory.count_of ks
      → times (weights_of p w (theory.point_of ks k)) (vector_of p f (theory.point_of ks k)) ≡ value_of w (at k) *ℤ value_of f (at k) = λ k less.
      let same = state_at-point_of k less in
      let whole = pos-unsigned_abs (vector_of p w (theory.point_of ks k)) (not_negative _ (point_at p known w e (theory.point_of ks k) (point_of-point ks k less))) in
      ap (λ (z : ℤ). z *ℤ vector_of p f (theory.point_of ks k)) whole ∙ ap (λ (x : List ℕ). value_of w x *ℤ value_of f x) (sym same) in
      ap (λ (s : Shape). sum_to (slots.product (slots.state_widths s.variables s.sizes)) (λ k. value_of w (slots.point_at (slots.state_widths s.variables s.sizes) k) *ℤ value_of f (slots.point_at (slots.state_widths s.variables s.sizes) k))) e
      ∙ ap (λ (n : ℕ). sum_to n (λ k. value_of w (at k) *ℤ value_of f (at k))) count
      ∙ sym (sum_to-sum_below (theory.count_of ks) _ _ here)
      ∙ sym (sum_over-numbers ks (λ s. times (weights_of p w s) (vector_of p f s)))
