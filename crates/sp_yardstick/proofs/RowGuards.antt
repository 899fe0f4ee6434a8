use Rattle.std.proofs.Common.{◌≡◌, ℕ, ◌<◌, ◌*◌, ◌+◌, sym, ◌∙◌, ap, arith, subst, length, get_or}
use Rattle.std.specs.Prelude.{ℤ, pos, ◌≤ℤ◌, ◌<ℤ◌, slice_set}
use Rattle.std.proofs.lemmas.Int.{ints}
use Rattle.std.proofs.lemmas.List.{set-get_or}
use Rattle.sp_dd.specs.Floors.{ticks}
use Rattle.sp_dd.specs.Func.{Func, Everywhere, IsIndependentOf, IsOnPrimed, IsScope, size_of, value_of}
use Rattle.sp_dd.specs.Operations.{summed_out, IsLeast, IsRow}
use Rattle.sp_dd.proofs.FuncLemmas.{value_of-function_of, scope_some, IsPoint-with}
use Rattle.sp_dd.proofs.IndependenceLemmas.{point-below}
use Rattle.sp_yardstick.specs.Guards.{IsFreeOfEach, IsFreeOfOthers}

-- what is nowhere negative and sums to one is a row
pub row_yes : (p : Func) (slot : ℕ) (low : ℤ) → IsScope p.shape → IsLeast p low → pos 0 ≤ℤ low → Everywhere (summed_out p slot) (λ u. u ≡ pos ticks) → IsRow p slot
row_yes p slot low scope least positive one = record {
  weights = λ x inside v less. (let at = least.bound (slice_set x slot v) (IsPoint-with p.shape.sizes x slot v inside less) in omega (arith, ints, at, positive));
  whole = λ x inside. sym (value_of-function_of p.shape _ x (scope_some p.shape scope) inside) ∙ one x inside;
}

-- a row sums to one
pub row_whole : (p : Func) (slot : ℕ) → IsScope p.shape → IsRow p slot → Everywhere (summed_out p slot) (λ u. u ≡ pos ticks)
row_whole p slot scope row x inside = value_of-function_of p.shape _ x (scope_some p.shape scope) inside ∙ row.whole x inside

-- a row is nowhere negative
pub row_positive : (p : Func) (slot : ℕ) (low : ℤ) → slot < length p.shape.sizes → IsLeast p low → low <ℤ pos 0 → IsRow p slot → ⊥
row_positive p slot low within least negative row =
    let below : get_or least.point slot 0 < size_of p.shape slot = point-below p.shape.sizes least.point slot least.inside within in
    let same : value_of p (slice_set least.point slot (get_or least.point slot 0)) ≡ value_of p least.point = ap (value_of p) (set-get_or least.point slot 0) in
    omega (arith, ints, same, row.weights least.point least.inside (get_or least.point slot 0) below, least.reached, negative)

-- the unprimed slots are those with 0 added
pub on_primed : (f : Func) → IsFreeOfEach f 0 → IsFreeOfOthers f → IsOnPrimed f
on_primed f each others = record {
  not_unprimed = λ i less. (let same : 2 * i + 0 ≡ 2 * i = omega arith in subst (IsIndependentOf f) same (each i less));
  not_others = others;
}

pub free_of_unprimed : (f : Func) → IsOnPrimed f → IsFreeOfEach f 0
free_of_unprimed f on i less = let same : 2 * i ≡ 2 * i + 0 = omega arith in subst (IsIndependentOf f) same (on.not_unprimed i less)
