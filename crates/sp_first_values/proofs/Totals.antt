-- The total of the weights of a model.
use Rattle.std.proofs.Common.{◌≡◌, ◌∙◌, sym, ap, subst, arith, ◌^◌, ◌≤◌}
use Rattle.std.specs.Prelude.{ℤ, pos, ◌<ℤ◌, unsigned_abs}
use Rattle.std.proofs.lemmas.Int.{ints}
use Rattle.sp_dd.specs.Func.{Shape, Func, IsScope, IsOnUnprimed, Everywhere}
use Rattle.sp_dd.specs.Operations.{everywhere, state_dot, state_total}
use Rattle.sp_theory.specs.Scaling.{total_weight}
use Rattle.sp_model.specs.declared.parts.Parts.{Parts}
use Rattle.sp_model.specs.Problem.{shape_of, problem}
use Rattle.sp_model.specs.Kept.{IsModel}
use Rattle.sp_model.specs.Weights.{AreWeights}
use Rattle.sp_model.specs.Links.{weights_of}
use Rattle.sp_belief.proofs.WeightLemmas.{constant_unprimed, constant_everywhere, dot-one, has-total, weights_has}

-- the function that is 1 everywhere
module _ (s : Shape) (scope : IsScope s) (one : Func) (is : one ≡ everywhere s (pos 1)) where
  pub one_unprimed : IsOnUnprimed one
  one_unprimed = subst IsOnUnprimed (sym is) (constant_unprimed s scope (pos 1))

  pub one_small : Everywhere one (λ v. unsigned_abs v ≤ 2 ^ 62)
  one_small = let Small : Func → Type 0 = λ f. Everywhere f (λ v. unsigned_abs v ≤ 2 ^ 62) in subst Small (sym is) (constant_everywhere s scope (pos 1) (λ v. unsigned_abs v ≤ 2 ^ 62) (omega arith))

module _ (p : Parts) (known : IsModel p) (w : Func) (are : AreWeights w) (shape : w.shape ≡ shape_of p) (scope : IsScope w.shape) (one : Func) (is : one ≡ everywhere w.shape (pos 1)) (z : ℤ) (dot : z ≡ state_dot w one) where
  total_is : z ≡ state_total w
  total_is = dot ∙ ap (state_dot w) is ∙ dot-one w scope

  pub total_some : pos 0 <ℤ z
  total_some = let above = are.above in omega (arith, ints, total_is, above)

  pub total_weighs : z ≡ pos (total_weight (problem p) (weights_of p w))
  total_weighs = total_is ∙ has-total p known w (weights_of p w) (weights_has p known w (shape ∙ sym known.scope) are)
