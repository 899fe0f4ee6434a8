-- After each action at a model's weights some joint observation can be drawn.
use Rattle.std.proofs.Common.{◌≡◌, ℕ, ◌^◌, ◌<◌, ◌≤◌, arith, length}
use Rattle.std.specs.Prelude.{ℤ, pos, ◌≤ℤ◌, ◌<ℤ◌}
use Rattle.std.proofs.lemmas.Int.{ints}
use Rattle.sp_dd.specs.Func.{Func}
use Rattle.sp_theory.specs.Scaling.{IsScaled}
use Rattle.sp_theory.specs.Samples.{whole_total}
use Rattle.sp_theory.specs.BeliefLaws.{KeepsWeight}
use Rattle.sp_theory.proofs.Unseen.{something_seen}
use Rattle.sp_theory.proofs.Drawn.{limits_keep}
use Rattle.sp_model.specs.declared.parts.Parts.{Parts}
use Rattle.sp_model.specs.Problem.{sizes_of, problem}
use Rattle.sp_model.specs.Kept.{IsModel}
use Rattle.sp_model.specs.Weights.{AreWeights}
use Rattle.sp_model.specs.Links.{weights_of}
use Rattle.sp_model.proofs.Counts.{length-sizes_of}
use Rattle.sp_model.proofs.RowLaw.{problem_lawful}
use Rattle.sp_belief.proofs.WeightLemmas.{has-total, weights_has}

module _ (p : Parts) (known : IsModel p) where
  -- weights are to scale
  pub weights_scaled : (w : Func) → AreWeights w → w.shape ≡ p.scope → IsScaled (problem p) (weights_of p w)
  weights_scaled w are scope = let is = in_scale _ _ (has-total p known w (weights_of p w) (weights_has p known w scope are)) are.above are.at_most in record { above = is.0; within = is.1 }
    where
      in_scale : (z : ℤ) (n : ℕ) → z ≡ pos n → pos (2 ^ 61) <ℤ z → z ≤ℤ pos (2 ^ 62) → (2 ^ 61 < n) × (n ≤ 2 ^ 62)
      in_scale z n is above most = (omega (arith, ints, is, above), omega (arith, ints, is, most))

  keeps_weight : KeepsWeight (problem p)
  unfolding problem
  keeps_weight = (limits_keep (problem p) few_variables known.few_states few_sights known.few_joint).0
    where
      few_variables : length (sizes_of p.variables) ≤ 24
      few_variables = let few = known.few_variables in omega (arith, few, length-sizes_of p.variables)

      few_sights : length (sizes_of p.sights) ≤ 8
      few_sights = let few = known.few_sights in omega (arith, few, length-sizes_of p.sights)

  pub something_can_be_seen : (w : Func) → AreWeights w → w.shape ≡ p.scope → (a : ℕ) → a < length p.actions → 0 < whole_total (problem p) (weights_of p w) a
  unfolding problem
  something_can_be_seen w are scope a within = something_seen (problem p) (problem_lawful p known) (weights_of p w) (weights_scaled w are scope) a within keeps_weight
