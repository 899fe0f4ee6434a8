-- The expected reward of an action at weights.
use Rattle.std.proofs.Common.{◌≡◌, ℕ, ◌^◌, ◌<◌, ◌≤◌, sym, ap, ◌∙◌, subst, arith, List, length, refl}
use Rattle.std.specs.Prelude.{ℤ, pos, neg_ℤ, ◌≤ℤ◌, unsigned_abs}
use Rattle.std.proofs.lemmas.Int.{ints}
use Rattle.sp_dd.specs.Func.{Func, Everywhere, IsOnUnprimed}
use Rattle.sp_dd.specs.Operations.{state_dot}
use Rattle.sp_theory.specs.Points.{IsPoint}
use Rattle.sp_theory.specs.Values.{Weights, dot, total}
use Rattle.sp_theory.proofs.Weighing.{weighed_same}
use Rattle.sp_theory.proofs.Agreement.{dot_same}
use Rattle.sp_bounds.specs.Bounds.{floored_reward}
use Rattle.sp_model.specs.declared.parts.Parts.{Parts}
use Rattle.sp_model.specs.Problem.{sizes_of, shape_of, vector_of, reward_of, problem}
use Rattle.sp_model.specs.Kept.{IsModel}
use Rattle.sp_model.specs.Links.{weights_of}
use Rattle.sp_model.specs.Weights.{AreWeights}
use Rattle.sp_model.proofs.InitialLaw.{point_at}
use Rattle.sp_model.proofs.LinkLemmas.{state_dot-dot}
use Rattle.sp_theory.proofs.Whole.{≤ℤ_trans}
use Rattle.sp_theory.proofs.Weighing.{le_same}
use Rattle.sp_theory.proofs.Backups.{dot_from_zero}
use Rattle.sp_model.proofs.Whole.{pos-unsigned_abs}
use Rattle.sp_belief.proofs.WeightLemmas.{has-total, weights_has}
use Rattle.sp_backup.specs.Functions.{value_at, AtAll, IsBounded, IsWeighed}
use Rattle.sp_backup.proofs.Rewards.{reward_is, reward-at}
use Rattle.sp_backup.proofs.Worth.{unprimed_from, vector_from}
use Rattle.sp_backup.proofs.UnscaledSums.{dot_within}

module _ (p : Parts) (known : IsModel p) (a : ℕ) (action : a < length p.actions) (f r : Func) (f_is : f ≡ reward_of p a) (is : IsWeighed p a f r) where
  reward-value : AtAll p (λ s t z. value_at r s t z ≡ floored_reward (problem p) a s)
  unfolding problem
  reward-value s t z at to sees = is.value s t z at to sees ∙ weighed_same (problem p).sizes ((problem p).moves a s) _ _ (λ next there. ap (λ (g : Func). value_at g s next z) f_is ∙ reward-at p known a action s next z at there sees)

  pub reward_unprimed : IsOnUnprimed r
  reward_unprimed = unprimed_from p r is.shape (floored_reward (problem p) a) reward-value

  pub reward_within : IsBounded r (10 ^ 15)
  reward_within = is.within (10 ^ 15) (subst (λ (g : Func). IsBounded g (10 ^ 15)) (sym f_is) (reward_is p known a action).small)

  pub reward-dot : (w : Func) → w.shape ≡ shape_of p → Everywhere w (λ v. pos 0 ≤ℤ v) → state_dot w r ≡ dot (problem p) (weights_of p w) (floored_reward (problem p) a)
  unfolding problem
  reward-dot w shape low = state_dot-dot p known w r shape is.shape low ∙ dot_same (problem p) (weights_of p w) (weights_of p w) (vector_of p r) (floored_reward (problem p) a) (λ s at. refl) (λ s at. vector_from p r is.shape (floored_reward (problem p) a) reward-value known s at)

  pub reward_sum_small : (w : Weights) → total (problem p) w ≤ℤ pos (2 ^ 62) → unsigned_abs (dot (problem p) w (floored_reward (problem p) a)) ≤ 2 ^ 112
  unfolding problem
  reward_sum_small w few =
      let most = dot_within (problem p) w (10 ^ 15) (2 ^ 62) (floored_reward (problem p) a) few each in
      omega (arith, most)
    where
      each : (s : List ℕ) → IsPoint (sizes_of p.variables) s → (neg_ℤ (pos (10 ^ 15)) ≤ℤ floored_reward (problem p) a s) × (floored_reward (problem p) a s ≤ℤ pos (10 ^ 15))
      each s at = bounded _ (subst (λ (z : ℤ). unsigned_abs z ≤ 10 ^ 15) (vector_from p r is.shape (floored_reward (problem p) a) reward-value known s at) (reward_within _ (point_at p known r is.shape s at)))
        where
          bounded : (z : ℤ) → unsigned_abs z ≤ 10 ^ 15 → (neg_ℤ (pos (10 ^ 15)) ≤ℤ z) × (z ≤ℤ pos (10 ^ 15))
          bounded z small = (omega (arith, ints, small), omega (arith, ints, small))

pub weights_most : (p : Parts) → IsModel p → (w : Func) → w.shape ≡ shape_of p → AreWeights w → total (problem p) (weights_of p w) ≤ℤ pos (2 ^ 62)
weights_most p known w scope are =
    let has = weights_has p known w (scope ∙ sym known.scope) are in
    ≤ℤ_trans (le_same (sym (has-total p known w (weights_of p w) has ∙ pos-unsigned_abs (total (problem p) (weights_of p w)) (dot_from_zero (problem p) (weights_of p w))))) are.at_most
