-- What an action leads to, and the members at the next weights before scaling.
use Rattle.std.specs.Prelude.{◌≡◌, List, ℕ, ◌^◌, ◌<◌, ◌≤◌, ℤ, pos, ◌≤ℤ◌, false, None, length, slice_index_or, unsigned_abs, IsTrue, IfSome}
use Rattle.sp_dd.specs.Func.{Func}
use Rattle.sp_dd.specs.Operations.{state_total}
use Rattle.sp_theory.specs.Points.{count_of, point_of}
use Rattle.sp_theory.specs.Model.{least_return, top}
use Rattle.sp_theory.specs.Values as theory
use Rattle.sp_theory.specs.Backup.{estimate}
use Rattle.sp_theory.specs.Beliefs.{unscaled_next}
use Rattle.sp_bounds.specs.Bounds.{floored_reward}
use Rattle.sp_model.specs.declared.parts.Parts.{Parts}
use Rattle.sp_model.specs.Problem.{sizes_of, shape_of, vector_of, no_func, problem}
use Rattle.sp_model.specs.Links.{weights_of}
use Rattle.sp_belief.specs.Transfers.{HasWeights}
use Rattle.sp_belief.specs.Updates.{unscaled_after}
use Rattle.sp_value.specs.Editions.{EditionParts, no_member}
use Rattle.sp_backup.specs.MemberTables.{IsNothingOr}
use Rattle.sp_backup.specs.declared.posteriors.Posterior.{Posterior}
use Rattle.sp_backup.specs.declared.posteriors.Successors.{Successors}
use Rattle.sp_backup.specs.declared.linking.ScoredMember.{ScoredMember}

-- ---- posteriors
-- the estimate of the vector that has one value, after an action and a joint observation
abbrev pub constant_estimate : Parts → Func → ℕ → ℕ → ℤ → ℤ
constant_estimate p w a joint z = estimate (problem p) (weights_of p w) a (point_of (sizes_of p.sights) joint) (λ s. z)

-- the least return and the top have one estimate
abbrev pub AreAlike : Parts → Func → ℕ → ℕ → Type 0
AreAlike p w a joint = constant_estimate p w a joint (least_return (problem p)) ≡ constant_estimate p w a joint (top (problem p))

-- the next weights before scaling after an action and a joint observation
pub record IsPosterior (p : Parts) (w : Func) (a joint : ℕ) (x : Posterior) : Type 0 where
  pub has : HasWeights p x.weights (unscaled_after p w a joint)
  pub few : state_total x.weights ≤ℤ pos (2 ^ 62)
  pub listed : IsNothingOr x.list x.weights
  pub alike : IsTrue x.is_alike → AreAlike p w a joint

-- what stands past the end of the posteriors
abbrev pub no_posterior : Posterior
no_posterior = record { weights = no_func; list = None; is_alike = false }

-- the posteriors of the first n joint observations
pub record ArePosteriors (p : Parts) (w : Func) (a n : ℕ) (xs : List Posterior) : Type 0 where
  pub count : length xs ≡ n
  pub each : (joint : ℕ) → joint < n → IsPosterior p w a joint (slice_index_or xs joint no_posterior)

-- what the action makes of the weights
pub record AreSuccessors (p : Parts) (x : Successors) : Type 0 where
  pub scope : x.weights.shape ≡ shape_of p
  pub action : x.action < length p.actions
  pub reward : x.reward ≡ theory.dot (problem p) (weights_of p x.weights) (floored_reward (problem p) x.action)
  pub small : unsigned_abs x.reward ≤ 2 ^ 112
  pub posteriors : ArePosteriors p x.weights x.action (count_of (sizes_of p.sights)) x.posteriors

-- ---- members
-- the next weights before scaling
abbrev pub unscaled_weights : EditionParts → theory.Weights → ℕ → ℕ → theory.Weights
unscaled_weights e w a joint = unscaled_next (problem e.task.model) w a (point_of (sizes_of e.task.model.sights) joint)

-- the vector, the id and the estimate of the member at a place
abbrev pub vector_at : EditionParts → ℕ → List ℕ → ℤ
vector_at e place = vector_of e.task.model (slice_index_or e.members place no_member).vector

abbrev pub id_of : EditionParts → ℕ → ℕ
id_of e place = (slice_index_or e.members place no_member).id

abbrev pub estimate_of : EditionParts → theory.Weights → ℕ → ℕ → ℕ → ℤ
estimate_of e w a joint place = estimate (problem e.task.model) w a (point_of (sizes_of e.task.model.sights) joint) (vector_at e place)

-- a member with its sum at the next weights before scaling, and with its estimate where that was made
pub record IsScoredMember (e : EditionParts) (w : theory.Weights) (a joint : ℕ) (x : ScoredMember) : Type 0 where
  pub within : x.place < length e.members
  pub sum : x.sum ≡ theory.dot (problem e.task.model) (unscaled_weights e w a joint) (vector_at e x.place)
  pub small : unsigned_abs x.sum ≤ 2 ^ 122
  pub estimate : IfSome x.estimate (λ z. z ≡ estimate_of e w a joint x.place)
