-- The laws of belief updates and samples, as the functions of this crate state them.
use Rattle.std.proofs.Common.{◌≡◌, ℕ, ◌+◌, ◌*◌, ◌^◌, ◌<◌, ◌≤◌, List, length, Some, None}
use Rattle.std.specs.Prelude.{pos, All, IsSome, ◌≤ℤ◌}
use Rattle.sp_theory.specs.Sums.{times}
use Rattle.sp_theory.specs.Points.{IsPoint, count_of, point_of, sum_over}
use Rattle.sp_theory.specs.Draws.{q}
use Rattle.sp_theory.specs.Model.{Model, State, all_own, IsLawful, HasInitial}
use Rattle.sp_theory.specs.Values.{Weights}
use Rattle.sp_theory.specs.Scaling.{total_weight, scaled_weights, IsScaled}
use Rattle.sp_theory.specs.Beliefs.{initial_weights, unscaled_next, next_weights, exact_next}
use Rattle.sp_theory.specs.Samples.{Chooser, Sample, AreSamplesOf, whole_total, drawn_observation, sample_after, samples}

-- ---- counts
-- the variables: an update divides by q for each
abbrev pub variables : Model → ℕ
variables m = length m.sizes + length m.sight_sizes

-- the states
abbrev pub states : Model → ℕ
states m = count_of m.sizes

-- the joint observations
abbrev pub observations : Model → ℕ
observations m = count_of m.sight_sizes

-- the floors of all updates after an action take less than 2^61 together, so not all of weights to scale
abbrev pub KeepsWeight : Model → Type 0
KeepsWeight m = length m.sizes * (states m * states m) + length m.sight_sizes * (states m * observations m) < 2 ^ 61

-- the floors of the initial belief take less than 2^62 together, so not all of 2^62. Only a factor with own variables takes any
abbrev pub KeepsInitial : Model → Type 0
KeepsInitial m = length (all_own m.factors) * states m < 2 ^ 62

-- models of at most 24 state variables with 2^24 states and 8 observation variables with 4096 joint observations keep weight, from their initial belief on
abbrev pub LimitsKeepWeight : Type 0
LimitsKeepWeight = (m : Model) → length m.sizes ≤ 24 → states m ≤ 2 ^ 24 → length m.sight_sizes ≤ 8 → observations m ≤ 4096
    → KeepsWeight m × (HasInitial m → KeepsInitial m)

-- ---- scale
-- weights of a total above 0 and at most 2^62 are brought to scale
abbrev pub ScalingGivesScale : Type 0
ScalingGivesScale = (m : Model) (w : Weights) → 0 < total_weight m w → total_weight m w ≤ 2 ^ 62 → IsScaled m (scaled_weights m w)

-- the initial weights are to scale, where the floors can't take all weight away
abbrev pub InitialIsScaled : Type 0
InitialIsScaled = (m : Model) → HasInitial m → 0 < states m → KeepsInitial m → IsScaled m (initial_weights m)

-- ---- updates
-- the next weights before scaling are at most the exact ones, and below them at most one for each variable and state
abbrev pub UpdateIsClose : Type 0
UpdateIsClose = (m : Model) → IsLawful m → (w : Weights) (a : ℕ) → a < m.actions
    → (seen : List ℕ) → IsPoint m.sight_sizes seen → (next : State) → IsPoint m.sizes next
    → (times (q ^ variables m) (pos (unscaled_next m w a seen next)) ≤ℤ exact_next m w a seen next)
    × (exact_next m w a seen next ≤ℤ times (q ^ variables m) (pos (unscaled_next m w a seen next + variables m * states m)))

-- an observation that the exact update rules out is unseen
abbrev pub RuledOutIsUnseen : Type 0
RuledOutIsUnseen = (m : Model) → IsLawful m → (w : Weights) (a : ℕ) → a < m.actions
    → (seen : List ℕ) → IsPoint m.sight_sizes seen
    → ((next : State) → IsPoint m.sizes next → exact_next m w a seen next ≡ pos 0)
    → next_weights m w a seen ≡ None

-- an unseen observation has next to no exact weight
abbrev pub UnseenIsSlight : Type 0
UnseenIsSlight = (m : Model) → IsLawful m → (w : Weights) (a : ℕ) → a < m.actions
    → (seen : List ℕ) → IsPoint m.sight_sizes seen
    → next_weights m w a seen ≡ None
    → sum_over m.sizes (exact_next m w a seen) ≤ℤ times (q ^ variables m) (pos (variables m * (states m * states m)))

-- the next weights before scaling have no greater total than the weights
abbrev pub UpdateGainsNothing : Type 0
UpdateGainsNothing = (m : Model) → IsLawful m → (w : Weights) (a : ℕ) → a < m.actions
    → (seen : List ℕ) → IsPoint m.sight_sizes seen
    → total_weight m (unscaled_next m w a seen) ≤ total_weight m w

-- the next weights are to scale
abbrev pub NextIsScaled : Type 0
NextIsScaled = (m : Model) → IsLawful m → (w : Weights) → IsScaled m w → (a : ℕ) → a < m.actions
    → (seen : List ℕ) → IsPoint m.sight_sizes seen
    → (v : Weights) → next_weights m w a seen ≡ Some v → IsScaled m v

-- ---- samples
-- some observation can be drawn at weights to scale: S is not 0
abbrev pub SomethingIsSeen : Type 0
SomethingIsSeen = (m : Model) → IsLawful m → (w : Weights) → IsScaled m w → (a : ℕ) → a < m.actions → KeepsWeight m → 0 < whole_total m w a

-- the observation that a word draws is one of the model's, and it is seen
abbrev pub DrawnIsSeen : Type 0
DrawnIsSeen = (m : Model) (w : Weights) (a word : ℕ) → 0 < whole_total m w a
    → (drawn_observation m w a word < observations m) × IsSome (next_weights m w a (point_of m.sight_sizes (drawn_observation m w a word)))

-- a sample after a parent's weights: an action and a joint observation of the model, and the next weights after them, to scale
pub record IsSampled (m : Model) (parent : Weights) (x : Sample) : Type 0 where
  pub known : x.action < m.actions
  pub seen : x.observation < observations m
  pub next : next_weights m parent x.action (point_of m.sight_sizes x.observation) ≡ Some x.weights
  pub scale : IsScaled m x.weights

-- the sample that an action and a word give at weights to scale
abbrev pub SampleIsNext : Type 0
SampleIsNext = (m : Model) → IsLawful m → KeepsWeight m → (w : Weights) → IsScaled m w → (a : ℕ) → a < m.actions → (word : ℕ)
    → IsSampled m w (sample_after m w a word)

-- the answers of a chooser are actions: below their number, where there is one
abbrev pub AnswersBelow : {S : Type 0} → Chooser S → Type 0
AnswersBelow {S} chooser = (state : S) (depth actions word : ℕ) → 0 < actions → chooser.answer state depth actions word < actions

-- the samples of a chooser with states of this type are samples of the model, to scale
abbrev pub SamplesAreNext : Type 0 → Type 0
SamplesAreNext S = (m : Model) → IsLawful m → HasInitial m → 0 < states m → KeepsInitial m → KeepsWeight m
    → (chooser : Chooser S) → AnswersBelow chooser → (depth : ℕ) (words : List ℕ) (count : ℕ)
    → AreSamplesOf m depth (samples m chooser depth words count) × All (λ x. IsScaled m x.weights) (samples m chooser depth words count)
