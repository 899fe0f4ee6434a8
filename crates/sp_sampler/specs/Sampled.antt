-- The sampled beliefs of a model, and what a generator and a chooser are after them.
use Rattle.std.specs.Prelude.{◌≡◌, ℕ, ◌*◌, ◌%◌, ◌<◌, ◌==◌, if◌then◌else◌, List, map, length, All, IsSome}
use Rattle.rand_core.specs.Stream.{Stream}
use Rattle.sp_dd.specs.Func.{Func}
use Rattle.sp_theory.specs.Points.{count_of, point_of}
use Rattle.sp_theory.specs.Model as problems
use Rattle.sp_theory.specs.Agreement.{WeightsAgree}
use Rattle.sp_theory.specs.Beliefs.{next_weights}
use Rattle.sp_theory.specs.Samples as theory
use Rattle.sp_model.specs.declared.parts.Parts.{Parts}
use Rattle.sp_model.specs.declared.beliefs.Sample.{Sample}
use Rattle.sp_model.specs.Problem.{shape_of, sizes_of, problem}
use Rattle.sp_model.specs.Links.{weights_of, sample_of}
use Rattle.sp_belief.specs.Updates.{AreNext}
use Rattle.sp_choose.specs.Machines.{Machine}
use Rattle.sp_sampler.specs.Words.{left_after, first_words}

-- the same action and the same joint observation, and weights that agree
pub record SamplesAgree (m : problems.Model) (x y : theory.Sample) : Type 0 where
  pub action : x.action ≡ y.action
  pub observation : x.observation ≡ y.observation
  pub weights : WeightsAgree m x.weights y.weights

-- n beliefs that a chooser and a list of words sample at a depth, each with weights on the model's scope. So they are samples of the model
pub record AreSampled (p : Parts) (chooser : Machine) (depth : ℕ) (words : List ℕ) (n : ℕ) (xs : List Sample) : Type 0 where
  pub count : length xs ≡ n
  pub scopes : All (λ x. x.weights.shape ≡ shape_of p) xs
  pub agree : (k : ℕ) → k < n → SamplesAgree (problem p) (theory.sample_at (problem p) (map (sample_of p) xs) k) (theory.sampled (problem p) chooser depth words k).0
  pub of_model : theory.AreSamplesOf (problem p) depth (map (sample_of p) xs)

-- the chooser after beliefs 1 to k
abbrev pub chooser_after : Parts → Machine → ℕ → List ℕ → ℕ → Machine
chooser_after p chooser depth words k = record { opening = (theory.sampled (problem p) chooser depth words k).1; answer = chooser.answer; after = chooser.after }

-- what a generator and a chooser are after beliefs 1 to k of a count: two words were drawn and one action was chosen for each
pub record StandAfter (p : Parts) (chooser : Machine) (depth count : ℕ) (words : Stream) (k : ℕ) (new_words : Stream) (new_chooser : Machine) : Type 0 where
  pub drawn : new_words ≡ left_after (2 * k) words
  pub chosen : new_chooser ≡ chooser_after p chooser depth (first_words (2 * count) words) k

-- the joint observation that a word draws after an action, at weights; it is one of the model's, and it is seen
pub record IsDrawnObservation (p : Parts) (w : Func) (a word o : ℕ) : Type 0 where
  pub within : o < count_of (sizes_of p.sights)
  pub drawn : o ≡ theory.drawn_observation (problem p) (weights_of p w) a word
  pub seen : IsSome (next_weights (problem p) (weights_of p w) a (point_of (problem p).sight_sizes o))

-- the belief next after an action and the joint observation that a word draws
pub record IsDrawn (p : Parts) (w : Func) (a word : ℕ) (x : Sample) : Type 0 where
  pub action : x.action ≡ a
  pub observed : IsDrawnObservation p w a word x.observation
  pub next : AreNext p w a x.observation x.weights

-- the belief after which belief k + 1 is next: belief k, or belief 0 where the depth divides k
abbrev pub parent_number : ℕ → ℕ → ℕ
parent_number depth k = if k % depth == 0 then 0 else k
