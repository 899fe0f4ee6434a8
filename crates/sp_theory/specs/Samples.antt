-- The sampled beliefs of a run: from the initial belief, by the actions of a chooser and by drawn observations.
use Rattle.std.proofs.Common.{◌≡◌, ℕ, zero, suc, ◌+◌, ◌*◌, ◌%◌, ◌<◌, List, length, get_or, map, Some, eqb, cond}
use Rattle.std.specs.Prelude.{unwrap_or, nat_lt, sum_by}
use Rattle.std.specs.List.{range_with_len, find}
use Rattle.sp_theory.specs.Points.{count_of, point_of}
use Rattle.sp_theory.specs.Model.{Model}
use Rattle.sp_theory.specs.Values.{Weights}
use Rattle.sp_theory.specs.Agreement.{WeightsAgree, NextAgree}
use Rattle.sp_theory.specs.Scaling.{total_weight}
use Rattle.sp_theory.specs.Beliefs.{initial_weights, unscaled_next, next_weights}

-- what chooses the actions, with states of its own
pub record Chooser (S : Type 0) : Type 0 where
  pub opening : S
  -- the action, in a state for a depth, a number of actions and a word
  pub answer : S → ℕ → ℕ → ℕ → ℕ
  -- the state after that answer
  pub after : S → ℕ → ℕ → ℕ → S

-- a belief with the action and the joint observation, by number, that led to it
pub record Sample : Type 0 where
  pub action : ℕ
  pub observation : ℕ
  pub weights : Weights

-- ---- the observation
-- the total of the next weights before scaling after an action and the joint observation of that number
unfoldable pub total_seen : Model → Weights → ℕ → ℕ → ℕ
total_seen m w a o = total_weight m (unscaled_next m w a (point_of m.sight_sizes o))

-- the sum of those totals over the joint observations below a number
abbrev pub running_total : Model → Weights → ℕ → ℕ → ℕ
running_total m w a o = sum_by (total_seen m w a) (range_with_len 0 o)

-- S: the sum over all joint observations
abbrev pub whole_total : Model → Weights → ℕ → ℕ
whole_total m w a = running_total m w a (count_of m.sight_sizes)

-- the least joint observation at which the running total, with it, exceeds the word modulo S
unfoldable pub drawn_observation : Model → Weights → ℕ → ℕ → ℕ
drawn_observation m w a word =
    unwrap_or (find (λ o. nat_lt (word % whole_total m w a) (running_total m w a (suc o))) (range_with_len 0 (count_of m.sight_sizes))) 0

-- ---- the samples
-- belief 0 of all samples: the initial one
abbrev pub first_sample : Model → Sample
first_sample m = record { action = 0; observation = 0; weights = initial_weights m }

-- the sample of an action and a word for the observation, at the parent's weights
unfoldable pub sample_after : Model → Weights → ℕ → ℕ → Sample
sample_after m w a word =
    let o = drawn_observation m w a word in
    record { action = a; observation = o; weights = unwrap_or (next_weights m w a (point_of m.sight_sizes o)) w }

-- the weights of the parent of belief k + 1, where those of belief k are given: belief k, or belief 0 where depth divides k
abbrev pub parent_weights : Model → ℕ → ℕ → Weights → Weights
parent_weights m depth k last = cond (eqb (k % depth) 0) (initial_weights m) last

-- belief k, with the state of the chooser after it. Two words are drawn for each belief above 0, the first for the action and the second for the observation; words past the list are read as 0
unfoldable pub sampled : {S : Type 0} → Model → Chooser S → ℕ → List ℕ → ℕ → Sample × S
sampled m chooser depth words zero = (first_sample m, chooser.opening)
sampled m chooser depth words (suc k) =
    let last = sampled m chooser depth words k in
    let parent = parent_weights m depth k last.0.weights in
    let word = get_or words (2 * k) 0 in (
      sample_after m parent (chooser.answer last.1 (k % depth) m.actions word) (get_or words (2 * k + 1) 0),
      chooser.after last.1 (k % depth) m.actions word,
    )

-- the samples of a count
abbrev pub samples : {S : Type 0} → Model → Chooser S → ℕ → List ℕ → ℕ → List Sample
samples m chooser depth words count = map (λ k. (sampled m chooser depth words k).0) (range_with_len 0 count)

-- ---- samples of a model
-- sample k; past the list, belief 0
abbrev pub sample_at : Model → List Sample → ℕ → Sample
sample_at m xs k = get_or xs k (first_sample m)

-- the sample is belief 0
pub record IsFirstSample (m : Model) (x : Sample) : Type 0 where
  pub action : x.action ≡ 0
  pub observation : x.observation ≡ 0
  pub weights : WeightsAgree m x.weights (initial_weights m)

-- the sample is next after a parent's weights: its weights are the next ones after its action and its joint observation, which are the model's
pub record IsNextSample (m : Model) (parent : Weights) (x : Sample) : Type 0 where
  pub known : x.action < m.actions
  pub seen : x.observation < count_of m.sight_sizes
  pub next : NextAgree m (next_weights m parent x.action (point_of m.sight_sizes x.observation)) (Some x.weights)

-- samples of a model at a depth: belief 0 comes first, and each later one is next after its parent
pub record AreSamplesOf (m : Model) (depth : ℕ) (xs : List Sample) : Type 0 where
  pub first : 0 < length xs → IsFirstSample m (sample_at m xs 0)
  pub later : (k : ℕ) → suc k < length xs → IsNextSample m (parent_weights m depth k (sample_at m xs k).weights) (sample_at m xs (suc k))
