-- Belief updates and samples, worked out.
use Rattle.std.proofs.Common.{◌≡◌, ℕ, ◌^◌, List, [], ◌∷◌, refl, map, Some}
use Rattle.std.specs.Prelude.{option_map}
use Rattle.sp_theory.specs.Sums.{sum_below, holds_below}
use Rattle.sp_theory.specs.Points.{point_of, sum_over, holds_over}
use Rattle.sp_theory.specs.Draws.{q, thinned}
use Rattle.sp_theory.specs.Values.{Weights, dot}
use Rattle.sp_theory.specs.Scaling.{greatest_power, scaled_weights}
use Rattle.sp_theory.specs.Beliefs.{unscaled_initial, initial_weights, ignores, all_summed_out, carried, moved, unscaled_next, next_weights}
use Rattle.sp_theory.specs.Samples.{Sample, total_seen, drawn_observation, sample_after, sampled, samples}
use Rattle.sp_theory.specs.ExampleModels.{tiger, ever_one, uniform_chooser}

-- the weights of the two doors
abbrev doors : Weights → List ℕ
doors w = w (0 ∷ []) ∷ w (1 ∷ []) ∷ []

-- the initial weights of the tiger problem
initial : doors (initial_weights tiger) ≡ 2 ^ 61 ∷ 2 ^ 61 ∷ []
unfolding tiger unscaled_initial scaled_weights greatest_power dot sum_over sum_below q
initial = refl

-- they listen, and hear the tiger on the left: a total of 2^61 - 1 before scaling
heard_left : (doors (unscaled_next tiger (initial_weights tiger) 0 (0 ∷ [])) ≡ 1959966557831639859 ∷ 345876451382054092 ∷ [])
    × (option_map doors (next_weights tiger (initial_weights tiger) 0 (0 ∷ [])) ≡ Some (3919933115663279718 ∷ 691752902764108184 ∷ []))
unfolding tiger unscaled_initial scaled_weights greatest_power dot sum_over sum_below q unscaled_next next_weights moved carried all_summed_out ignores thinned holds_below holds_over
heard_left = (refl, refl)

-- they open the left door, and what is heard says nothing
opened_left : (doors (unscaled_next tiger (initial_weights tiger) 1 (1 ∷ [])) ≡ 2 ^ 60 ∷ 2 ^ 60 ∷ [])
    × (option_map doors (next_weights tiger (initial_weights tiger) 1 (1 ∷ [])) ≡ Some (2 ^ 61 ∷ 2 ^ 61 ∷ []))
unfolding tiger unscaled_initial scaled_weights greatest_power dot sum_over sum_below q unscaled_next next_weights moved carried all_summed_out ignores thinned holds_below holds_over
opened_left = (refl, refl)

-- the parts of a sample
abbrev parts : Sample → ℕ × ℕ × ℕ
parts x = (x.action, x.observation, x.weights (0 ∷ []))

-- three samples of the model of one state
three_samples : map parts (samples ever_one uniform_chooser 2 (7 ∷ 8 ∷ 9 ∷ 10 ∷ []) 3) ≡ (0, 0, 2 ^ 62) ∷ (0, 0, 2 ^ 62) ∷ (0, 0, 2 ^ 62) ∷ []
unfolding ever_one sampled sample_after drawn_observation total_seen point_of unscaled_initial scaled_weights greatest_power dot sum_over sum_below q unscaled_next next_weights moved carried all_summed_out ignores thinned holds_below holds_over
three_samples = refl
