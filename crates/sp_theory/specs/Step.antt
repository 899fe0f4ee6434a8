-- What an action is worth where each joint observation leads to a vector: exactly, and with floors.
use Rattle.std.proofs.Common.{ℕ, suc, ◌^◌, List, length, cond}
use Rattle.std.specs.Prelude.{ℤ, ◌+ℤ◌}
use Rattle.std.specs.Int.{int_max}
use Rattle.sp_theory.specs.Sums.{times, floor}
use Rattle.sp_theory.specs.Draws.{q, mean, floored_expectation}
use Rattle.sp_theory.specs.Model.{Model, Vector, least_return, ignores_next}

-- the vector that each joint observation leads to
abbrev pub LinkedVectors : Type 0
LinkedVectors = List ℕ → Vector

-- the value of the links at a next state, the observation variables weighed out
abbrev pub value_of_links : Model → ℕ → LinkedVectors → Vector
value_of_links m a links next = floored_expectation m.sight_sizes (m.sights a next) (λ seen. links seen next)

-- times the discount, rounded down
abbrev pub discounted_value : Model → ℤ → ℤ
discounted_value m z = floor (times m.discount z) q

-- the floored one-step value. Where the reward ignores the next state, this is weighed out first, then discount and reward follow (the reward is read at next = s);
-- else discount and reward come first. The least return is put under the result
unfoldable pub step : Model → ℕ → LinkedVectors → Vector
step m a links s =
    int_max (least_return m) (cond (ignores_next m a)
    (m.reward a s s +ℤ discounted_value m (floored_expectation m.sizes (m.moves a s) (value_of_links m a links)))
    (floored_expectation m.sizes (m.moves a s) (λ next. m.reward a s next +ℤ discounted_value m (value_of_links m a links next))))

-- the expected reward of an action at a state, over q for each state variable
abbrev pub expected_reward : Model → ℕ → Vector
expected_reward m a s = mean m.sizes (m.moves a s) (m.reward a s)

-- the expected value of the links, over q for each variable
abbrev pub expected_links : Model → ℕ → LinkedVectors → Vector
expected_links m a links s = mean m.sizes (m.moves a s) (λ next. mean m.sight_sizes (m.sights a next) (λ seen. links seen next))

-- the exact one-step value: expected reward plus discounted expected value of the links, over q to the number of divisions
unfoldable pub exact_step : Model → ℕ → LinkedVectors → Vector
exact_step m a links s = times (q ^ suc (length m.sight_sizes)) (expected_reward m a s) +ℤ times m.discount (expected_links m a links s)
