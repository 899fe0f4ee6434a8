-- The point-based backup at weights (Spaan and Vlassis 2005): as it is made with floors, and exactly.
use Rattle.std.proofs.Common.{◌≡◌, ℕ, suc, ◌+◌, ◌*◌, ◌^◌, List, length, map}
use Rattle.std.specs.Prelude.{ℤ, ◌+ℤ◌}
use Rattle.std.specs.List.{range_with_len}
use Rattle.sp_theory.specs.Sums.{times}
use Rattle.sp_theory.specs.Points.{count_of, point_of, sum_over}
use Rattle.sp_theory.specs.Draws.{q, chance, mean, floored_expectation, thinned}
use Rattle.sp_theory.specs.Model.{Model, Vector}
use Rattle.sp_theory.specs.Step.{step, expected_reward}
use Rattle.sp_theory.specs.Values.{greatest, Weights, Member, leaf_member, Edition, dot}

-- ---- with floors
-- what a vector brings after an action and a joint observation: multiplied by the observation's probabilities, then the next state weighed out
unfoldable pub estimate : Model → Weights → ℕ → List ℕ → Vector → ℤ
estimate m w a seen v = dot m w (λ s. floored_expectation m.sizes (m.moves a s) (λ next. thinned (m.sights a next) seen (v next)))

-- the link of an action and a joint observation: the member of the greatest estimate
unfoldable pub link_at : Model → Edition → Weights → ℕ → List ℕ → Member
link_at m edition w a seen = greatest (leaf_member m) (λ x. estimate m w a seen x.vector) (λ x. x.id) edition

-- the vector of an action with its links
unfoldable pub candidate : Model → Edition → Weights → ℕ → Vector
candidate m edition w a = step m a (λ seen. (link_at m edition w a seen).vector)

-- the action whose vector is the greatest at the weights, of the least number among those
unfoldable pub choice : Model → Edition → Weights → ℕ
choice m edition w = greatest 0 (λ a. dot m w (candidate m edition w a)) (λ a. a) (range_with_len 0 m.actions)

-- the records that the joint observations lead to, in the order of their numbers
unfoldable pub links_at : Model → Edition → Weights → ℕ → List ℕ
links_at m edition w a = map (λ o. (link_at m edition w a (point_of m.sight_sizes o)).id) (range_with_len 0 (count_of m.sight_sizes))

-- the action and the links are the backup at the weights on the edition
abbrev pub IsBackup : Model → Edition → Weights → ℕ → List ℕ → Type 0
IsBackup m edition w action links = (action ≡ choice m edition w) × (links ≡ links_at m edition w action)

-- ---- exactly
-- what a vector brings after an action and a joint observation, over q for each variable
unfoldable pub exact_estimate : Model → Weights → ℕ → List ℕ → Vector → ℤ
exact_estimate m w a seen v = dot m w (λ s. mean m.sizes (m.moves a s) (λ next. times (chance (m.sights a next) seen) (v next)))

-- the member that brings the most
unfoldable pub exact_link : Model → Edition → Weights → ℕ → List ℕ → Member
exact_link m edition w a seen = greatest (leaf_member m) (λ x. exact_estimate m w a seen x.vector) (λ x. x.id) edition

-- an action's worth: expected reward, and for each joint observation the most that a member brings, discounted; over q to the number of divisions
unfoldable pub exact_worth : Model → Edition → Weights → ℕ → ℤ
exact_worth m edition w a =
    times (q ^ suc (length m.sight_sizes)) (dot m w (expected_reward m a))
    +ℤ times m.discount (sum_over m.sight_sizes (λ seen. exact_estimate m w a seen (exact_link m edition w a seen).vector))

-- the greatest worth of an action
unfoldable pub exact_backup : Model → Edition → Weights → ℤ
exact_backup m edition w = exact_worth m edition w (greatest 0 (exact_worth m edition w) (λ a. a) (range_with_len 0 m.actions))

-- K: the ticks that a backup may lose, for each unit of weight
abbrev pub tick_bound : Model → ℕ
tick_bound m = (length m.sizes + length m.sight_sizes) * (count_of m.sight_sizes + 1) + 1
