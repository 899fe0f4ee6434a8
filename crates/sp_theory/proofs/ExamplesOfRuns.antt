-- Runs, worked out: least returns, vectors, editions, legality and promptness.
use Rattle.std.proofs.Common.{◌≡◌, ℕ, suc, ◌<◌, List, [], ◌∷◌, refl, map, arith, true, false}
use Rattle.std.specs.Prelude.{ℤ, pos}
use Rattle.sp_theory.specs.Sums.{sum_below, least_below, greatest_below, holds_below}
use Rattle.sp_theory.specs.Points.{point_of, sum_over, least_over, greatest_over, holds_over}
use Rattle.sp_theory.specs.Draws.{q, floored_expectation, thinned}
use Rattle.sp_theory.specs.Model.{Model, Vector, least_reward, greatest_reward, least_return, top, ignores_next}
use Rattle.sp_theory.specs.Step.{step}
use Rattle.sp_theory.specs.Plan.{leaf, record_at, link_of}
use Rattle.sp_theory.specs.Values.{leaf_member, dot, greatest, greatest_from, greatest_member, value}
use Rattle.sp_theory.specs.Backup.{estimate, link_at, candidate, choice, links_at, tick_bound}
use Rattle.sp_theory.specs.Scaling.{greatest_power, scaled_weights}
use Rattle.sp_theory.specs.Beliefs.{unscaled_initial, initial_weights}
use Rattle.sp_theory.specs.Book.{Task, Event, settle, publish, end, opening, editions, entering, entered, Allowed, after_event}
use Rattle.sp_theory.specs.Runs.{IsHistory, replay, IsLegal, IsPrompt}
use Rattle.sp_theory.specs.ExampleModels.{tiger, myopic_tiger, ever_minus_one, large_prize, small_prize, minus}

-- ---- least returns and tops, rounded outwards, and the ticks that a backup may lose
ranges : (least_return tiger ≡ minus 2000000000000) × (top tiger ≡ pos 200000000000) × (tick_bound tiger ≡ 7) × (least_return ever_minus_one ≡ minus 3333333334)
unfolding tiger ever_minus_one least_return top least_reward greatest_reward least_over greatest_over least_below greatest_below q
ranges = (refl, refl, refl, refl)

-- ---- runs of one belief
-- the task of planning for the initial belief alone
abbrev task_of : Model → ℕ → Task
task_of m stages = record { model = m; beliefs = 1; samples = λ k. initial_weights m; stages = stages }

-- one stage: a backup that is published
abbrev one_stage : List ℕ → List Event
one_stage links = settle 0 0 0 links ∷ publish ∷ end ∷ []

-- two stages
abbrev two_stages : List ℕ → List ℕ → List Event
two_stages links later = settle 0 0 0 links ∷ publish ∷ settle 0 1 0 later ∷ publish ∷ end ∷ []

-- the vector at each of two states
abbrev at_both : Vector → ℤ × ℤ
at_both v = (v (0 ∷ []), v (1 ∷ []))

-- the vectors of the records after the run
abbrev vectors_of : Model → ℕ → List Event → List (ℤ × ℤ)
vectors_of m stages run = map (λ r. at_both r.vector) (replay (task_of m stages) (opening (task_of m stages)) run).records

-- the ids of the members of each edition after the run
abbrev editions_of : Model → ℕ → List Event → List (List ℕ)
editions_of m stages run = map (λ edition. map (λ x. x.id) edition) (editions (replay (task_of m stages) (opening (task_of m stages)) run))

-- two stages of the tiger problem: they listen, and listen again
tiger_run : (vectors_of tiger 2 (two_stages (0 ∷ 0 ∷ []) (1 ∷ 1 ∷ [])) ≡ (minus 2000000000000, minus 2000000000000) ∷ (minus 1901000000000, minus 1901000000000) ∷ (minus 1806950000000, minus 1806950000000) ∷ [])
    × (editions_of tiger 2 (two_stages (0 ∷ 0 ∷ []) (1 ∷ 1 ∷ [])) ≡ (0 ∷ []) ∷ (1 ∷ []) ∷ (2 ∷ []) ∷ [])
unfolding replay after_event opening entering entered value greatest_member greatest greatest_from dot tiger leaf leaf_member record_at link_of step ignores_next least_return least_reward least_over least_below floored_expectation sum_below sum_over holds_over holds_below unscaled_initial scaled_weights greatest_power q
tiger_run = (refl, refl)

-- to open the left door is better than to listen where the tiger is behind the right one, and less at the initial belief
open_left : at_both (step tiger 1 (λ seen. (leaf tiger).vector)) ≡ (minus 2000000000000, minus 1890000000000)
unfolding tiger leaf step ignores_next least_return least_reward least_over least_below floored_expectation sum_below holds_over holds_below q
open_left = refl

-- the backup of each settle is the one that the definition gives
tiger_legal : IsLegal (task_of tiger 2) (two_stages (0 ∷ 0 ∷ []) (1 ∷ 1 ∷ []))
unfolding IsHistory Allowed replay after_event opening entering entered value greatest_member choice links_at greatest greatest_from candidate link_at estimate thinned dot tiger leaf leaf_member record_at link_of step ignores_next least_return least_reward least_over least_below floored_expectation sum_below sum_over holds_over holds_below point_of unscaled_initial scaled_weights greatest_power q
tiger_legal = (((refl, omega arith, omega arith, (refl, refl)), ((refl, λ k less. refl), ((refl, omega arith, omega arith, (refl, refl)), ((refl, λ k less. refl), ((refl, refl), tt))))), refl)

-- without a future the least reward is the least return, and a vector is its action's reward
myopic : (least_return myopic_tiger ≡ minus 100000000000) × (vectors_of myopic_tiger 1 (one_stage (0 ∷ 0 ∷ [])) ≡ (minus 100000000000, minus 100000000000) ∷ (minus 1000000000, minus 1000000000) ∷ [])
unfolding replay after_event opening entering entered value greatest_member greatest greatest_from dot myopic_tiger leaf leaf_member record_at link_of step ignores_next least_return least_reward least_over least_below floored_expectation sum_below sum_over holds_over holds_below unscaled_initial scaled_weights greatest_power q
myopic = (refl, refl)

-- the reward on the next state is weighed out after the discount; and half a tick is none
prize_vectors : (tick_bound large_prize ≡ 5)
    × (vectors_of large_prize 2 (two_stages (0 ∷ []) (1 ∷ [])) ≡ (pos 0, pos 0) ∷ (pos 1500000000, pos 1500000000) ∷ (pos 2250000000, pos 2250000000) ∷ [])
    × (vectors_of small_prize 1 (one_stage (0 ∷ [])) ≡ (pos 0, pos 0) ∷ (pos 0, pos 0) ∷ [])
unfolding replay after_event opening entering entered value greatest_member greatest greatest_from dot large_prize small_prize leaf leaf_member record_at link_of step ignores_next least_return least_reward least_over least_below floored_expectation sum_below sum_over holds_over holds_below unscaled_initial scaled_weights greatest_power q
prize_vectors = (refl, refl, refl)

-- a publish comes as soon as the flag is up, and the end as soon as no stage is left
tiger_prompt : IsPrompt (task_of tiger 2) (opening (task_of tiger 2)) (two_stages (0 ∷ 0 ∷ []) (1 ∷ 1 ∷ []))
unfolding IsPrompt after_event opening entering entered value greatest_member greatest greatest_from dot tiger leaf leaf_member record_at link_of step ignores_next least_return least_reward least_over least_below floored_expectation sum_below sum_over holds_over holds_below unscaled_initial scaled_weights greatest_power q
tiger_prompt = (
  down,
  none_left,
  (λ up. refl, none_left, (down, none_left, (λ up. refl, none_left, (down, λ left. refl, tt)))),
)
  where
    -- the flag is down
    down : {P : Type 0} → ((k : ℕ) → k < 1 → false ≡ true) → P
    down up = absurd (let h = up 0 (omega arith) in cc)

    -- a stage is left
    none_left : {P : Type 0} {n : ℕ} → suc n ≡ 0 → P
    none_left h = absurd (omega (arith, h))
