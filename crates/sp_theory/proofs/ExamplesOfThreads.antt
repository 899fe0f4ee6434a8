-- The run of one thread, worked out: dominated members, the pairs that apply, and the events.
use Rattle.std.proofs.Common.{◌≡◌, [], ◌∷◌, refl, false, true, get_or, cond, eqb}
use Rattle.std.specs.Prelude.{pos}
use Rattle.sp_theory.specs.Sums.{sum_below, least_below, holds_below}
use Rattle.sp_theory.specs.Points.{point_of, sum_over, least_over, holds_over}
use Rattle.sp_theory.specs.Draws.{q, floored_expectation, thinned}
use Rattle.sp_theory.specs.Model.{least_reward, least_return, ignores_next}
use Rattle.sp_theory.specs.Step.{step}
use Rattle.sp_theory.specs.Plan.{leaf, record_at, link_of}
use Rattle.sp_theory.specs.Values.{greatest, greatest_from, leaf_member, Edition, dot, greatest_member, value}
use Rattle.sp_theory.specs.Backup.{estimate, link_at, candidate, choice, links_at}
use Rattle.sp_theory.specs.Book.{Task, settle, publish, end, opening, entering, entered, after_event}
use Rattle.sp_theory.specs.Runs.{replay}
use Rattle.sp_theory.specs.OneThread.{nowhere_above, yields, least_id, dominated, applying, open_beliefs, picked, settled_at, all_improved, pruning_events, due_events, turn, marks_after, one_thread}
use Rattle.sp_theory.specs.ExampleModels.{tiger}

-- two members of equal vectors
abbrev equal_pair : Edition
equal_pair =
    record { id = 3; action = 0; vector = λ s. pos 0 }
    ∷ record { id = 4; action = 0; vector = λ s. pos 0 }
    ∷ []

-- of two equal members the one of the greater id goes, and once it has gone the other stays
equal_members : (dominated tiger equal_pair ≡ (4, 3) ∷ []) × (applying equal_pair ((4, 3) ∷ (3, 4) ∷ []) ≡ (4, 3) ∷ [])
unfolding dominated yields nowhere_above least_id applying holds_over holds_below tiger
equal_members = (refl, refl)

-- two stages of the tiger problem at one belief: it settles, publishes, settles on the next edition, publishes and ends; a further word is not needed
abbrev task : Task
task = record { model = tiger; beliefs = 1; samples = λ k s. 2305843009213693952; stages = 2 }

tiger_alone : one_thread task false (opening task) (λ k. false) (7 ∷ 8 ∷ 9 ∷ []) ≡ settle 0 0 0 (0 ∷ 0 ∷ []) ∷ publish ∷ settle 0 1 0 (1 ∷ 1 ∷ []) ∷ publish ∷ end ∷ []
unfolding one_thread turn due_events marks_after settled_at picked open_beliefs all_improved replay after_event opening entering entered value greatest_member choice links_at greatest greatest_from candidate link_at estimate thinned dot tiger leaf leaf_member record_at link_of step ignores_next least_return least_reward least_over least_below floored_expectation sum_below sum_over holds_over holds_below point_of q
tiger_alone = refl

-- two stages at two beliefs, with pruning: the tiger is left for sure at one, right for sure at the other. One backup improves both beliefs in the first stage,
-- each takes one of its own in the second, and no member is dominated
abbrev known_doors : Task
known_doors = record { model = tiger; beliefs = 2; samples = λ k s. cond (eqb k (get_or s 0 0)) 2305843009213693952 0; stages = 2 }

both_doors :
    one_thread known_doors true (opening known_doors) (λ k. false) (1 ∷ 0 ∷ 0 ∷ [])
    ≡ settle 1 0 1 (0 ∷ 0 ∷ []) ∷ publish ∷ settle 0 1 2 (1 ∷ 1 ∷ []) ∷ settle 1 1 0 (1 ∷ 1 ∷ []) ∷ publish ∷ end ∷ []
unfolding one_thread turn due_events pruning_events dominated yields nowhere_above least_id applying marks_after settled_at picked open_beliefs all_improved replay after_event opening entering entered value greatest_member choice links_at greatest greatest_from candidate link_at estimate thinned dot tiger leaf leaf_member record_at link_of step ignores_next least_return least_reward least_over least_below floored_expectation sum_below sum_over holds_over holds_below point_of q
both_doors = refl
