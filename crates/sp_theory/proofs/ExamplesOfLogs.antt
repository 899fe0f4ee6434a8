-- A session's log, worked out.
use Rattle.std.proofs.Common.{List, [], ◌∷◌, refl, arith}
use Rattle.sp_theory.specs.Sums.{sum_below, least_below, holds_below}
use Rattle.sp_theory.specs.Points.{point_of, sum_over, least_over, holds_over}
use Rattle.sp_theory.specs.Draws.{q, floored_expectation, thinned}
use Rattle.sp_theory.specs.Model.{least_reward, least_return, ignores_next}
use Rattle.sp_theory.specs.Step.{step}
use Rattle.sp_theory.specs.Plan.{leaf}
use Rattle.sp_theory.specs.Values.{Edition, leaf_member, dot, greatest, greatest_from, greatest_member}
use Rattle.sp_theory.specs.Scaling.{greatest_power, scaled_weights}
use Rattle.sp_theory.specs.Beliefs.{unscaled_initial, ignores, all_summed_out, carried, moved, unscaled_next, next_weights}
use Rattle.sp_theory.specs.Logs.{told, act, observe, unseen, closing, MayEnter, after_entry, opening_session, IsLog, session_after, IsLegalLog}
use Rattle.sp_theory.specs.ExampleModels.{clear_tiger}

-- three editions of one member each: nothing is planned, and the tiger is listened for once and twice
abbrev three_editions : List Edition
three_editions =
    (leaf_member clear_tiger ∷ [])
    ∷ (record { id = 1; action = 0; vector = step clear_tiger 0 (λ seen. (leaf clear_tiger).vector) } ∷ [])
    ∷ (record { id = 2; action = 0; vector = step clear_tiger 0 (λ seen. step clear_tiger 0 (λ again. (leaf clear_tiger).vector)) } ∷ [])
    ∷ []

-- where listening never errs, the tiger cannot be heard on the right after it was heard on the left
log : IsLegalLog clear_tiger three_editions (told 1 ∷ act 1 1 0 ∷ observe 0 ∷ act 2 2 0 ∷ unseen 1 ∷ act 2 2 0 ∷ closing 2 2 0 ∷ [])
unfolding clear_tiger MayEnter after_entry opening_session IsLog session_after greatest_member greatest greatest_from dot leaf leaf_member step ignores_next least_return least_reward least_over least_below floored_expectation sum_below sum_over holds_over holds_below point_of unscaled_initial scaled_weights greatest_power unscaled_next next_weights moved carried all_summed_out ignores thinned q
log = (
  (
    (refl, omega arith, omega arith),
    (
      (refl, omega arith, (_, refl, refl, refl)),
      (
        (refl, omega arith, refl),
        (
          (refl, omega arith, (_, refl, refl, refl)),
          (
            (refl, omega arith, refl, refl),
            (
              (refl, omega arith, (_, refl, refl, refl)),
              ((refl, omega arith, refl, (_, refl, refl, refl)), tt),
            ),
          ),
        ),
      ),
    ),
  ),
  refl,
)
