-- The value of an edition at the initial belief.
use Rattle.std.specs.Prelude.{ℤ}
use Rattle.sp_theory.specs.Sums.{floor}
use Rattle.sp_theory.specs.Values.{Edition, value}
use Rattle.sp_theory.specs.Scaling.{total_weight}
use Rattle.sp_model.specs.Problem.{problem}
use Rattle.sp_value.specs.Tasks.{TaskParts, weights_at}
use Rattle.sp_value.specs.Editions.{EditionParts, members_in}

-- in ticks, rounded down
abbrev pub value_at_first : TaskParts → Edition → ℤ
value_at_first t edition = floor (value (problem t.model) edition (weights_at t 0)) (total_weight (problem t.model) (weights_at t 0))

-- of an edition of its own task
abbrev pub own_value : EditionParts → ℤ
own_value e = value_at_first e.task (members_in e)
