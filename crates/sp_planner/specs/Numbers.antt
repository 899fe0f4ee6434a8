-- The value of an edition at the initial belief.
use Rattle.std.specs.Prelude.{ℤ, List, map}
use Rattle.sp_theory.specs.Sums.{floor}
use Rattle.sp_theory.specs.Values.{Edition, value}
use Rattle.sp_theory.specs.Book.{editions}
use Rattle.sp_theory.specs.Scaling.{total_weight}
use Rattle.sp_model.specs.Problem.{problem}
use Rattle.sp_value.specs.Tasks.{TaskParts, weights_at}
use Rattle.sp_core.specs.Books.{BookParts, state_of}

-- in ticks, rounded down
abbrev pub value_at_first : TaskParts → Edition → ℤ
value_at_first t edition = floor (value (problem t.model) edition (weights_at t 0)) (total_weight (problem t.model) (weights_at t 0))

-- of each edition of a book
abbrev pub values_at_first : BookParts → List ℤ
values_at_first b = map (value_at_first b.task) (editions (state_of b))
