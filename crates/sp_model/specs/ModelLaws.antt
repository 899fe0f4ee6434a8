-- The laws of the problem that a model's parts tell, as the functions of this crate state them.
use Rattle.std.specs.Prelude.{◌^◌, pos, neg_ℤ, ◌≤ℤ◌}
use Rattle.sp_theory.specs.Model.{IsLawful, HasInitial, least_return, top}
use Rattle.sp_model.specs.declared.parts.Parts.{Parts}
use Rattle.sp_model.specs.Problem.{problem}
use Rattle.sp_model.specs.Kept.{IsModel}

-- each row of each table sums to one
abbrev pub ModelsAreLawful : Type 0
ModelsAreLawful = (p : Parts) → IsModel p → IsLawful (problem p)

-- the initial belief is a product of factors of which each sums to one
abbrev pub ModelsHaveInitial : Type 0
ModelsHaveInitial = (p : Parts) → IsModel p → HasInitial (problem p)

-- the least return and the top, in ticks, are within 10^18, and in order
abbrev pub ReturnsAreBounded : Type 0
ReturnsAreBounded = (p : Parts) → IsModel p → (neg_ℤ (pos (10 ^ 18)) ≤ℤ least_return (problem p)) × (least_return (problem p) ≤ℤ top (problem p)) × (top (problem p) ≤ℤ pos (10 ^ 18))
