-- The range of the returns is within a billion.
use Rattle.std.proofs.Common.{ℕ, ◌^◌, ◌<◌, ◌≤◌, arith, List, [], length}
use Rattle.std.specs.Prelude.{pos, neg_ℤ, ◌≤ℤ◌, unsigned_abs}
use Rattle.std.proofs.lemmas.Int.{ints}
use Rattle.sp_theory.specs.Points as theory
use Rattle.sp_theory.specs.Model.{least_return, top}
use Rattle.sp_theory.proofs.Range.{least_return_bound, top_bound, least_return-le-top}
use Rattle.sp_dd.specs.Func.{value_of}
use Rattle.sp_model.specs.declared.parts.Parts.{Parts}
use Rattle.sp_model.specs.Problem.{sizes_of, point_of, problem, reward_of}
use Rattle.sp_model.specs.Kept.{IsModel}
use Rattle.sp_model.proofs.RowLaw.{problem_lawful}
use Rattle.sp_model.proofs.RewardRange.{action_at, state_point, reward_point, some_states}

module _ (p : Parts) (known : IsModel p) where
  small_at : (a : ℕ) (s next : List ℕ) → a < length p.actions → theory.IsPoint (sizes_of p.variables) s → theory.IsPoint (sizes_of p.variables) next → unsigned_abs (value_of (reward_of p a) (point_of p s next [])) ≤ 10 ^ 15
  small_at a s next less at to = (action_at p known a less).reward.small (point_of p s next []) (reward_point p known a less _ (state_point p known s next at to))

  pub least_return_from : neg_ℤ (pos (10 ^ 18)) ≤ℤ least_return (problem p)
  unfolding problem
  least_return_from = least_return_bound (problem p) (problem_lawful p known) (some_states p known) known.discount (10 ^ 15) (λ a s next less at to. let small = small_at a s next less at to in omega (arith, ints, small))

  pub top_to : top (problem p) ≤ℤ pos (10 ^ 18)
  unfolding problem
  top_to = top_bound (problem p) (problem_lawful p known) (some_states p known) known.discount (10 ^ 15) (λ a s next less at to. let small = small_at a s next less at to in omega (arith, ints, small))

  pub least_return_to : least_return (problem p) ≤ℤ top (problem p)
  least_return_to = least_return-le-top (problem p) (problem_lawful p known)
