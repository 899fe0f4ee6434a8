-- The least and the greatest reward of some actions.
use Rattle.std.specs.Prelude.{◌≡◌, ℕ, ◌<◌, ℤ, ◌≤ℤ◌, List, length, slice_index_or}
use Rattle.sp_dd.specs.Func.{Func, value_of, IsPointOf, Everywhere}
use Rattle.sp_model.specs.declared.parts.ActionPart.{ActionPart}
use Rattle.sp_model.specs.Problem.{no_action}

-- the reward of an action in a list
abbrev pub reward_in : List ActionPart → ℕ → Func
reward_in actions a = (slice_index_or actions a no_action).reward

-- the least reward of the first n actions, which is one of some action
pub record IsLeastReward (actions : List ActionPart) (n : ℕ) (v : ℤ) : Type 0 where
  pub action : ℕ
  pub point : List ℕ
  pub known : action < length actions
  pub inside : IsPointOf (reward_in actions action) point
  pub reached : value_of (reward_in actions action) point ≡ v
  pub bound : (a : ℕ) → a < n → Everywhere (reward_in actions a) (λ u. v ≤ℤ u)

-- the greatest reward of the first n actions, which is one of some action
pub record IsGreatestReward (actions : List ActionPart) (n : ℕ) (v : ℤ) : Type 0 where
  pub action : ℕ
  pub point : List ℕ
  pub known : action < length actions
  pub inside : IsPointOf (reward_in actions action) point
  pub reached : value_of (reward_in actions action) point ≡ v
  pub bound : (a : ℕ) → a < n → Everywhere (reward_in actions a) (λ u. u ≤ℤ v)
