-- Running totals.
use Rattle.std.specs.Prelude.{ℕ, suc, ◌<◌, ◌≤◌, List, length, take, sum}

-- the first place in a list at which the running total, with it, exceeds a target
pub record Exceeds (totals : List ℕ) (target place : ℕ) : Type 0 where
  pub within : place < length totals
  pub before : sum (take place totals) ≤ target
  pub above : target < sum (take (suc place) totals)
