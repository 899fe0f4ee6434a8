-- Actions by what they promise at weights.
use Rattle.std.specs.Prelude.{◌≡◌, ℕ, ◌*◌, ◌^◌, ◌<◌, ◌≤◌, ℤ, length, unsigned_abs, IfSome}
use Rattle.sp_theory.specs.Sums.{floor, sum_below}
use Rattle.sp_theory.specs.Points.{count_of, point_of}
use Rattle.sp_theory.specs.Draws.{q}
use Rattle.sp_theory.specs.Step.{LinkedVectors}
use Rattle.sp_theory.specs.Values as theory
use Rattle.sp_theory.specs.Backup.{link_at}
use Rattle.sp_bounds.specs.Bounds.{promise}
use Rattle.sp_model.specs.Problem.{sizes_of, problem}
use Rattle.sp_value.specs.Editions.{EditionParts, members_in}
use Rattle.sp_backup.specs.declared.linking.ActionLinks.{ActionLinks}
use Rattle.sp_backup.specs.declared.promises.PromisedAction.{PromisedAction}
use Rattle.sp_backup.specs.Choosing.{AreLinks}
use Rattle.sp_backup.specs.Posteriors.{unscaled_weights}
use Rattle.sp_backup.specs.Trials.{IsActionVector}

-- what the link of a joint observation brings, over q
abbrev pub share_of : EditionParts → theory.Weights → ℕ → ℕ → ℤ
share_of e w a o = floor (theory.dot (problem e.task.model) (unscaled_weights e w a o) (link_at (problem e.task.model) (members_in e) w a (point_of (sizes_of e.task.model.sights) o)).vector) q

-- the links of the first n joint observations
pub record AreActionLinks (e : EditionParts) (w : theory.Weights) (a n : ℕ) (x : ActionLinks) : Type 0 where
  pub links : AreLinks e w a n x.places
  pub future : x.future ≡ sum_below n (share_of e w a)
  pub small : unsigned_abs x.future ≤ n * 2 ^ 93

-- the links of an action as vectors
abbrev pub chosen_links : EditionParts → theory.Weights → ℕ → LinkedVectors
chosen_links e w a seen = (link_at (problem e.task.model) (members_in e) w a seen).vector

-- an action with its links and what it promises, and with its vector where that was made
pub record IsPromisedAction (e : EditionParts) (w : theory.Weights) (x : PromisedAction) : Type 0 where
  pub known : x.action < length e.task.model.actions
  pub links : AreLinks e w x.action (count_of (sizes_of e.task.model.sights)) x.places
  pub promised : x.promise ≡ promise (problem e.task.model) w x.action (chosen_links e w x.action)
  pub small : unsigned_abs x.promise ≤ 2 ^ 108
  pub made : IfSome x.made (IsActionVector e w x.action)
