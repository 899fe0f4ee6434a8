-- Carried weights thinned by the values of a joint observation, and what all joint observations make of them.
use Rattle.std.specs.Prelude.{◌≡◌, ℕ, zero, suc, ◌^◌, ◌<◌, ◌≤◌, pos, ◌≤ℤ◌, List, length, get_or, slice_index_or}
use Rattle.sp_dd.specs.Func.{Func, Everywhere}
use Rattle.sp_dd.specs.Operations.{state_total}
use Rattle.sp_theory.specs.Points.{IsPoint, point_of}
use Rattle.sp_theory.specs.Model.{State}
use Rattle.sp_model.specs.declared.parts.Parts.{Parts}
use Rattle.sp_model.specs.Problem.{no_func, sizes_of, shape_of}
use Rattle.sp_belief.specs.declared.walking.Step.{Step}
use Rattle.sp_belief.specs.Transfers.{HasWeights, AreWeightValues}
use Rattle.sp_belief.specs.Updates.{unscaled_after}
use Rattle.sp_belief.specs.Progress.{IsThinned}

-- what stands past the end of a path
abbrev pub no_step : Step
no_step = record { value = 0; func = no_func }

-- what f is after the first k steps
abbrev pub func_after : Func → List Step → ℕ → Func
func_after f path zero = f
func_after f path (suc k) = (slice_index_or path k no_step).func

-- each step thins what the steps before it made of f
pub record IsPath (p : Parts) (a : ℕ) (f : Func) (path : List Step) : Type 0 where
  pub within : length path ≤ length p.sights
  pub each : (k : ℕ) → k < length path → IsThinned p a k (slice_index_or path k no_step).value (func_after f path k) (slice_index_or path k no_step).func

-- a path of n steps by the first values of a joint observation
pub record LeadsTo (p : Parts) (path : List Step) (o n : ℕ) : Type 0 where
  pub count : length path ≡ n
  pub values : (k : ℕ) → k < n → (slice_index_or path k no_step).value ≡ get_or (point_of (sizes_of p.sights) o) k 0

-- the function that is 0
pub record IsZero (p : Parts) (f : Func) : Type 0 where
  pub shape : f.shape ≡ shape_of p
  pub zero : Everywhere f (λ v. v ≡ pos 0)

-- no state has a weight after a joint observation, before the weights are scaled
abbrev pub HasNoWeight : Parts → Func → ℕ → ℕ → Type 0
HasNoWeight p w a o = (s : State) → IsPoint (sizes_of p.variables) s → unscaled_after p w a o s ≡ 0

-- the next weights after a joint observation, before they are scaled
pub record IsUnscaled (p : Parts) (w : Func) (a o : ℕ) (r : Func) : Type 0 where
  pub has : HasWeights p r (unscaled_after p w a o)
  pub small : AreWeightValues r
  pub few : state_total r ≤ℤ pos (2 ^ 62)

-- those of the first n joint observations
pub record AreUnscaled (p : Parts) (w : Func) (a n : ℕ) (rs : List Func) : Type 0 where
  pub count : length rs ≡ n
  pub each : (o : ℕ) → o < n → IsUnscaled p w a o (slice_index_or rs o no_func)
