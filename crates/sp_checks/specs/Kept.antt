-- What holds while a text is read.
use Rattle.std.specs.Prelude.{◌≡◌, ◌≢◌, ℕ, ◌+◌, ◌*◌, ◌<◌, ◌≤◌, List, map, length, slice_index_or, Option, IfSome, All, AllPairs, Contains}
use Rattle.sp_dd.specs.Func.{Shape, Func, IsIndependentOf}
use Rattle.sp_model.specs.declared.parts.Factor.{Factor}
use Rattle.sp_model.specs.Words.{IsModelName}
use Rattle.sp_model.specs.Kept.{IsTransitionTable, IsSight, IsFactor, AreDifferent, all_own}
use Rattle.sp_model.specs.Problem.{no_func}
use Rattle.sp_rows.specs.declared.tables.Table.{Table}
use Rattle.sp_rows.specs.declared.tables.Table.TheVariants as table
use Rattle.sp_trees.specs.declared.env.Env.{Env}
use Rattle.sp_trees.specs.Good.{IsEnv, IsFit}
use Rattle.sp_declarations.specs.Kept.{AreDeclared}
use Rattle.sp_checks.specs.declared.items.Listed.{Listed}
use Rattle.sp_checks.specs.declared.state.Draft.{Draft}
use Rattle.sp_checks.specs.declared.state.State.{State}

-- the names fit the scope, and the declarations keep the limits
pub record IsFitEnv (env : Env) : Type 0 where
  pub env_kept : IsEnv env
  pub declared : AreDeclared env.variables env.sights

-- ---- tables
-- there is such a variable
abbrev pub IsTableOf : Env → Table → Type 0
IsTableOf env (table.Move i) = i < length env.variables
IsTableOf env (table.Sight j) = j < length env.sights

-- a reward or a cost: within 10^18, and free of observation variables
pub record IsRewardFunction (s : Shape) (f : Func) : Type 0 where
  pub fit : IsFit s f
  pub not_seen : (j : ℕ) → 2 * s.variables + j < length s.sizes → IsIndependentOf f (2 * s.variables + j)

-- the items of an action so far: a table for some of its variables
pub record IsListing (env : Env) (l : Listed) : Type 0 where
  pub moves_count : length l.moves ≡ length env.variables
  pub sights_count : length l.sights ≡ length env.sights
  pub moves : (i : ℕ) (d : Option Func) → i < length l.moves → IfSome (slice_index_or l.moves i d) (IsTransitionTable env.scope i)
  pub sights : (j : ℕ) (d : Option Func) → j < length l.sights → IfSome (slice_index_or l.sights j d) (IsSight env.scope j)
  pub cost : IfSome l.cost (IsRewardFunction env.scope)

-- an action: a table for each variable
pub record IsActionDraft (s : Shape) (d : Draft) : Type 0 where
  pub name : IsModelName d.name
  pub cost : IfSome d.cost (IsRewardFunction s)
  pub moves_count : length d.moves ≡ s.variables
  pub moves : (i : ℕ) → i < s.variables → IsTransitionTable s i (slice_index_or d.moves i no_func)
  pub sights_count : 2 * s.variables + length d.sights ≡ length s.sizes
  pub sights : (j : ℕ) → j < length d.sights → IsSight s j (slice_index_or d.sights j no_func)

-- ---- the initial belief
-- each factor is one of its own variables, and each variable is in one factor
pub record AreFactors (s : Shape) (fs : List Factor) : Type 0 where
  pub each : All (IsFactor s) fs
  pub apart : AllPairs (λ i j. i ≢ j) (all_own fs)
  pub every : (i : ℕ) → i < s.variables → Contains (all_own fs) i

-- ---- all that was read
pub record IsReadingState (s : State) : Type 0 where
  pub env : IsFitEnv s.env
  pub names : s.names ≡ map (λ d. d.name) s.actions
  pub different : AreDifferent s.names
  pub few : length s.actions ≤ 256
  pub actions : All (IsActionDraft s.env.scope) s.actions
  pub init : IfSome s.init (AreFactors s.env.scope)
  pub reward : IfSome s.reward (IsRewardFunction s.env.scope)
  pub discount : IfSome s.discount (λ g. g ≤ 999000000)
