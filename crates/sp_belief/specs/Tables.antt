-- The tables of an action, made ready for all weights.
use Rattle.std.specs.Prelude.{◌≡◌, ◌==◌, ◌+◌, ◌*◌, ◌<◌, ℕ, List, [], length, get_or, slice_index, slice_index_or}
use Rattle.sp_dd.specs.Func.{Func}
use Rattle.sp_dd.specs.Operations.{restriction}
use Rattle.sp_ddops.specs.Diagonals.{IsIdentity}
use Rattle.sp_model.specs.declared.parts.Parts.{Parts}
use Rattle.sp_model.specs.Problem.{no_func, sizes_of, sight_of, move_of, problem}
use Rattle.sp_belief.specs.declared.tables.ActionTables.{ActionTables}
use Rattle.sp_belief.specs.Progress.{goes}

-- a variable is summed out at that table, and at no other one
abbrev pub IsLastTable : Parts → ℕ → ℕ → ℕ → Type 0
IsLastTable p a v last = (table : ℕ) → table < length p.variables → goes (problem p) a table v ≡ (last == table)

-- the tables at which the first n variables are summed out
pub record AreLastTables (p : Parts) (a n : ℕ) (last : List ℕ) : Type 0 where
  pub count : length last ≡ n
  pub each : (v : ℕ) → v < n → IsLastTable p a v (slice_index last v)

-- one variable, and no other one, has that table for its last
abbrev pub IsAlone : List ℕ → ℕ → Type 0
IsAlone last table = (v : ℕ) → v < length last → (slice_index last v == table) ≡ (v == table)

-- a variable keeps its value, and it alone is summed out at its table
pub record IsKeptTable (p : Parts) (a k : ℕ) : Type 0 where
  pub alone : (v : ℕ) → v < length p.variables → goes (problem p) a k v ≡ (v == k)
  pub identity : IsIdentity (move_of p a k) (2 * k + 1)

-- the table of observation variable j at its first n values
pub record AreChances (p : Parts) (a j n : ℕ) (fs : List Func) : Type 0 where
  pub count : length fs ≡ n
  pub each : (v : ℕ) → v < n → slice_index_or fs v no_func ≡ restriction (sight_of p a j) (2 * length p.variables + j) v

-- the tables of the first n observation variables at all their values
pub record AreChanceLists (p : Parts) (a n : ℕ) (lists : List (List Func)) : Type 0 where
  pub count : length lists ≡ n
  pub each : (j : ℕ) → j < n → AreChances p a j (get_or (sizes_of p.sights) j 0) (slice_index_or lists j [])

-- they are the tables of their action
pub record AreActionTables (p : Parts) (x : ActionTables) : Type 0 where
  pub known : x.action < length p.actions
  pub last : AreLastTables p x.action (length p.variables) x.last
  pub chances : AreChanceLists p x.action (length p.sights) x.chances
