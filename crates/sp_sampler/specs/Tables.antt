-- The tables of the actions that were chosen.
use Rattle.std.specs.Prelude.{◌≡◌, ℕ, ◌<◌, List, Option, None, length, slice_index_or, IfSome}
use Rattle.sp_model.specs.declared.parts.Parts.{Parts}
use Rattle.sp_belief.specs.declared.tables.ActionTables.{ActionTables}
use Rattle.sp_belief.specs.Tables.{AreActionTables}

-- at each of the first n actions nothing, or the tables of that action
pub record AreTablesOfFirst (p : Parts) (n : ℕ) (kept : List (Option ActionTables)) : Type 0 where
  pub count : length kept ≡ n
  pub each : (a : ℕ) → a < n → IfSome (slice_index_or kept a None) (λ x. AreActionTables p x × (x.action ≡ a))

-- the same at all actions
abbrev pub AreKeptTables : Parts → List (Option ActionTables) → Type 0
AreKeptTables p kept = AreTablesOfFirst p (length p.actions) kept
