-- What the tests of the canonical text tell, in the words of functions.
use Rattle.std.specs.Prelude.{ℕ, MatchBool}
use Rattle.sp_dd.specs.Func.{Func, IsScope, DependsOn, IsIndependentOf}
use Rattle.sp_dd.specs.Diagrams.{node_list}
use Rattle.sp_canonical.specs.Tables.{is_on}

-- some node of a function has a slot exactly where the function depends on it
abbrev pub NodesTellDependence : Type 0
NodesTellDependence = (f : Func) (slot : ℕ) → IsScope f.shape → MatchBool (is_on (node_list f) slot) (DependsOn f slot) (IsIndependentOf f slot)
