use Rattle.std.proofs.Common.{◌≡◌, drop}
use Rattle.sp_declarations.specs.Steps.{in_turn}
use Rattle.sp_checks.specs.Actions as spec
use Rattle.sp_checks.proofs.actions.sights_of.Given as goal

abbrev pub invariant-loop-table : goal.invariant-loop-table
invariant-loop-table l = in_turn (spec.sight_step l.at) l.sights (drop l.table-index l.tables) ≡ spec.sights_of l.at l.tables
