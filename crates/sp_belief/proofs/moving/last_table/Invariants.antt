-- the tables from this one on don't depend on the variable
use Rattle.std.proofs.Common.{◌≡◌, ◌<◌, ◌≤◌, true, length}
use Rattle.sp_theory.specs.Beliefs.{all_ignore}
use Rattle.sp_model.specs.Problem.{problem}
use Rattle.sp_belief.specs.Progress.{from_table}
use Rattle.sp_belief.proofs.moving.last_table.Given as goal

abbrev pub invariant-loop-table : goal.invariant-loop-table
invariant-loop-table l = record {
  some : 0 < l.table;
  within : l.table ≤ length l.model.variables;
  ignored : true ≡ all_ignore (problem l.model).sizes (from_table (problem l.model) l.action l.table) l.variable;
}

abbrev pub decreases-loop-table : goal.decreases-loop-table
decreases-loop-table l = l.table
