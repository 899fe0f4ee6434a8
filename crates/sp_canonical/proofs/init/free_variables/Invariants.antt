use Rattle.std.proofs.Common.{◌≡◌, ◌*◌, ◌++◌, drop}
use Rattle.std.specs.Prelude.{filter, not}
use Rattle.sp_dd.specs.Diagrams.{node_list}
use Rattle.sp_canonical.specs.Tables.{is_on, free_variables}
use Rattle.sp_canonical.proofs.init.free_variables.Given as goal

abbrev pub invariant-loop-i : goal.invariant-loop-i
invariant-loop-i l = l.free.items ++ filter (λ v. not (is_on (node_list l.factor.func) (2 * v))) (drop l.i l.factor.own) ≡ free_variables l.factor
