use Rattle.std.proofs.Common.{drop}
use Rattle.sp_dd.specs.Diagrams.{node_list}
use Rattle.sp_canonical.specs.ModelSigns.{node_lines}
use Rattle.sp_canonical.proofs.Loops.{IsOnTheWay}
use Rattle.sp_canonical.proofs.nodes.put_lines.Given as goal

abbrev pub invariant-loop-at : goal.invariant-loop-at
invariant-loop-at l = IsOnTheWay l.fn.page l.page (node_lines l.parts l.base 0 (node_list l.func)) (node_lines l.parts l.base l.at (drop l.at (node_list l.func)))
