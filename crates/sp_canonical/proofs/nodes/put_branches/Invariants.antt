use Rattle.std.proofs.Common.{drop}
use Rattle.std.specs.Prelude.{map}
use Rattle.sp_dd.specs.Ordered.{node_at}
use Rattle.sp_spelled.specs.Signs.{tight}
use Rattle.sp_canonical.specs.ModelSigns.{branch_signs, part_signs}
use Rattle.sp_canonical.proofs.Loops.{IsOnTheWay}
use Rattle.sp_canonical.proofs.nodes.put_branches.Given as goal

abbrev pub invariant-loop-i : goal.invariant-loop-i
invariant-loop-i l = IsOnTheWay l.fn.page l.page (branch_signs l.names (map (part_signs l.base tight) (node_at l.nodes l.at).parts)) (branch_signs (drop l.i l.names) (map (part_signs l.base tight) (drop l.i (node_at l.nodes l.at).parts)))
