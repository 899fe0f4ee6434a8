use Rattle.std.proofs.Common.{drop}
use Rattle.std.specs.Prelude.{map, pos}
use Rattle.sp_show.specs.Decimals.{decimal_of}
use Rattle.sp_spelled.specs.Signs.{tight}
use Rattle.sp_spelled.specs.Shapes.{leaf}
use Rattle.sp_canonical.specs.ModelSigns.{branch_signs}
use Rattle.sp_canonical.proofs.Loops.{IsOnTheWay}
use Rattle.sp_canonical.proofs.init.put_zero_branches.Given as goal

abbrev pub invariant-loop-i : goal.invariant-loop-i
invariant-loop-i l = IsOnTheWay l.fn.page l.page (branch_signs l.names (map (λ x. leaf (decimal_of (pos 0)) tight) l.names)) (branch_signs (drop l.i l.names) (map (λ x. leaf (decimal_of (pos 0)) tight) (drop l.i l.names)))
