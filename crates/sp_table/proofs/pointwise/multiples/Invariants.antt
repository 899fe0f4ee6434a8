use Rattle.std.proofs.Common.{◌≡◌, ◌*ℤ◌, map, take}
use Rattle.sp_table.proofs.pointwise.multiples.Given as goal

abbrev pub invariant-loop-cell : goal.invariant-loop-cell
invariant-loop-cell l = l.scaled.items ≡ map (λ v. l.k *ℤ v) (take l.cell-index l.cells)
