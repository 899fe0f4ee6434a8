use Rattle.std.proofs.Common.{◌≡◌}
use Rattle.sp_table.specs.Widths.{without_each}
use Rattle.sp_table.proofs.renaming.drop_each.Given as goal

abbrev pub invariant-loop-i : goal.invariant-loop-i
invariant-loop-i l = l.widths ≡ without_each l.first l.i l.initial.widths
