use Rattle.std.proofs.Common.{◌≡◌}
use Rattle.sp_table.specs.Widths.{exchange_each}
use Rattle.sp_table.proofs.renaming.exchange_pairs.Given as goal

abbrev pub invariant-loop-i : goal.invariant-loop-i
invariant-loop-i l = l.widths ≡ exchange_each l.i l.initial.widths
