use Rattle.std.proofs.Common.{◌≡◌, ℕ, ◌<◌, pos}
use Rattle.sp_dd.specs.Floors.{ticks}
use Rattle.sp_dd.specs.declared.part.Part.TheVariants.{Leaf}
use Rattle.sp_ddops.specs.Diagonals.{part_on_diagonal}
use Rattle.sp_diagonals.proofs.identity.keeps_value.Given as goal

abbrev pub invariant-loop-value : goal.invariant-loop-value
invariant-loop-value l = (v : ℕ) → v < l.value → part_on_diagonal l.p l.primed v ≡ Leaf (pos ticks)
