use Rattle.std.proofs.Common.{◌≡◌, ◌==◌, ℕ, ◌<◌}
use Rattle.std.specs.Prelude.{slice_index}
use Rattle.sp_belief.proofs.moving.goes_alone.Given as goal

abbrev pub invariant-loop-variable : goal.invariant-loop-variable
invariant-loop-variable l = (v : ℕ) → v < l.variable → (slice_index l.last v == l.table) ≡ (v == l.table)
