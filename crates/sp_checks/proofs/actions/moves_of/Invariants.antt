use Rattle.std.proofs.Common.{◌≡◌, map}
use Rattle.std.specs.Prelude.{slice_index_or, None}
use Rattle.std.specs.List.{range_with_len}
use Rattle.sp_checks.specs.Actions as spec
use Rattle.sp_checks.proofs.actions.moves_of.Given as goal

abbrev pub invariant-loop-variable : goal.invariant-loop-variable
invariant-loop-variable l = l.moves ≡ map (λ i. spec.or_identity l.scope i (slice_index_or l.tables i None)) (range_with_len 0 l.variable)
