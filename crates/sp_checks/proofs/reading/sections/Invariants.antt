use Rattle.std.proofs.Common.{◌≡◌, drop}
use Rattle.sp_declarations.specs.Steps.{in_turn}
use Rattle.sp_checks.specs.Kept.{IsReadingState}
use Rattle.sp_checks.specs.Sections as spec
use Rattle.sp_checks.proofs.reading.sections.Given as goal

abbrev pub invariant-loop-next : goal.invariant-loop-next
invariant-loop-next l = record {
  value : in_turn (spec.section l.source) l.state (drop l.next-index l.list) ≡ in_turn (spec.section l.source) l.initial.state l.list;
  state : IsReadingState l.state;
}
