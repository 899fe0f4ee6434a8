use Rattle.std.proofs.Common.{◌≡◌, drop}
use Rattle.sp_declarations.specs.Steps.{in_turn}
use Rattle.sp_checks.specs.Kept.{IsListing}
use Rattle.sp_checks.specs.Actions as spec
use Rattle.sp_checks.proofs.items.observed_in_turn.Given as goal

abbrev pub invariant-loop-next : goal.invariant-loop-next
invariant-loop-next l = record {
  value : in_turn (spec.observe_entry l.env l.source) l.listed (drop l.next-index l.list) ≡ spec.observed_in_turn l.env l.source l.initial.listed l.list;
  listed : IsListing l.env l.listed;
}
