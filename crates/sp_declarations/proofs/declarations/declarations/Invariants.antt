use Rattle.std.proofs.Common.{◌≡◌, drop}
use Rattle.sp_declarations.specs.Steps.{in_turn}
use Rattle.sp_declarations.specs.Declarations as spec
use Rattle.sp_declarations.proofs.declarations.declarations.Given as goal

abbrev pub invariant-loop-next : goal.invariant-loop-next
invariant-loop-next l = in_turn (spec.declaration l.source l.limits) l.read (drop l.next-index l.list) ≡ spec.declarations l.source l.limits l.fn.names l.list
