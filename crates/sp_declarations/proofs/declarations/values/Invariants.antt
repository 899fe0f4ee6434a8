use Rattle.std.proofs.Common.{◌≡◌, drop}
use Rattle.sp_declarations.specs.Steps.{in_turn}
use Rattle.sp_declarations.specs.Declarations as spec
use Rattle.sp_declarations.proofs.declarations.values.Given as goal

abbrev pub invariant-loop-span : goal.invariant-loop-span
invariant-loop-span l = in_turn (spec.value l.source) l.values (drop l.span-index l.words) ≡ spec.values l.source l.words
