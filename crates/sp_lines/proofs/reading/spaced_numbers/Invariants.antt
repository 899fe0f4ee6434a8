use Rattle.std.proofs.Common.{◌≡◌, ◌++◌, length}
use Rattle.std.specs.List.{AllByRecursion}
use Rattle.sp_lines.specs.Lines.{numbers_behind_spaces, IsSmall}
use Rattle.sp_lines.proofs.Spaces.{IsList}
use Rattle.sp_lines.proofs.reading.spaced_numbers.Given as goal

abbrev pub invariant-loop-rest : goal.invariant-loop-rest
invariant-loop-rest l = record {
  read : l.text ≡ numbers_behind_spaces l.numbers ++ l.rest;
  small : AllByRecursion IsSmall l.numbers;
  left : IsList l.text → IsList l.rest;
}

abbrev pub decreases-loop-rest : goal.decreases-loop-rest
decreases-loop-rest l = length l.rest
