use Rattle.std.proofs.Common.{◌≡◌, ◌++◌, length}
use Rattle.std.specs.List.{AllByRecursion}
use Rattle.sp_lines.specs.Lines.{spaced_pairs, IsSmallPair}
use Rattle.sp_lines.proofs.Spaces.{ArePairs}
use Rattle.sp_lines.proofs.reading.pairs_of.Given as goal

abbrev pub invariant-loop-rest : goal.invariant-loop-rest
invariant-loop-rest l = record {
  read : l.text ≡ spaced_pairs l.pairs ++ l.rest;
  small : AllByRecursion IsSmallPair l.pairs;
  left : ArePairs l.text → ArePairs l.rest;
}

abbrev pub decreases-loop-rest : goal.decreases-loop-rest
decreases-loop-rest l = length l.rest
