use Rattle.std.proofs.Common.{take}
use Rattle.std.specs.Prelude.{All}
use Rattle.sp_lines.specs.Lines.{IsSmallPair}
use Rattle.sp_planning.proofs.numbers.read_pairs.Given as goal

abbrev pub invariant-loop-place : goal.invariant-loop-place
invariant-loop-place l = All IsSmallPair (take l.place l.pairs)
