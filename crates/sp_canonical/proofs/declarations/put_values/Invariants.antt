use Rattle.std.proofs.Common.{drop}
use Rattle.sp_canonical.specs.Gaps.{gap_of}
use Rattle.sp_spelled.specs.Shapes.{closed_words}
use Rattle.sp_canonical.proofs.Loops.{IsOnTheWay}
use Rattle.sp_canonical.proofs.declarations.put_values.Given as goal

abbrev pub invariant-loop-i : goal.invariant-loop-i
invariant-loop-i l = IsOnTheWay l.fn.page l.page (closed_words l.values (gap_of l.gap)) (closed_words (drop l.i l.values) (gap_of l.gap))
