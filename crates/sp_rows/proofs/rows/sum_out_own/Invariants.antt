use Rattle.sp_rows.proofs.RowLemmas.{IsSummed}
use Rattle.sp_rows.proofs.rows.sum_out_own.Given as goal

abbrev pub invariant-loop-place : goal.invariant-loop-place
invariant-loop-place l = IsSummed l.f l.own l.place l.sums

abbrev pub decreases-loop-place : goal.decreases-loop-place
decreases-loop-place l = l.place
