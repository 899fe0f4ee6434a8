use Rattle.sp_backup.proofs.RangeLemmas.{IsHigh}
use Rattle.sp_backup.proofs.setting.greatest_value.Given as goal

abbrev pub invariant-loop-k : goal.invariant-loop-k
invariant-loop-k l = IsHigh l.edition l.k l.high
