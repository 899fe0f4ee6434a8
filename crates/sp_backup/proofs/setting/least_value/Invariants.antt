use Rattle.sp_backup.proofs.RangeLemmas.{IsLow}
use Rattle.sp_backup.proofs.setting.least_value.Given as goal

abbrev pub invariant-loop-k : goal.invariant-loop-k
invariant-loop-k l = IsLow l.edition l.k l.low
