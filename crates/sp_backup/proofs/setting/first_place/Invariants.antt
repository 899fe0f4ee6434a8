use Rattle.sp_backup.proofs.RangeLemmas.{IsFirst}
use Rattle.sp_backup.proofs.setting.first_place.Given as goal

abbrev pub invariant-loop-k : goal.invariant-loop-k
invariant-loop-k l = IsFirst l.edition l.k l.first
