use Rattle.std.proofs.Common.{◌≡◌, take}
use Rattle.sp_audit.proofs.replays.first_other.Given as goal

abbrev pub invariant-loop-k : goal.invariant-loop-k
invariant-loop-k l = take l.k l.values ≡ take l.k l.others
