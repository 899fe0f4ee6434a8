use Rattle.sp_ddops.proofs.SearchLemmas.{IsOnTheWay}
use Rattle.sp_ddops.proofs.search.first_apart.Given as goal

abbrev pub invariant-loop-slot : goal.invariant-loop-slot
invariant-loop-slot l = IsOnTheWay l.v l.f l.slot l.point l.part
