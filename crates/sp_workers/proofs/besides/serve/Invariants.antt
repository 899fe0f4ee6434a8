use Rattle.sp_workers.specs.Later.{StandsLater}
use Rattle.sp_workers.proofs.besides.serve.Given as goal

abbrev pub invariant-loop : goal.invariant-loop
invariant-loop g l = record {
  can : (goal.iterator-loop g).can_next l.iterator';
  ends : (goal.iterator-loop g).is_finite l.iterator';
  later : StandsLater g.B.Beside.work g.B.Beside.known g.B.Beside.steps l.fn.beside l.beside;
}
