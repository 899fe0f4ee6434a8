use Rattle.sp_workers.proofs.Standing.{stands_self, stands_step}
use Rattle.sp_workers.proofs.besides.step.Goals as goal

pub returns-in_err-told : goal.returns-in_err-told
returns-in_err-told g c = stands_self g.B.Beside.work g.B.Beside.known g.B.Beside.steps c.args.beside.now

pub returns-then-not-wants_notice : goal.returns-then-not-wants_notice
returns-then-not-wants_notice g c = let e = c.step.ensures in stands_step g.B.Beside.work g.B.Beside.known g.B.Beside.steps _ _ c.step.result e.work e.known e.ok e.err

pub returns : goal.returns
returns g c = let e = c.step-2.ensures in stands_step g.B.Beside.work g.B.Beside.known g.B.Beside.steps _ _ c.step-2.result e.work e.known e.ok e.err
