use Rattle.std.proofs.Common.{arith}
use Rattle.std.specs.Arc.{arc_value}
use Rattle.sp_attending.proofs.Served.{nothing_left, nothing_fits, task_fits, newest_fits, served_latest}
use Rattle.sp_attending.proofs.attending.serve_at.Goals as goal

pub returns-then-left-eq0 : goal.returns-then-left-eq0
returns-then-left-eq0 c = nothing_left c.args.serving.now c.args.book.now (omega (arith, c.left.ensures, c.if-left-eq0.true))

pub returns-then-not-fits : goal.returns-then-not-fits
returns-then-not-fits c = nothing_fits c.args.serving.now c.args.book.now (λ fits. let yes = c.fits.ensures.1 fits in let no = c.if-not-fits.true in absurd (cc))

pub serve_on-requires-clause-task : goal.serve_on-requires-clause-task
serve_on-requires-clause-task c = task_fits c.args.serving.now c.args.book.now c.task.ensures.known (arc_value c.latest.result.now) c.latest.ensures (c.fits.ensures.0 c.if-not-fits.false)

pub serve_on-requires-clause-newest : goal.serve_on-requires-clause-newest
serve_on-requires-clause-newest c = newest_fits c.args.serving.now c.args.book.now c.task.ensures.known (arc_value c.latest.result.now) c.latest.ensures (c.fits.ensures.0 c.if-not-fits.false)

pub returns : goal.returns
returns c =
    served_latest c.args.serving.now c.args.book.now c.task.ensures.known (arc_value c.latest.result.now) c.latest.ensures (c.fits.ensures.0 c.if-not-fits.false) c.serve_on.new.self c.in_ok-serve_on.ensures.ok
