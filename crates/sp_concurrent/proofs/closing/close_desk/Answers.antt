use Rattle.std.proofs.Common.{◌∙◌, sym, arith}
use Rattle.sp_concurrent.proofs.Ending.{closed_if}
use Rattle.sp_concurrent.proofs.closing.close_desk.Goals as goal

pub step-requires-clause-list : goal.step-requires-clause-list
step-requires-clause-list c = sym (c.loop-run.invariant.list ∙ c.requires.list)

pub loop-run-preserved : goal.loop-run-preserved
loop-run-preserved c = record {
  work = c.in_ok-step.ensures.work ∙ c.loop-run.invariant.work;
  list = c.in_ok-step.ensures.known.list ∙ c.loop-run.invariant.list;
}

pub returns : goal.returns
returns c =
    let run = c.loop-run.run in
    let known = c.commands.ensures.known in
    let count = known.count in
    let left = c.left.ensures in
    let none = c.loop-run-test.false in
    closed_if c.closing.result c.args.end.now c.args.run run c.desk.result c.desk.ensures.value c.loop-run.invariant.work known
    (omega (arith, count, left, none)) c.closing.ensures.logs c.closing.ensures.legal c.closing.ensures.known
