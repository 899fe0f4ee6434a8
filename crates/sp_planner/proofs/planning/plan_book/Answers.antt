use Rattle.std.proofs.Common.{subst}
use Rattle.sp_value.specs.declared.tasks.Options.{Options}
use Rattle.sp_planner.specs.Planned.{picking_words}
use Rattle.sp_planner.specs.Turns.{IsRun}
use Rattle.sp_planner.proofs.Finished.{opened_planned}
use Rattle.sp_planner.proofs.planning.plan_book.Goals as goal

pub returns-clause-planned : goal.returns-clause-planned
returns-clause-planned g c =
    opened_planned _ c.args.options _ _ _ c.in_ok-book.ensures.task c.in_ok-book.ensures.opening
    (subst (λ (o : Options). IsRun c.args.options.prune c.in_ok-book.book (picking_words o) c.finish.new.book) c.in_ok-book.ensures.task.options c.in_ok-finish.ensures.run)
