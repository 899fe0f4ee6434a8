use Rattle.std.proofs.Common.{◌∙◌, refl, sym, arith}
use Rattle.sp_planner.proofs.Stepping.{turn_task, pauses_here, goes_silently, ends_silently, served_there, served_not}
use Rattle.sp_planner.proofs.planning.step.Goals as goal
use Rattle.sp_planner.proofs.planning.step.Goals.{else-count-via-then-count+else-not-is_done, else-count-via-else-count}

pub returns-in_ok-serve-clause-served : goal.returns-in_ok-serve-clause-served
returns-in_ok-serve-clause-served g c =
    let task = turn_task _ _ _ _ c.in_ok-turn.ensures.turn in
    served_there _ _ _ (pauses_here _ _ c.task.ensures.known c.task-2.ensures.known task (omega (arith, c.if-count.true, c.count-count.ensures.value, c.count.ensures.value)) (sym c.is_done.ensures ∙ c.if-not-is_done.true)) c.in_ok-serve.ensures

pub returns-else-count-clause-served : goal.returns-else-count-clause-served
returns-else-count-clause-served g c =
    let task = turn_task _ _ _ _ c.in_ok-turn.ensures.turn in
    elim c.else-count.branch [
      | else-count-via-then-count+else-not-is_done w ↦ served_not _ _ _ (ends_silently _ _ c.task.ensures.known c.task-2.ensures.known task (sym w.is_done.ensures ∙ w.if-not-is_done.false)) refl
      | else-count-via-else-count w ↦ served_not _ _ _ (goes_silently _ _ c.task.ensures.known c.task-2.ensures.known task (omega (arith, w.if-count.false, c.count-count.ensures.value, c.count.ensures.value))) refl
    ]
