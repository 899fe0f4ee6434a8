use Rattle.std.proofs.Common.{arith}
use Rattle.sp_planner.proofs.Later.{later_taken, later_then}
use Rattle.sp_planner.proofs.Turning.{turn_silent, turn_with_prune}
use Rattle.sp_planner.proofs.planning.turn.Goals as goal

pub returns-in_ok-drop_dominated-clause-turn : goal.returns-in_ok-drop_dominated-clause-turn
returns-in_ok-drop_dominated-clause-turn c =
    turn_with_prune c.args.pruning c.args.book.now c.task.ensures.known c.args.word c.in-Some.belief c.in-Some.ensures.answer c.in-Some.ensures.below c.next_work.new.self c.next_work.ensures.taken c.back_up.new.book c.in_ok-back_up.ensures.backed_up
    (omega (arith, c.if-count.true, c.count-count.ensures.value, c.count.ensures.value)) c.drop_dominated.new.book c.in_ok-drop_dominated.ensures.pruned

pub returns-else-count-clause-turn : goal.returns-else-count-clause-turn
returns-else-count-clause-turn c =
    turn_silent c.args.pruning c.args.book.now c.task.ensures.known c.args.word c.in-Some.belief c.in-Some.ensures.answer c.in-Some.ensures.below c.next_work.new.self c.next_work.ensures.taken c.back_up.new.book c.in_ok-back_up.ensures.backed_up
    (omega (arith, c.if-count.false, c.count-count.ensures.value, c.count.ensures.value))

pub returns-in_ok-drop_dominated-clause-later : goal.returns-in_ok-drop_dominated-clause-later
returns-in_ok-drop_dominated-clause-later c =
    later_then _ _ _ (later_then _ _ _ (later_taken _ _ _ _ c.next_work.ensures.taken) c.in_ok-back_up.ensures.later) c.in_ok-drop_dominated.ensures.later
