use Rattle.std.proofs.Common.{◌≡◌, ◌∙◌, ℕ, ◌-◌, ap, refl, sym, arith, map}
use Rattle.std.specs.List.{range_with_len}
use Rattle.sp_core.specs.Marks.{marks_of}
use Rattle.sp_sampler.specs.Words.{word_at}
use Rattle.sp_planner.specs.Pauses.{pauses_after}
use Rattle.sp_value.specs.Tasks.{TaskParts, task_of}
use Rattle.sp_theory.specs.Book.{opening}
use Rattle.sp_theory.specs.Runs.{replay}
use Rattle.sp_planner.proofs.Later.{later_same, later_then}
use Rattle.sp_planner.proofs.Running.{run_first, run_more, run_last, run_over}
use Rattle.sp_planner.proofs.Pausing.{pauses_over, pauses_none, served_last}
use Rattle.sp_planner.proofs.Stepping.{turned_of, first_served, turn_served}
use Rattle.sp_planner.proofs.planning.run.Goals as goal

pub returns-then-is_done-clause-run : goal.returns-then-is_done-clause-run
returns-then-is_done-clause-run g c = run_over _ _ _ _ 0 _ _ (run_first c.args.pruning c.args.book.now c.args.turns _ _ refl) (sym c.is_done.ensures ∙ c.if-is_done.true)

pub loop-init : goal.loop-init
loop-init g c = record {
  known = c.task.ensures.known;
  later = later_same _ _ refl;
  under = run_first c.args.pruning c.args.book.now c.args.turns _ _ refl;
  served = first_served g.B.BetweenTurns.serves c.args.pruning c.args.book.now c.args.turns _ c.task.ensures.known (sym c.is_done.ensures ∙ c.if-is_done.false) _ _ c.in_ok-serve.ensures;
}

pub returns-then-is_done-2-clause-run : goal.returns-then-is_done-2-clause-run
returns-then-is_done-2-clause-run g c = run_over _ _ _ _ _ _ _ c.loop.invariant.under (sym c.is_done-in-loop.ensures ∙ c.if-is_done-2.true)

pub returns-then-is_done-2-clause-served : goal.returns-then-is_done-2-clause-served
returns-then-is_done-2-clause-served g c =
    let done = ap (λ (u : TaskParts). (replay (task_of u) (opening (task_of u)) c.loop.book.history).done) (sym c.loop.invariant.under.task) ∙ sym c.is_done-in-loop.ensures ∙ c.if-is_done-2.true in
    served_last g.B.BetweenTurns.serves _ _ _ _ _ c.loop.invariant.served (pauses_over _ _ _ _ _ done)

pub loop-preserved : goal.loop-preserved
loop-preserved g c =
    let going = sym c.is_done-in-loop.ensures ∙ c.if-is_done-2.false in
    let turned = turned_of _ _ _ _ going c.in_ok-step.ensures.turn in
    record {
      known = c.in_ok-step.ensures.known;
      later = later_then _ _ _ c.loop.invariant.later c.in_ok-step.ensures.later;
      under = run_more _ _ _ _ c.loop.counter c.loop-test.true _ _ c.loop.invariant.under _ _ _ c.next_u64.ensures going turned;
      served = turn_served g.B.BetweenTurns.serves _ _ _ _ c.loop.counter c.loop-test.true _ _ c.loop.invariant.under _ _ _ c.next_u64.ensures going turned c.in_ok-step.ensures.known _ _ _ _ c.loop.invariant.served c.in_ok-step.ensures.served;
    }

pub returns-clause-run : goal.returns-clause-run
returns-clause-run g c = run_last _ _ _ _ c.loop.counter c.loop-test.false _ _ c.loop.invariant.under

pub returns-clause-served : goal.returns-clause-served
returns-clause-served g c =
    let last : c.args.turns - c.loop.counter ≡ 0 = omega (arith, c.loop-test.false) in
    served_last g.B.BetweenTurns.serves _ _ _ _ _ c.loop.invariant.served
    (ap (λ (m : ℕ). pauses_after (task_of c.args.book.now.task) c.args.pruning c.loop.book.history (marks_of c.loop.book.taken) (map (word_at (g.G.Rng.stream c.args.words.now)) (range_with_len c.loop.counter m))) last
    ∙ pauses_none _ _ _ _)
