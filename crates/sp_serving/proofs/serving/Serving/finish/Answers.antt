use Rattle.std.proofs.Common.{◌≡◌, ◌∙◌, ◌≤◌, sym, ap, subst, arith, List, [], map, length}
use Rattle.std.specs.Prelude.{All}
use Rattle.std.specs.Arc.{arc_value}
use Rattle.std.proofs.lemmas.Result.{IfOk-weaker}
use Rattle.sp_theory.specs.Logs.{Log}
use Rattle.sp_model.specs.Problem.{problem}
use Rattle.sp_value.specs.Tasks.{TaskParts}
use Rattle.sp_session.specs.Logs.{logs_of}
use Rattle.sp_serving.specs.Replies.{closed_on}
use Rattle.sp_serving.specs.Serving.{ServingParts, HasEntriesOf, IsSeatOf, log_in, shown_in, finished_logs}
use Rattle.sp_serving.proofs.Keeping.{seats_of}
use Rattle.sp_serving.proofs.Resting.{rest_first, rest_next, rest_last}
use Rattle.sp_serving.proofs.serving.Serving.finish.Goals as goal

pub loop-init : goal.loop-init
loop-init c = rest_first c.args.self (shown_in (arc_value c.args.last.now)) c.requires.newest

pub loop-preserved : goal.loop-preserved
loop-preserved c = rest_next c.args.self (shown_in (arc_value c.args.last.now)) c.loop.counter c.loop.serving _ c.loop.invariant c.in_ok-serve_on.ensures.ok

pub serve_on-requires-clause-task : goal.serve_on-requires-clause-task
serve_on-requires-clause-task c = c.requires.task ∙ sym c.loop.invariant.task

pub serve_on-requires-clause-newest : goal.serve_on-requires-clause-newest
serve_on-requires-clause-newest c = c.loop.invariant.newest

pub close_all-requires : goal.close_all-requires
close_all-requires c =
    let s = c.serving-2.inside in
    let e = arc_value c.args.last.now in
    subst (λ (t : TaskParts). All (IsSeatOf t e.number) s.sessions.items) (ap (λ (p : ServingParts). p.task) c.serving-2.view_is ∙ c.loop.invariant.task ∙ sym c.requires.task)
    (seats_of (arc_value s.task) s.commands s.count s.newest s.sessions.items c.serving-2.invariant e.number (subst (λ (p : ServingParts). p.newest ≤ e.number) (sym c.serving-2.view_is) c.loop.invariant.newest))

pub returns-clause-logs : goal.returns-clause-logs
returns-clause-logs c =
    let s = c.serving-2.inside in
    let e = arc_value c.args.last.now in
    let left = c.left-end.ensures in
    let test = c.loop-test.false in
    let over : length c.args.self.left ≤ c.loop.counter = omega (arith, left, test) in
    let logs : map log_in s.sessions.items ≡ _ = ap (λ (p : ServingParts). p.logs) c.serving-2.view_is ∙ rest_last c.args.self (shown_in e) c.loop.counter c.loop.serving c.loop.invariant over in
    IfOk-weaker c.close_all.result _ _ (λ all is. is ∙ (λ i. map (closed_on (problem (c.requires.task i).model) (shown_in e)) (logs i))) c.close_all.ensures.logs

pub returns-clause-known : goal.returns-clause-known
returns-clause-known c = IfOk-weaker c.close_all.result _ _ (λ all is. subst (λ (t : TaskParts). All (HasEntriesOf t.model) (logs_of all)) c.requires.task is) c.close_all.ensures.known
