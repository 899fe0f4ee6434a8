use Rattle.std.proofs.Common.{◌∙◌, List, subst, Result, Ok, Err}
use Rattle.std.specs.Prelude.{IfOk}
use Rattle.std.specs.Arc.{arc_value}
use Rattle.sp_value.specs.declared.events.Event.{Event}
use Rattle.sp_value.specs.Tasks.{TaskParts}
use Rattle.sp_value.specs.Events.{events_of}
use Rattle.sp_session.specs.Logs.{logs_of}
use Rattle.sp_audit.specs.declared.judgments.Judgment.{Judgment}
use Rattle.sp_audit.specs.declared.runs.JudgedRun.{JudgedRun}
use Rattle.sp_audit.specs.States.{contents, IsStateAfter}
use Rattle.sp_audit.specs.RunsJudged.{IsRunJudged}
use Rattle.sp_audit.specs.Replays.{IsJudged}
use Rattle.sp_audit.proofs.judgments.judged.Goals as goal

if_ok : {A E : Type 0} (r : Result A E) (P Q : A → Type 0) → ((x : A) → P x → Q x) → IfOk r P → IfOk r Q
if_ok (Ok x) P Q more h = more x h
if_ok (Err e) P Q more h = tt

pub returns : goal.returns
returns c =
    let t = arc_value c.args.run.now.task in
    let es = events_of c.args.run.now.events in
    let logs = logs_of c.args.transcript.now in
    let legal = subst (λ (r : JudgedRun). IsRunJudged (arc_value c.in_ok-task.task) (events_of c.as_slice.result.now) r) c.in-Legal.is c.in_ok-event.ensures in
    let state = subst (λ (xs : List Event). IsStateAfter (events_of xs) (contents c.in-Legal.state)) c.as_slice.ensures legal.0 in
    if_ok c.with_logs.result _ (IsJudged t es logs)
    (λ j known. subst (λ (u : TaskParts). IsJudged u es logs j) (legal.1 ∙ c.in_ok-task.ensures) (known es state)) c.with_logs.ensures
