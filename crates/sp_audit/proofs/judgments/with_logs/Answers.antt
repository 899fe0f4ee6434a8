use Rattle.std.proofs.Common.{◌≡◌, ◌∙◌, ap, subst, List, map, Global, Option}
use Rattle.std.specs.Arc.{arc_value}
use Rattle.std.specs.declared.sync.Arc.{Arc}
use Rattle.sp_model.specs.declared.parts.Parts.{Parts}
use Rattle.sp_model.specs.Problem.{problem}
use Rattle.sp_value.specs.declared.editions.Edition.{Edition}
use Rattle.sp_value.specs.Tasks.{TaskParts}
use Rattle.sp_session.specs.declared.logs.SessionLog.{SessionLog}
use Rattle.sp_session.specs.Logs.{logs_of}
use Rattle.sp_audit.specs.declared.logs.WrongLog.{WrongLog}
use Rattle.sp_audit.specs.Seats.{editions_in}
use Rattle.sp_audit.specs.Logs.{AreLogsJudged}
use Rattle.sp_audit.specs.States.{contents}
use Rattle.sp_audit.proofs.Outcomes.{logs_legal, logs_wrong}
use Rattle.sp_audit.proofs.judgments.with_logs.Goals as goal

pub returns-in-Some : goal.returns-in-Some
returns-in-Some c =
    let own = contents c.args.state in
    let model : c.model.result.now ≡ own.task.model = c.model.ensures.value ∙ ap (λ (t : TaskParts). t.model) (c.deref.ensures ∙ c.task.ensures) in
    let on_model = subst (λ (p : Parts). AreLogsJudged (problem p) (editions_in (map arc_value c.deref-2.result.now)) (logs_of c.as_slice.result.now) c.in_ok-wrong.wrong) model c.in_ok-wrong.ensures in
    let on_editions = subst (λ (xs : List (Arc Edition Global)). AreLogsJudged (problem own.task.model) (editions_in (map arc_value xs)) (logs_of c.as_slice.result.now) c.in_ok-wrong.wrong) c.deref-2.ensures.value on_model in
    let of_logs = subst (λ (ls : List SessionLog). AreLogsJudged (problem own.task.model) (editions_in own.editions) (logs_of ls) c.in_ok-wrong.wrong) c.as_slice.ensures on_editions in
    let judged = subst (λ (r : Option WrongLog). AreLogsJudged (problem own.task.model) (editions_in own.editions) (logs_of c.args.transcript.now) r) c.in-Some.is of_logs in
    λ es state. logs_wrong own es state c.requires.over (logs_of c.args.transcript.now) c.in-Some.wrong judged

pub returns-in_ok-replay-in-None : goal.returns-in_ok-replay-in-None
returns-in_ok-replay-in-None c =
    let own = contents c.args.state in
    let model : c.model.result.now ≡ own.task.model = c.model.ensures.value ∙ ap (λ (t : TaskParts). t.model) (c.deref.ensures ∙ c.task.ensures) in
    let on_model = subst (λ (p : Parts). AreLogsJudged (problem p) (editions_in (map arc_value c.deref-2.result.now)) (logs_of c.as_slice.result.now) c.in_ok-wrong.wrong) model c.in_ok-wrong.ensures in
    let on_editions = subst (λ (xs : List (Arc Edition Global)). AreLogsJudged (problem own.task.model) (editions_in (map arc_value xs)) (logs_of c.as_slice.result.now) c.in_ok-wrong.wrong) c.deref-2.ensures.value on_model in
    let of_logs = subst (λ (ls : List SessionLog). AreLogsJudged (problem own.task.model) (editions_in own.editions) (logs_of ls) c.in_ok-wrong.wrong) c.as_slice.ensures on_editions in
    let judged = subst (λ (r : Option WrongLog). AreLogsJudged (problem own.task.model) (editions_in own.editions) (logs_of c.args.transcript.now) r) c.in-None.is of_logs in
    λ es state. (logs_legal own es state c.requires.over (logs_of c.args.transcript.now) judged, c.in_ok-replay-in-None.ensures es state)
