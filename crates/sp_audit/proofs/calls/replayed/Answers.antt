use Rattle.std.proofs.Common.{List, [], subst}
use Rattle.std.specs.Arc.{arc_value}
use Rattle.std.proofs.lemmas.List.Elements.{All-nil}
use Rattle.sp_theory.specs.Book.{opening}
use Rattle.sp_theory.specs.Logs.{Log, IsLegalLog}
use Rattle.sp_value.specs.Tasks.{task_of}
use Rattle.sp_value.specs.Events.{events_of}
use Rattle.sp_session.specs.declared.logs.SessionLog.{SessionLog}
use Rattle.sp_session.specs.Logs.{logs_of}
use Rattle.sp_audit.specs.declared.judgments.Judgment.{Judgment}
use Rattle.sp_audit.specs.Clauses.{clause_of}
use Rattle.sp_audit.specs.Verdicts.{AreWrong, run_editions}
use Rattle.sp_audit.specs.Replays.{IsJudged}
use Rattle.sp_audit.proofs.Single.{history_is_sampled}
use Rattle.sp_audit.proofs.VerdictLaws.{wrong_is_not_legal}
use Rattle.sp_audit.proofs.calls.replayed.Goals as goal

pub judged-requires-clause-sampled : goal.judged-requires-clause-sampled
judged-requires-clause-sampled c = history_is_sampled (task_of (arc_value c.args.run.now.task)) (opening (task_of (arc_value c.args.run.now.task))) (events_of c.args.run.now.events) c.requires.0

pub unreachable-requires : goal.unreachable-requires
unreachable-requires c =
    let t = arc_value c.args.run.now.task in
    let es = events_of c.args.run.now.events in
    let judged = subst (λ (j : Judgment). IsJudged t es (logs_of c.new-transcript.result) j) c.in-Wrong.is c.in_ok-replay.ensures in
    let wrong = subst (λ (ls : List SessionLog). AreWrong (task_of t) es (logs_of ls) c.in-Wrong.session c.in-Wrong.event (clause_of c.in-Wrong.clause)) c.new-transcript.ensures judged in
    wrong_is_not_legal (task_of t) es [] c.in-Wrong.session c.in-Wrong.event (clause_of c.in-Wrong.clause) wrong
    (record { run = c.requires; transcript = All-nil (λ (log : Log). IsLegalLog (task_of t).model (run_editions (task_of t) es) log.entries) })
