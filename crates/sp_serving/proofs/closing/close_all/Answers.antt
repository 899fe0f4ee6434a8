use Rattle.std.proofs.Common.{◌≡◌, ◌∙◌, ◌++◌, ◌∷◌, [], sym, ap, subst, List, map}
use Rattle.std.specs.Prelude.{All}
use Rattle.std.specs.Arc.{arc_value}
use Rattle.std.proofs.lemmas.List.{map-append}
use Rattle.std.proofs.lemmas.List.Elements.{All-push}
use Rattle.sp_theory.specs.Logs.{Log}
use Rattle.sp_model.specs.Problem.{problem}
use Rattle.sp_session.specs.Logs.{log_of, logs_of}
use Rattle.sp_serving.specs.Replies.{closed_on}
use Rattle.sp_serving.specs.Serving.{HasEntriesOf, log_in, shown_in}
use Rattle.sp_serving.proofs.closing.close_all.Goals as goal

pub loop-session-preserved : goal.loop-session-preserved
loop-session-preserved c =
    let e = arc_value c.args.last.now in
    let x = c.in-Some.session in
    let log = c.in_ok-log.log in
    let logs = c.loop-session.logs in
    let before = c.loop-session.yielded in
    let closed = closed_on (problem e.task.model) (shown_in e) in
    let pushed : logs_of c.push.new.self ≡ logs_of logs ++ log_of log ∷ [] = ap logs_of c.in_ok-push.ensures.ok ∙ map-append log_of logs (log ∷ []) in
    record {
      logs = pushed
          ∙ (λ i. c.loop-session.invariant.logs i ++ c.in_ok-log.ensures.value i ∷ [])
          ∙ sym (map-append closed (map log_in before) (log_in x ∷ []))
          ∙ sym (ap (map closed) (map-append log_in before (x ∷ [])));
      known = subst (All (HasEntriesOf e.task.model)) (sym pushed) (All-push (HasEntriesOf e.task.model) (logs_of logs) (log_of log) c.loop-session.invariant.known c.in_ok-log.ensures.known);
    }
