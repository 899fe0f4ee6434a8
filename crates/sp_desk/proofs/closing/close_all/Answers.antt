use Rattle.std.proofs.Common.{◌≡◌, ◌∙◌, ◌++◌, ◌∷◌, [], sym, ap, subst}
use Rattle.std.specs.Prelude.{All}
use Rattle.std.specs.Arc.{arc_value}
use Rattle.std.proofs.lemmas.List.{map-append}
use Rattle.std.proofs.lemmas.List.Elements.{All-push}
use Rattle.sp_session.specs.Logs.{log_of, logs_of}
use Rattle.sp_session.specs.Sessions.{closed_log}
use Rattle.sp_serving.specs.Serving.{HasEntriesOf}
use Rattle.sp_desk.specs.declared.seats.Seat.{Seat}
use Rattle.sp_desk.proofs.closing.close_all.Goals as goal

pub loop-seat-preserved : goal.loop-seat-preserved
loop-seat-preserved c =
    let e = arc_value c.args.last.now in
    let x = c.in-Some.seat in
    let log = c.in_ok-log.log in
    let logs = c.loop-seat.logs in
    let before = c.loop-seat.yielded in
    let pushed : logs_of c.push.new.self ≡ logs_of logs ++ log_of log ∷ [] = ap logs_of c.in_ok-push.ensures.ok ∙ map-append log_of logs (log ∷ []) in
    record {
      logs = pushed ∙ (λ i. c.loop-seat.invariant.logs i ++ c.in_ok-log.ensures.value i ∷ []) ∙ sym (map-append (λ (s : Seat). closed_log s.session e) before (x ∷ []));
      known = subst (All (HasEntriesOf e.task.model)) (sym pushed) (All-push (HasEntriesOf e.task.model) (logs_of logs) (log_of log) c.loop-seat.invariant.known c.in_ok-log.ensures.known);
    }
