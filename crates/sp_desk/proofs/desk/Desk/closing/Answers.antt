use Rattle.std.proofs.Common.{subst}
use Rattle.std.specs.Prelude.{All}
use Rattle.std.specs.Arc.{arc_value}
use Rattle.std.proofs.lemmas.Result.{IfOk-weaker}
use Rattle.sp_value.specs.Tasks.{TaskParts}
use Rattle.sp_session.specs.Logs.{logs_of}
use Rattle.sp_serving.specs.Serving.{HasEntriesOf}
use Rattle.sp_desk.specs.Kept.{desk_in}
use Rattle.sp_desk.proofs.Legality.{closing_legal, closing_task, closing_may}
use Rattle.sp_desk.proofs.desk.Desk.closing.Goals as goal

pub close_all-requires : goal.close_all-requires
close_all-requires c =
    closing_may c.args.self c.hear.new.self c.look.new.self (desk_in c.desk-2.inside) c.args.end.now (arc_value c.in_ok-last.last) c.requires.ended c.hear.ensures.more c.in_ok-hear.ensures.heard c.look.ensures.more c.desk-2.view_is c.desk-2.invariant c.in_ok-last.ensures.newest

pub returns-clause-legal : goal.returns-clause-legal
returns-clause-legal c =
    IfOk-weaker c.close_all.result _ _
    (λ logs same. closing_legal c.args.self c.hear.new.self c.look.new.self (desk_in c.desk-2.inside) c.args.end.now (arc_value c.in_ok-last.last) c.requires.ended c.hear.ensures.more c.in_ok-hear.ensures.heard c.look.ensures.more c.desk-2.view_is c.desk-2.invariant c.in_ok-last.ensures.newest (logs_of logs) same)
    c.close_all.ensures.logs

pub returns-clause-known : goal.returns-clause-known
returns-clause-known c =
    let same = closing_task c.args.self c.hear.new.self c.look.new.self (desk_in c.desk-2.inside) c.args.end.now (arc_value c.in_ok-last.last) c.requires.ended c.hear.ensures.more c.in_ok-hear.ensures.heard c.look.ensures.more c.desk-2.view_is c.desk-2.invariant c.in_ok-last.ensures.newest in
    IfOk-weaker c.close_all.result _ _ (λ logs is. subst (λ (t : TaskParts). All (HasEntriesOf t.model) (logs_of logs)) same is) c.close_all.ensures.known
