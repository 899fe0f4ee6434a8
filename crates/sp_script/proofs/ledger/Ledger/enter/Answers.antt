use Rattle.std.proofs.Common.{◌∙◌, sym, ap, refl, Some, None}
use Rattle.sp_script.specs.Ledger.{seat_after}
use Rattle.sp_script.proofs.LedgerLemmas.{clear, commands_then, ledger_then, no_command, refused, request_right, unknown}
use Rattle.sp_script.proofs.ledger.Ledger.enter.Goals as goal

pub push-requires : goal.push-requires
push-requires c =
    let l = c.args.self.now in
    let v = c.args.request.verb in
    let name = c.args.request.name.now in
    let fits = clear l v name c.seat_of-seat.result c.len.result c.fault_of.result c.fault_of.ensures c.seat_of-seat.ensures c.len.ensures.len None c.in_default.is in
    commands_then l c.requires.kept v name c.args.line c.in-Some-2.command fits (sym c.in_ok-command.ensures ∙ c.in-Some-2.is) c.requires.name

pub returns-clause-entered : goal.returns-clause-entered
returns-clause-entered c =
    let l = c.args.self.now in
    let v = c.args.request.verb in
    let name = c.args.request.name.now in
    let fits = clear l v name c.seat_of-seat.result c.len.result c.fault_of.result c.fault_of.ensures c.seat_of-seat.ensures c.len.ensures.len None c.in_default.is in
    let is = sym c.in_ok-command.ensures ∙ c.in-Some-2.is in
    record {
      command = (c.in-Some-2.command, is, c.set_seat.ensures.commands ∙ c.in_ok-push.ensures.ok);
      faultless = request_right l c.requires.kept v name c.args.line c.in-Some-2.command fits is;
    }

pub returns-clause-kept : goal.returns-clause-kept
returns-clause-kept c =
    let l = c.args.self.now in
    let v = c.args.request.verb in
    let name = c.args.request.name.now in
    let fits = clear l v name c.seat_of-seat.result c.len.result c.fault_of.result c.fault_of.ensures c.seat_of-seat.ensures c.len.ensures.len None c.in_default.is in
    let is = sym c.in_ok-command.ensures ∙ c.in-Some-2.is in
    ledger_then l c.requires.kept v name c.args.line c.in-Some-2.command fits is c.requires.name c.set_seat.new.self c.seat_after.result
    (c.set_seat.ensures.commands ∙ c.in_ok-push.ensures.ok)
    (c.seat_after.ensures ∙ ap (seat_after v) c.seat_of-seat.ensures)
    c.in_ok-set_seat.ensures.seats
    c.in_ok-set_seat.ensures.count

pub returns-in-Some-clause-err : goal.returns-in-Some-clause-err
returns-in-Some-clause-err c =
    let l = c.args.self.now in
    let v = c.args.request.verb in
    let name = c.args.request.name.now in
    (refl, refused l c.requires.kept v name c.in-Some.kind (clear l v name c.seat_of-seat.result c.len.result c.fault_of.result c.fault_of.ensures c.seat_of-seat.ensures c.len.ensures.len (Some c.in-Some.kind) c.in-Some.is))

pub returns-in_default-2-clause-err : goal.returns-in_default-2-clause-err
returns-in_default-2-clause-err c =
    let l = c.args.self.now in
    let v = c.args.request.verb in
    let name = c.args.request.name.now in
    let fits = clear l v name c.seat_of-seat.result c.len.result c.fault_of.result c.fault_of.ensures c.seat_of-seat.ensures c.len.ensures.len None c.in_default.is in
    (refl, unknown l c.requires.kept v name fits (no_command c.args.line v name (sym c.in_ok-command.ensures ∙ c.in_default-2.is)))
