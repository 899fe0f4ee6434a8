use Rattle.std.proofs.Common.{◌≡◌, sym, ap, subst, arith, List, length}
use Rattle.std.specs.Prelude.{All}
use Rattle.sp_theory.specs.Points.{count_of}
use Rattle.sp_model.specs.Problem.{sizes_of}
use Rattle.sp_core.specs.Books.{BookParts}
use Rattle.sp_script.specs.declared.command.Command.{Command}
use Rattle.sp_script.specs.Commands.{opening_count}
use Rattle.sp_script.specs.Laws.{IsObservationWithin}
use Rattle.sp_session.specs.Logs.{logs_of}
use Rattle.sp_concurrent.specs.Deals.{desk_of}
use Rattle.sp_concurrent.specs.Served.{AreServedBeside}
use Rattle.sp_concurrent.proofs.Ending.{hands_within, some_desks, few_desks, opened_begins, opened_some, queue_count, desks_of_list, served_at, all_served}
use Rattle.sp_concurrent.proofs.planning.plan_serving.Goals as goal

pub open_desks-requires : goal.open_desks-requires
open_desks-requires g c =
    let cs = c.as_slice-commands.result.now in
    let n = c.desk_count-desks.result in
    let hands = c.in_ok-hands.hands.items in
    let count = c.in_ok-hands.ensures.count in
    let some = some_desks n (opening_count cs) c.desk_count-desks.ensures in
    let few = few_desks n (opening_count cs) c.desk_count-desks.ensures in
    record {
      opening = c.requires.opening;
      some = omega (arith, count, some, c.in_ok-hands.hands.ok.0);
      few = omega (arith, count, few, c.in_ok-hands.hands.ok.0);
      within = hands_within (desk_of n c.in_ok-names.names) n cs hands c.in_ok-hands.ensures _
          (subst (λ (ds : List Command). All (IsObservationWithin (count_of (sizes_of c.args.book.task.model.sights))) ds) (sym c.as_slice-commands.ensures.value) c.requires.within);
    }

pub plan_to_end-requires : goal.plan_to_end-requires
plan_to_end-requires g c =
    let opened = c.in_ok-opened.ensures in
    let o = c.in_ok-opened.opened in
    let hands = c.in_ok-hands.hands.items in (
      c.type_bounds.sync-R,
      (
        c.type_bounds.sync-G,
        (
          ap (λ (b : BookParts). b.history) c.requires.opening,
          (
            opened_begins c.args.book hands o opened,
            (
              opened_some c.args.book hands o opened c.requires.opening,
              (
                opened.first,
                opened.list,
              ),
            ),
          ),
        ),
      ),
    )

pub close_desks-requires : goal.close_desks-requires
close_desks-requires g c =
    let ended = c.in_ok-book.ensures in
    record {
      list = desks_of_list (desk_of c.desk_count-desks.result c.in_ok-names.names) c.desk_count-desks.result c.as_slice-commands.result.now
          c.in_ok-hands.hands.items c.in_ok-hands.ensures c.args.book c.in_ok-opened.opened c.in_ok-opened.ensures c.in_ok-book.field-0 ended;
      ended = ended.ended;
    }

pub gather-requires : goal.gather-requires
gather-requires g c =
    let cs = c.as_slice-commands.result.now in
    let n = c.desk_count-desks.result in
    let desk = desk_of n c.in_ok-names.names in
    let hands = c.in_ok-hands.hands.items in
    let queues = c.in_ok-queues.queues.items in
    let count : length queues ≡ n = queue_count desk n cs hands c.in_ok-hands.ensures c.args.book c.in_ok-opened.opened c.in_ok-opened.ensures c.in_ok-book.field-0 c.in_ok-book.ensures queues c.in_ok-queues.ensures in
    let some = some_desks n (opening_count cs) c.desk_count-desks.ensures in
    record {
      some = omega (arith, some);
      count = omega (arith, count, c.in_ok-queues.queues.ok.0);
      dealt = λ d less. (served_at desk n cs hands c.in_ok-hands.ensures c.args.book c.in_ok-opened.opened c.in_ok-opened.ensures c.in_ok-book.field-0 c.in_ok-book.ensures queues c.in_ok-queues.ensures d less).sessions;
    }

pub returns-clause-served : goal.returns-clause-served
returns-clause-served g c =
    let cs = c.as_slice-commands.result.now in
    let n = c.desk_count-desks.result in
    subst (λ (ds : List Command). AreServedBeside c.in_ok-book.field-0.book ds (logs_of c.in_ok-transcript.transcript)) c.as_slice-commands.ensures.value
    (all_served (desk_of n c.in_ok-names.names) n cs c.in_ok-hands.hands.items c.in_ok-hands.ensures c.args.book c.in_ok-opened.opened c.in_ok-opened.ensures c.in_ok-book.field-0 c.in_ok-book.ensures
    c.in_ok-queues.queues.items c.in_ok-queues.ensures (logs_of c.in_ok-transcript.transcript) c.in_ok-transcript.ensures.names c.in_ok-transcript.ensures.each)
