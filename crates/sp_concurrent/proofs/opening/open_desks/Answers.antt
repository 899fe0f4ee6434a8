use Rattle.std.proofs.Common.{◌≡◌, ◌∙◌, sym, ap, subst, refl, arith, List, map, Some, get_or}
use Rattle.std.specs.Prelude.{All}
use Rattle.std.specs.Arc.{arc_value}
use Rattle.sp_theory.specs.Points.{count_of}
use Rattle.sp_model.specs.Problem.{sizes_of}
use Rattle.sp_value.specs.Tasks.{TaskParts}
use Rattle.sp_publish.specs.Published.{PublishedList}
use Rattle.sp_script.specs.Laws.{IsObservationWithin}
use Rattle.sp_script.specs.declared.command.Command.{Command}
use Rattle.sp_desk.specs.Runs.{work_of}
use Rattle.sp_concurrent.proofs.Ending.{first_edition_is, one_of_task, opened_is}
use Rattle.sp_concurrent.proofs.opening.open_desks.Goals as goal

pub begin-requires : goal.begin-requires
begin-requires g c =
    let first = first_edition_is c.args.book.now (arc_value c.in_ok-edition.edition) c.requires.opening (c.latest.ensures ∙ ap Some (sym c.in_ok-edition.ensures)) in
    let count = c.len.ensures in
    let some = c.requires.some in
    let few = c.requires.few in
    record { first = first.1; viewers = (omega (arith, count, some), omega (arith, count, few)) }

pub seat-requires : goal.seat-requires
seat-requires g c =
    let e = arc_value c.in_ok-edition.edition in
    let first = first_edition_is c.args.book.now e c.requires.opening (c.latest.ensures ∙ ap Some (sym c.in_ok-edition.ensures)) in
    let made = c.in_ok-publisher.ensures in
    let viewers = c.in_ok-publisher.viewers.items in
    record {
      count = made.count ∙ c.len.ensures;
      task = λ k d less.
          one_of_task (get_or viewers k d) e (arc_value c.task.result.now) (ap (λ (p : PublishedList). p.editions) (made.viewers k d less) ∙ made.editions)
          (first.2 ∙ sym c.task.ensures.value);
      within = subst (λ (t : TaskParts). All (All (IsObservationWithin (count_of (sizes_of t.model.sights)))) c.args.hands.items) (sym c.task.ensures.value) c.requires.within;
    }

pub returns-in-Ok : goal.returns-in-Ok
returns-in-Ok g c =
    let e = arc_value c.in_ok-edition.edition in
    let first = first_edition_is c.args.book.now e c.requires.opening (c.latest.ensures ∙ ap Some (sym c.in_ok-edition.ensures)) in
    let made = c.in_ok-publisher.ensures in
    let runs = c.in-Ok.runs in
    let hands = c.args.hands.items in
    let work = subst (λ (t : TaskParts). map work_of runs.items ≡ map (λ (cs : List Command). (cs, t)) hands) c.task.ensures.value c.in-Ok.ensures.work in
    opened_is c.args.book.now hands (record { publisher = c.in_ok-publisher.publisher; first = c.in_ok-publisher.first; runs = runs }) c.in_ok-publisher.publisher e
    first.0 made.editions made.open refl made.notice work c.in_ok-publisher.viewers.items made.viewers c.in-Ok.ensures.known
