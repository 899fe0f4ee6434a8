use Rattle.std.proofs.Common.{◌≡◌, ◌∙◌, ℕ, ap, sym, subst, arith, Some, slice_get}
use Rattle.std.specs.Arc.{arc_value}
use Rattle.sp_value.specs.Tasks.{TaskParts}
use Rattle.sp_publish.specs.Published.{PublishedList, IsOfTask}
use Rattle.sp_workers.proofs.Beginnings.{edition_at, list_task, begins_more, count_more}
use Rattle.sp_watchers.proofs.begun.publish_edition.Goals as goal

pub publish-requires-clause-number : goal.publish-requires-clause-number
publish-requires-clause-number g c =
    let at = sym c.in-Some.ensures ∙ ap Some (sym c.in_ok-next.ensures) in
    (edition_at c.args.book.now c.task.ensures.known c.args.number (arc_value c.in_ok-next.next) at).0 ∙ sym c.requires.next

pub publish-requires-clause-task : goal.publish-requires-clause-task
publish-requires-clause-task g c =
    let at = sym c.in-Some.ensures ∙ ap Some (sym c.in_ok-next.ensures) in
    subst (λ (t : TaskParts). IsOfTask c.args.publisher.now t) (sym (edition_at c.args.book.now c.task.ensures.known c.args.number (arc_value c.in_ok-next.next) at).1)
    (list_task c.args.publisher.now c.args.book.now c.task.ensures.known c.requires.beginning)

pub returns-clause-beginning : goal.returns-clause-beginning
returns-clause-beginning g c =
    let at = sym c.in-Some.ensures ∙ ap Some (sym c.in_ok-next.ensures) in
    begins_more c.args.publisher.now c.publish.new.self (arc_value c.in_ok-next.next) c.in_ok-told.ensures.published c.args.book.now c.requires.beginning
    (subst (λ (n : ℕ). slice_get c.args.book.now.editions n ≡ Some (arc_value c.in_ok-next.next)) (sym c.requires.next) at)

pub returns-clause-more : goal.returns-clause-more
returns-clause-more g c =
    let more = count_more c.args.publisher.now c.publish.new.self (arc_value c.in_ok-next.next) c.in_ok-told.ensures.published in
    let next = c.requires.next in omega (arith, more, next)
