use Rattle.std.proofs.Common.{◌≡◌, ◌<◌, sym, subst, length, Some}
use Rattle.std.specs.Arc.{arc_value}
use Rattle.sp_publish.specs.Published.{newest_in}
use Rattle.sp_desk.specs.Desks.{DeskParts}
use Rattle.sp_desk.specs.Kept.{desk_in}
use Rattle.sp_desk.specs.Places.{AnswersAt}
use Rattle.sp_desk.proofs.PlaceLemmas.{with_seat, answered_desk, answers_at}
use Rattle.sp_desk.proofs.desk.Desk.answer_at.Goals as goal

pub invariant_of-self-2 : goal.invariant_of-self-2
invariant_of-self-2 c =
    let e = arc_value c.args.newest.now in
    let below : c.args.place < length (desk_in c.self.inside).seats = subst (λ (p : DeskParts). c.args.place < length p.seats) (sym c.self.view_is) c.requires.place in
    let new : newest_in (desk_in c.self.inside).known ≡ Some e = subst (λ (p : DeskParts). newest_in p.known ≡ Some e) (sym c.self.view_is) c.requires.newest in
    answered_desk (desk_in c.self.inside) c.self.invariant c.args.place c.index_mut.result.now below c.index_mut.ensures.value e c.in_ok-answer.answer c.answer.new.self new c.in_ok-answer.ensures.ok c.answer.ensures.known

pub returns-clause-ok : goal.returns-clause-ok
returns-clause-ok c =
    let e = arc_value c.args.newest.now in
    let below : c.args.place < length (desk_in c.self.inside).seats = subst (λ (p : DeskParts). c.args.place < length p.seats) (sym c.self.view_is) c.requires.place in
    let new : newest_in (desk_in c.self.inside).known ≡ Some e = subst (λ (p : DeskParts). newest_in p.known ≡ Some e) (sym c.self.view_is) c.requires.newest in
    subst (λ (p : DeskParts). AnswersAt p c.args.place e c.in_ok-answer.answer (with_seat (desk_in c.self.inside) c.args.place c.answer.new.self)) c.self.view_is
    (answers_at (desk_in c.self.inside) c.self.invariant c.args.place c.index_mut.result.now below c.index_mut.ensures.value e c.in_ok-answer.answer c.answer.new.self new c.in_ok-answer.ensures.ok c.answer.ensures.seat)
