use Rattle.std.proofs.Common.{◌<◌, sym, subst, length}
use Rattle.sp_desk.specs.Desks.{DeskParts}
use Rattle.sp_desk.specs.Kept.{desk_in}
use Rattle.sp_desk.specs.Places.{TellsAt}
use Rattle.sp_desk.proofs.PlaceLemmas.{with_seat, told_desk, tells_at}
use Rattle.sp_desk.proofs.desk.Desk.tell_at.Goals as goal

pub invariant_of-self-2 : goal.invariant_of-self-2
invariant_of-self-2 c =
    let below : c.args.place < length (desk_in c.self.inside).seats = subst (λ (p : DeskParts). c.args.place < length p.seats) (sym c.self.view_is) c.requires.place in
    let less : c.args.number < length (desk_in c.self.inside).known.editions = subst (λ (p : DeskParts). c.args.number < length p.known.editions) (sym c.self.view_is) c.requires.number in
    told_desk (desk_in c.self.inside) c.self.invariant c.args.place c.index_mut.result.now below c.index_mut.ensures.value c.args.number c.in_ok-told.told c.tell.new.self less c.in_ok-told.ensures.which c.in_ok-told.ensures.ok c.tell.ensures.known

pub returns-clause-ok : goal.returns-clause-ok
returns-clause-ok c =
    let below : c.args.place < length (desk_in c.self.inside).seats = subst (λ (p : DeskParts). c.args.place < length p.seats) (sym c.self.view_is) c.requires.place in
    subst (λ (p : DeskParts). TellsAt p c.args.place c.args.number c.in_ok-told.told (with_seat (desk_in c.self.inside) c.args.place c.tell.new.self)) c.self.view_is
    (tells_at (desk_in c.self.inside) c.self.invariant c.args.place c.index_mut.result.now below c.index_mut.ensures.value c.args.number c.in_ok-told.told c.tell.new.self c.in_ok-told.ensures.which c.in_ok-told.ensures.ok c.tell.ensures.seat)
