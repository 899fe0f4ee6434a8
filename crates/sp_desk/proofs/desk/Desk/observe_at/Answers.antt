use Rattle.std.proofs.Common.{◌<◌, sym, subst, length}
use Rattle.std.proofs.lemmas.Result.{on_ok_weaker, IfErr-weaker}
use Rattle.sp_desk.specs.Desks.{DeskParts}
use Rattle.sp_desk.specs.Kept.{desk_in}
use Rattle.sp_desk.specs.Places.{ObservesAt, RefusesPlace}
use Rattle.sp_desk.proofs.PlaceLemmas.{with_seat, observe_desk, observes_at, refuses_place}
use Rattle.sp_desk.proofs.desk.Desk.observe_at.Goals as goal

pub invariant_of-self : goal.invariant_of-self
invariant_of-self c =
    let below : c.args.place < length (desk_in c.self.inside).seats = subst (λ (p : DeskParts). c.args.place < length p.seats) (sym c.self.view_is) c.requires.place in
    observe_desk (desk_in c.self.inside) c.self.invariant c.args.place c.index_mut.result.now below c.index_mut.ensures.value c.observe.result c.args.observation c.observe.new.self c.observe.ensures.ok c.observe.ensures.err c.observe.ensures.known

pub returns-clause-ok : goal.returns-clause-ok
returns-clause-ok c =
    let below : c.args.place < length (desk_in c.self.inside).seats = subst (λ (p : DeskParts). c.args.place < length p.seats) (sym c.self.view_is) c.requires.place in
    on_ok_weaker c.observe.result
    (λ is. subst (λ (p : DeskParts). ObservesAt p c.args.place c.args.observation (with_seat (desk_in c.self.inside) c.args.place c.observe.new.self)) c.self.view_is
    (observes_at (desk_in c.self.inside) c.self.invariant c.args.place c.index_mut.result.now below c.index_mut.ensures.value c.args.observation c.observe.new.self is c.observe.ensures.seat))
    c.observe.ensures.ok

pub returns-clause-err : goal.returns-clause-err
returns-clause-err c =
    let below : c.args.place < length (desk_in c.self.inside).seats = subst (λ (p : DeskParts). c.args.place < length p.seats) (sym c.self.view_is) c.requires.place in
    IfErr-weaker c.observe.result _ _
    (λ e is. subst (λ (p : DeskParts). RefusesPlace p c.args.place c.args.observation e (with_seat (desk_in c.self.inside) c.args.place c.observe.new.self)) c.self.view_is
    (refuses_place (desk_in c.self.inside) c.self.invariant c.args.place c.index_mut.result.now below c.index_mut.ensures.value c.args.observation e c.observe.new.self is c.observe.ensures.seat))
    c.observe.ensures.err
