use Rattle.std.proofs.Common.{◌<◌, sym, subst, refl, false, length}
use Rattle.std.proofs.lemmas.Option.{slice_get_within}
use Rattle.sp_desk.specs.Desks.{DeskParts, IsOpenAt}
use Rattle.sp_desk.specs.Asked.{HasClosed}
use Rattle.sp_desk.specs.Kept.{desk_in}
use Rattle.sp_desk.proofs.PlaceLemmas.{with_seat, shut_desk, closes_at}
use Rattle.sp_desk.proofs.desk.Desk.close_named.Goals as goal

pub invariant_of-self : goal.invariant_of-self
invariant_of-self c =
    let at : IsOpenAt c.args.name.now (desk_in c.self.inside).seats c.in-Some.place c.in-Some.ensures.0 = subst (λ (p : DeskParts). IsOpenAt c.args.name.now p.seats c.in-Some.place c.in-Some.ensures.0) (sym c.self.view_is) c.in-Some.ensures.1 in
    let below : c.in-Some.place < length (desk_in c.self.inside).seats = slice_get_within (desk_in c.self.inside).seats c.in-Some.place c.in-Some.ensures.0 at.there in
    shut_desk (desk_in c.self.inside) c.self.invariant c.in-Some.place c.index_mut.result.now below c.index_mut.ensures.value (record c.index_mut.result.now { is_open = false }) refl

pub returns-clause-ok : goal.returns-clause-ok
returns-clause-ok c =
    let at : IsOpenAt c.args.name.now (desk_in c.self.inside).seats c.in-Some.place c.in-Some.ensures.0 = subst (λ (p : DeskParts). IsOpenAt c.args.name.now p.seats c.in-Some.place c.in-Some.ensures.0) (sym c.self.view_is) c.in-Some.ensures.1 in
    let below : c.in-Some.place < length (desk_in c.self.inside).seats = slice_get_within (desk_in c.self.inside).seats c.in-Some.place c.in-Some.ensures.0 at.there in
    subst (λ (p : DeskParts). HasClosed p c.args.name.now (with_seat (desk_in c.self.inside) c.in-Some.place (record c.index_mut.result.now { is_open = false }))) c.self.view_is
    (closes_at (desk_in c.self.inside) c.self.invariant c.in-Some.place c.index_mut.result.now below c.index_mut.ensures.value c.args.name.now c.in-Some.ensures.0 at)
