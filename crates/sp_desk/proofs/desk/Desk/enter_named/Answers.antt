use Rattle.std.proofs.Common.{◌≡◌, ◌≢◌, ◌∙◌, ◌++◌, ◌∷◌, [], sym, ap, subst, List}
use Rattle.std.specs.Prelude.{All}
use Rattle.sp_session.specs.Sessions.{IsSession, first_parts}
use Rattle.sp_desk.specs.declared.seats.Seat.{Seat}
use Rattle.sp_desk.specs.Desks.{DeskParts, IsDesk, names_in}
use Rattle.sp_desk.specs.Kept.{desk_in}
use Rattle.sp_desk.proofs.DeskLemmas.{desk_entered}
use Rattle.sp_desk.proofs.desk.Desk.enter_named.Goals as goal

pub invariant_of-self-2 : goal.invariant_of-self-2
invariant_of-self-2 c =
    let d = desk_in c.self.inside in
    let name = c.args.name.now in
    let seat = c.in_ok-seat.seat in
    let items : c.push_reserved.new.self.items ≡ d.seats ++ seat ∷ [] = c.push_reserved.ensures.items ∙ ap (λ (ss : List Seat). ss ++ seat ∷ []) c.in_ok-reserve.ensures.items in
    let known : IsSession (first_parts name d.task) = subst (λ (s : Seat). IsSession s.session) c.in_ok-seat.ensures.value c.in_ok-seat.ensures.known in
    let fresh : All (λ other. other ≢ name) (names_in d.seats) = subst (λ (p : DeskParts). All (λ other. other ≢ name) (names_in p.seats)) (sym c.self.view_is) c.requires in
    subst (λ (ss : List Seat). IsDesk (record d { seats = ss })) (sym (items ∙ ap (λ (s : Seat). d.seats ++ s ∷ []) c.in_ok-seat.ensures.value)) (desk_entered d name c.self.invariant fresh known)
