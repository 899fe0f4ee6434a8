use Rattle.std.proofs.Common.{◌∙◌, sym, ap, rules, List, get_or}
use Rattle.std.specs.Int.{w128}
use Rattle.std.specs.Prelude.{FitsSigned}
use Rattle.std.proofs.lemmas.Int.{to_z-of_z}
use Rattle.std.proofs.lemmas.Option.{get_or_from_slice_get}
use Rattle.sp_value.specs.declared.editions.Member.{Member}
use Rattle.sp_value.specs.Editions.{no_member}
use Rattle.sp_session.specs.Sessions.{SessionParts}
use Rattle.sp_session.specs.Seats.{parts_in}
use Rattle.sp_session.proofs.Seating.{is_answer, answer_seen}
use Rattle.sp_session.proofs.acting.Session.answer_on.Goals as goal

pub returns : goal.returns
returns c =
    let e = c.args.edition.now in
    let fits : FitsSigned w128 c.in_ok-place.value = search rules in
    let read = sym (get_or_from_slice_get c.members.result.now c.in_ok-place.place c.at-member.result.now no_member c.at-member.ensures) ∙ ap (λ (xs : List Member). get_or xs c.in_ok-place.place no_member) c.members.ensures.value in
    answer_seen (parts_in c.self.inside) c.args.self.now e _ c.self.view_is
    (is_answer (parts_in c.self.inside) c.self.inside.weights c.self.inside.newest c.self.inside.acted c.self.invariant e c.members.ensures.known
    (c.requires ∙ ap (λ (s : SessionParts). s.task) (sym c.self.view_is))
    c.in_ok-place.place c.in_ok-place.ensures.0 _ c.number.ensures (ap (λ (x : Member). x.id) read) (ap (λ (x : Member). x.action) read) (to_z-of_z w128 _ fits ∙ c.in_ok-place.ensures.1))
