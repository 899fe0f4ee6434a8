use Rattle.std.proofs.Common.{◌∙◌, ◌≤◌, ◌++◌, ◌∷◌, [], sym, ap, subst, List, map, Global}
use Rattle.std.specs.Arc.{arc_value}
use Rattle.std.specs.declared.sync.Arc.{Arc}
use Rattle.std.proofs.lemmas.List.{map-append}
use Rattle.sp_value.specs.declared.editions.Edition.{Edition}
use Rattle.sp_value.specs.Editions.{EditionParts, IsEdition}
use Rattle.sp_session.specs.declared.logs.Entry as kept
use Rattle.sp_session.specs.declared.logs.Entry.TheVariants.{Act}
use Rattle.sp_session.specs.Sessions.{SessionParts, session_of}
use Rattle.sp_session.specs.Seats.{parts_in}
use Rattle.sp_session.specs.Answering.{IsAnswerOf}
use Rattle.sp_session.proofs.Entering.{entries-push}
use Rattle.sp_session.proofs.Seating.{seat_acted}
use Rattle.sp_session.proofs.acting.Session.act.Goals as goal

pub invariant_of-self-2 : goal.invariant_of-self-2
invariant_of-self-2 c =
    let s = parts_in c.self.inside in
    let e = arc_value c.args.edition.now in
    let answer = c.in_ok-answer.answer in
    let x = Act answer.edition answer.member answer.action in
    let known : IsEdition e = subst IsEdition c.deref.ensures c.members.ensures.known in
    let is : IsAnswerOf s e answer = subst (λ (p : SessionParts). IsAnswerOf p e answer) (sym c.self.view_is) (subst (λ (d : EditionParts). IsAnswerOf c.args.self.now d answer) c.deref-2.ensures c.in_ok-answer.ensures) in
    let pushed = c.push_reserved.ensures.items ∙ ap (λ (xs : List kept.Entry). xs ++ x ∷ []) c.in_ok-reserve.ensures.items in
    let shelved = c.push_reserved-2.ensures.items ∙ ap (λ (es : List (Arc Edition Global)). es ++ c.in_ok-edition.edition ∷ []) c.in_ok-reserve-2.ensures.items in
    seat_acted s c.self.inside.weights c.self.inside.newest c.self.inside.acted c.self.invariant e known
    (c.requires.task ∙ ap (λ (p : SessionParts). p.task) (sym c.self.view_is))
    (subst (λ (p : SessionParts). (session_of p).newest ≤ e.number) (sym c.self.view_is) c.requires.newest)
    answer is _ (entries-push c.self.inside.entries.items c.push_reserved.new.self.items x pushed)
    _ (ap (map arc_value) shelved ∙ map-append arc_value c.self.inside.editions.items (c.in_ok-edition.edition ∷ []) ∙ ap (λ (d : EditionParts). s.editions ++ d ∷ []) c.in_ok-edition.ensures)
