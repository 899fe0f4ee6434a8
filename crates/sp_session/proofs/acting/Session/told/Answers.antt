use Rattle.std.proofs.Common.{◌∙◌, ◌≤◌, ◌++◌, ◌∷◌, [], sym, ap, subst, List}
use Rattle.sp_theory.specs.Logs.{Entry}
use Rattle.sp_session.specs.declared.logs.Entry as kept
use Rattle.sp_session.specs.declared.logs.Entry.TheVariants.{Told}
use Rattle.sp_session.specs.Sessions.{SessionParts, session_of}
use Rattle.sp_session.specs.Seats.{parts_in, IsSeat}
use Rattle.sp_session.proofs.Entering.{entries-push}
use Rattle.sp_session.proofs.Seating.{seat_told}
use Rattle.sp_session.proofs.acting.Session.told.Goals as goal

pub invariant_of-self-2 : goal.invariant_of-self-2
invariant_of-self-2 c =
    let s = parts_in c.self.inside in
    let x = Told c.args.number in
    let pushed = c.push_reserved.ensures.items ∙ ap (λ (xs : List kept.Entry). xs ++ x ∷ []) c.in_ok-reserve.ensures.items in
    subst (λ (xs : List Entry). IsSeat (record s { entries = xs }) c.self.inside.weights c.args.number c.self.inside.acted) (sym (entries-push c.self.inside.entries.items c.push_reserved.new.self.items x pushed))
    (seat_told s c.self.inside.weights c.self.inside.newest c.self.inside.acted c.self.invariant c.args.number (subst (λ (p : SessionParts). (session_of p).newest ≤ c.args.number) (sym c.self.view_is) c.requires))
