use Rattle.std.proofs.Common.{◌∙◌, ◌<◌, ◌++◌, ◌∷◌, [], sym, ap, subst, List, length}
use Rattle.std.specs.Prelude.{All}
use Rattle.sp_theory.specs.Logs.{Entry}
use Rattle.sp_session.specs.declared.logs.Entry as kept
use Rattle.sp_session.specs.declared.logs.Entry.TheVariants.{Closing}
use Rattle.sp_session.specs.Logs.{entries_of}
use Rattle.sp_session.specs.Sessions.{SessionParts, IsEntryOf}
use Rattle.sp_session.specs.Seats.{parts_in}
use Rattle.sp_session.proofs.Entering.{entries-push, one_more}
use Rattle.sp_session.proofs.acting.Session.finish.Goals as goal

pub returns-clause-known : goal.returns-clause-known
returns-clause-known c =
    let s = parts_in c.session.inside in
    let answer = c.in-Ok.answer in
    let x = Closing answer.edition answer.member answer.action in
    let pushed = c.push_reserved.ensures.items ∙ ap (λ (xs : List kept.Entry). xs ++ x ∷ []) c.reserve.ensures.items in
    let after = ap entries_of c.from_vec.ensures ∙ entries-push c.session.inside.entries.items c.push_reserved.new.self.items x pushed in
    let known : answer.action < length s.task.model.actions = subst (λ (p : SessionParts). answer.action < length p.task.model.actions) (sym c.session.view_is) c.in-Ok.ensures.known in
    subst (λ (p : SessionParts). All (IsEntryOf p.task.model) (entries_of c.from_vec.result)) c.session.view_is
    (subst (λ (xs : List Entry). All (IsEntryOf s.task.model) xs) (sym after) (one_more (IsEntryOf s.task.model) s.entries _ c.session.invariant.session.known known))
