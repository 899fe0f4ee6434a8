use Rattle.std.proofs.Common.{◌∙◌, ◌<◌, ◌++◌, ◌∷◌, [], sym, ap, subst, List, None}
use Rattle.std.specs.Arc.{arc_value}
use Rattle.sp_theory.specs.Points.{count_of}
use Rattle.sp_theory.specs.Logs.{Entry}
use Rattle.sp_model.specs.declared.parts.Parts.{Parts}
use Rattle.sp_model.specs.Problem.{sizes_of}
use Rattle.sp_value.specs.Tasks.{TaskParts, IsTask}
use Rattle.sp_belief.specs.declared.error.NextError.{NextError}
use Rattle.sp_belief.specs.Updates.{AreNext, IsUnseen, IfUnseen}
use Rattle.sp_session.specs.declared.logs.Entry as kept
use Rattle.sp_session.specs.declared.logs.Entry.TheVariants.{Observe, Unseen}
use Rattle.sp_session.specs.Sessions.{SessionParts}
use Rattle.sp_session.specs.Seats.{parts_in, IsSeat}
use Rattle.sp_session.proofs.Entering.{entries-push}
use Rattle.sp_session.proofs.Seating.{seat_observed, seat_unseen, is_seen, is_unseen, has_acted, observed_seen, refused_seen}
use Rattle.sp_session.proofs.acting.Session.observe.Goals as goal

pub invariant_of-self-in-Ok : goal.invariant_of-self-in-Ok
invariant_of-self-in-Ok c =
    let s = parts_in c.self.inside in
    let t = arc_value c.self.inside.task in
    let x = Observe c.args.observation in
    let pushed = c.push_reserved.ensures.items ∙ ap (λ (xs : List kept.Entry). xs ++ x ∷ []) c.in_ok-reserve.ensures.items in
    let known : IsTask t = subst IsTask c.deref.ensures c.model.ensures.known in
    let model = c.model.ensures.value ∙ ap (λ (u : TaskParts). u.model) c.deref.ensures in
    let next : AreNext t.model c.self.inside.weights c.in-Some.action c.args.observation c.in-Ok.weights = subst (λ (p : Parts). AreNext p c.self.inside.weights c.in-Some.action c.args.observation c.in-Ok.weights) model c.in-Ok.ensures.ok in
    subst (λ (xs : List Entry). IsSeat (record s { entries = xs }) c.in-Ok.weights c.self.inside.newest None) (sym (entries-push c.self.inside.entries.items c.push_reserved.new.self.items x pushed))
    (seat_observed s c.self.inside.weights c.self.inside.newest c.self.inside.acted c.self.invariant c.in-Some.action c.args.observation c.in-Some.is
    (subst (λ (p : SessionParts). c.args.observation < count_of (sizes_of p.task.model.sights)) (sym c.self.view_is) c.requires) c.in-Ok.weights next (next.scope ∙ known.model.scope))

pub invariant_of-self-in-Err-Unseen : goal.invariant_of-self-in-Err-Unseen
invariant_of-self-in-Err-Unseen c =
    let s = parts_in c.self.inside in
    let t = arc_value c.self.inside.task in
    let x = Unseen c.args.observation in
    let pushed = c.push_reserved-in-Err-Unseen.ensures.items ∙ ap (λ (xs : List kept.Entry). xs ++ x ∷ []) c.in_ok-reserve.ensures.items in
    let model = c.model.ensures.value ∙ ap (λ (u : TaskParts). u.model) c.deref.ensures in
    let none : IsUnseen t.model c.self.inside.weights c.in-Some.action c.args.observation = subst (λ (p : Parts). IsUnseen p c.self.inside.weights c.in-Some.action c.args.observation) model
    (subst (λ (e : NextError). IfUnseen e (IsUnseen c.model.result.now c.self.inside.weights c.in-Some.action c.args.observation)) c.in-Err-Unseen.field-0-is c.in-Err-Unseen.ensures.err) in
    subst (λ (xs : List Entry). IsSeat (record s { entries = xs }) c.self.inside.weights c.self.inside.newest c.self.inside.acted) (sym (entries-push c.self.inside.entries.items c.push_reserved-in-Err-Unseen.new.self.items x pushed))
    (seat_unseen s c.self.inside.weights c.self.inside.newest c.self.inside.acted c.self.invariant c.in-Some.action c.args.observation c.in-Some.is
    (subst (λ (p : SessionParts). c.args.observation < count_of (sizes_of p.task.model.sights)) (sym c.self.view_is) c.requires) none)

pub returns-in-Ok-clause-ok : goal.returns-in-Ok-clause-ok
returns-in-Ok-clause-ok c =
    let s = parts_in c.self.inside in
    let t = arc_value c.self.inside.task in
    let x = Observe c.args.observation in
    let pushed = c.push_reserved.ensures.items ∙ ap (λ (xs : List kept.Entry). xs ++ x ∷ []) c.in_ok-reserve.ensures.items in
    let model = c.model.ensures.value ∙ ap (λ (u : TaskParts). u.model) c.deref.ensures in
    let next : AreNext t.model c.self.inside.weights c.in-Some.action c.args.observation c.in-Ok.weights = subst (λ (p : Parts). AreNext p c.self.inside.weights c.in-Some.action c.args.observation c.in-Ok.weights) model c.in-Ok.ensures.ok in
    let after = entries-push c.self.inside.entries.items c.push_reserved.new.self.items x pushed in
    observed_seen s c.args.self.now _ c.args.observation c.self.view_is
    (is_seen s c.self.inside.weights c.self.inside.newest c.self.inside.acted c.self.invariant c.in-Some.action c.args.observation c.in-Some.is c.in-Ok.weights next)
    (ap (λ (xs : List Entry). record s { entries = xs }) after)

pub returns-in-Err-Unseen-clause-err : goal.returns-in-Err-Unseen-clause-err
returns-in-Err-Unseen-clause-err c =
    let s = parts_in c.self.inside in
    let t = arc_value c.self.inside.task in
    let x = Unseen c.args.observation in
    let pushed = c.push_reserved-in-Err-Unseen.ensures.items ∙ ap (λ (xs : List kept.Entry). xs ++ x ∷ []) c.in_ok-reserve.ensures.items in
    let model = c.model.ensures.value ∙ ap (λ (u : TaskParts). u.model) c.deref.ensures in
    let none : IsUnseen t.model c.self.inside.weights c.in-Some.action c.args.observation = subst (λ (p : Parts). IsUnseen p c.self.inside.weights c.in-Some.action c.args.observation) model
    (subst (λ (e : NextError). IfUnseen e (IsUnseen c.model.result.now c.self.inside.weights c.in-Some.action c.args.observation)) c.in-Err-Unseen.field-0-is c.in-Err-Unseen.ensures.err) in
    let after = entries-push c.self.inside.entries.items c.push_reserved-in-Err-Unseen.new.self.items x pushed in
    refused_seen s c.args.self.now _ c.args.observation c.self.view_is
    (has_acted s c.self.inside.weights c.self.inside.newest c.self.inside.acted c.self.invariant c.in-Some.action c.in-Some.is)
    (is_unseen s c.self.inside.weights c.self.inside.newest c.self.inside.acted c.self.invariant c.in-Some.action c.args.observation c.in-Some.is none)
    (ap (λ (xs : List Entry). record s { entries = xs }) after)
