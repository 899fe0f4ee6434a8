use Rattle.std.proofs.Common.{◌≡◌, ◌∙◌, ◌≤◌, ◌+◌, sym, ap, subst, ℕ}
use Rattle.std.specs.Prelude.{All}
use Rattle.std.specs.Arc.{arc_value}
use Rattle.sp_value.specs.Tasks.{TaskParts}
use Rattle.sp_value.specs.Editions.{EditionParts}
use Rattle.sp_serving.specs.Serving.{ServingParts, IsSeatOf, with_next, shown_in}
use Rattle.sp_serving.specs.Kept.{IsKeptBy, parts_of}
use Rattle.sp_serving.proofs.Keeping.{session_there, all_seats, all_fit, given_next, next_is, kept_next}
use Rattle.sp_serving.proofs.serving.Serving.serve_on.Goals as goal

pub give-requires-clause-there : goal.give-requires-clause-there
give-requires-clause-there c =
    let s = c.self.inside in
    session_there (arc_value s.task) s.commands s.count s.newest s.sessions.items c.self.invariant c.at-command.result.now c.at-command.ensures.value

pub give-requires-clause-seats : goal.give-requires-clause-seats
give-requires-clause-seats c =
    let s = c.self.inside in
    let e = arc_value c.args.edition.now in
    subst (λ (t : TaskParts). All (IsSeatOf t e.number) s.sessions.items) (ap (λ (p : ServingParts). p.task) c.self.view_is ∙ sym c.requires.task)
    (all_seats (arc_value s.task) s.commands s.count s.newest s.sessions.items c.self.invariant c.at-command.result.now c.at-command.ensures.value e.number (subst (λ (p : ServingParts). p.newest ≤ e.number) (sym c.self.view_is) c.requires.newest))

pub give-requires-clause-fit : goal.give-requires-clause-fit
give-requires-clause-fit c =
    let s = c.self.inside in
    all_fit (arc_value s.task) s.commands s.count s.newest s.sessions.items c.self.invariant c.at-command.result.now c.at-command.ensures.value

pub invariant_of-self-2 : goal.invariant_of-self-2
invariant_of-self-2 c =
    let s = c.self.inside in
    let e = arc_value c.args.edition.now in
    let number : c.number-self-inside.result ≡ e.number = c.number-self-inside.ensures ∙ ap (λ (x : EditionParts). x.number) c.deref.ensures in
    let later : s.newest ≤ e.number = subst (λ (p : ServingParts). p.newest ≤ e.number) (sym c.self.view_is) c.requires.newest in
    let given = given_next (arc_value s.task) s.commands s.count s.newest s.sessions.items c.self.invariant c.at-command.result.now c.at-command.ensures.value (shown_in e) c.give.new.sessions.items c.in_ok-give.ensures.opened c.in_ok-give.ensures.replied in
    subst (λ (n : ℕ). IsKeptBy (arc_value s.task) s.commands (s.count + 1) n c.give.new.sessions.items) (sym number)
    (kept_next (arc_value s.task) s.commands s.count s.newest s.sessions.items c.self.invariant c.at-command.result.now c.at-command.ensures.value (shown_in e) later c.give.new.sessions.items given.0 given.1)

pub returns-clause-ok : goal.returns-clause-ok
returns-clause-ok c =
    let s = c.self.inside in
    let e = arc_value c.args.edition.now in
    let number : c.number-self-inside.result ≡ e.number = c.number-self-inside.ensures ∙ ap (λ (x : EditionParts). x.number) c.deref.ensures in
    let later : s.newest ≤ e.number = subst (λ (p : ServingParts). p.newest ≤ e.number) (sym c.self.view_is) c.requires.newest in
    let given = given_next (arc_value s.task) s.commands s.count s.newest s.sessions.items c.self.invariant c.at-command.result.now c.at-command.ensures.value (shown_in e) c.give.new.sessions.items c.in_ok-give.ensures.opened c.in_ok-give.ensures.replied in
    (λ i. parts_of (arc_value s.task) s.commands (s.count + 1) (number i) c.give.new.sessions.items)
    ∙ next_is (arc_value s.task) s.commands s.count s.newest s.sessions.items c.self.invariant c.at-command.result.now c.at-command.ensures.value (shown_in e) later c.give.new.sessions.items given.0
    ∙ ap (λ (p : ServingParts). with_next p (shown_in e)) c.self.view_is
