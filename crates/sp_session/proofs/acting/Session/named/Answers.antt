use Rattle.std.proofs.Common.{◌∙◌, sym, ap, subst, map, None}
use Rattle.std.specs.Arc.{arc_value}
use Rattle.sp_model.specs.declared.parts.Parts.{Parts}
use Rattle.sp_value.specs.Tasks.{TaskParts, IsTask}
use Rattle.sp_belief.specs.Updates.{AreInitial}
use Rattle.sp_session.specs.Logs.{entries_of}
use Rattle.sp_session.specs.Sessions.{SessionParts, first_parts}
use Rattle.sp_session.specs.Seats.{IsSeat}
use Rattle.sp_session.proofs.Seating.{first_seat}
use Rattle.sp_session.proofs.acting.Session.named.Goals as goal

pub invariant_of-result : goal.invariant_of-result
invariant_of-result c =
    let t = arc_value c.args.task in
    let known : IsTask t = subst IsTask c.deref.ensures c.model.ensures.known in
    let model = c.model.ensures.value ∙ ap (λ (u : TaskParts). u.model) c.deref.ensures in
    let first : AreInitial t.model c.in_ok-weights.weights = subst (λ (p : Parts). AreInitial p c.in_ok-weights.weights) model c.in_ok-weights.ensures in
    let entries = ap entries_of c.new.ensures.items in
    let editions = ap (map arc_value) c.new-2.ensures.items in
    subst (λ (s : SessionParts). IsSeat s c.in_ok-weights.weights 0 None)
    (λ i. record (first_parts c.args.name t) { entries = sym entries i; editions = sym editions i })
    (first_seat c.args.name t known c.in_ok-weights.weights first (first.scope ∙ known.model.scope))
