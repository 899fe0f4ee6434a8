-- Answers on an edition that was read.
use Rattle.std.proofs.Common.{◌≡◌, ◌∙◌, sym, ap, subst, ℕ, ◌<◌, List, [], length, get_or, Some}
use Rattle.std.specs.Prelude.{slice_get}
use Rattle.std.proofs.lemmas.Option.{get_or_from_slice_get, slice_get_within}
use Rattle.std.proofs.lemmas.List.{get_or-map}
use Rattle.std.proofs.lemmas.List.Elements.{All-get_or}
use Rattle.sp_theory.specs.Values as theory
use Rattle.sp_model.specs.declared.parts.Parts.{Parts}
use Rattle.sp_model.specs.Problem.{problem}
use Rattle.sp_model.specs.Links.{weights_of}
use Rattle.sp_value.specs.declared.editions.Member.{Member}
use Rattle.sp_value.specs.Editions.{EditionParts, IsEdition, IsGreatestAt, IsMemberOf, member_of, members_in, no_member}
use Rattle.sp_faults.specs.LogFaults.{answer_of}
use Rattle.sp_audit.specs.declared.seats.Seat.{Seat}
use Rattle.sp_audit.specs.Seats.{session_of, editions_in, AreOfModel}

module _ (p : Parts) (es : List EditionParts) (of : AreOfModel p es) (s : Seat) (n : ℕ) (less : n < length es) (e : EditionParts) (is : e ≡ get_or es n e) where
  pub own_model : e.task.model ≡ p
  own_model = ap (λ (x : EditionParts). x.task.model) is ∙ of n e less

  edition_is : members_in e ≡ get_or (editions_in es) n []
  edition_is = sym (get_or-map members_in es n e [] less ∙ ap members_in (sym is))

  -- the member that was found is the greatest one
  pub answer_is : (place : ℕ) → IsGreatestAt e (weights_of e.task.model s.weights) place → (members : List Member) → members ≡ e.members → (x : Member) → slice_get members place ≡ Some x
      → member_of e.task.model x ≡ answer_of (problem p) (editions_in es) (session_of p s) n
  answer_is place found members same x at =
      ap (member_of e.task.model) (sym (get_or_from_slice_get members place x no_member at) ∙ ap (λ (xs : List Member). get_or xs place no_member) same)
      ∙ found.greatest
      ∙ (λ i. theory.greatest_member (problem (own_model i)) (edition_is i) (weights_of (own_model i) s.weights))

  -- its action is the model's
  pub answer_known : IsEdition e → (place : ℕ) (members : List Member) → members ≡ e.members → (x : Member) → slice_get members place ≡ Some x → x.action < length p.actions
  answer_known known place members same x at =
      let here : IsMemberOf e.task.model x = subst (IsMemberOf e.task.model) (get_or_from_slice_get e.members place x no_member (subst (λ (xs : List Member). slice_get xs place ≡ Some x) same at))
      (All-get_or (IsMemberOf e.task.model) e.members place no_member (slice_get_within e.members place x (subst (λ (xs : List Member). slice_get xs place ≡ Some x) same at)) known.members) in
      subst (λ (q : Parts). x.action < length q.actions) own_model here.action
