-- What a candidate on one of some editions says of their task and of their members.
use Rattle.std.proofs.Common.{◌≡◌, ◌∙◌, sym, ap, subst, ℕ, ◌<◌, List, [], length, map, get_or, Some}
use Rattle.std.specs.Prelude.{slice_get}
use Rattle.std.proofs.lemmas.Option.{slice_get_within, get_or_from_slice_get}
use Rattle.std.proofs.lemmas.List.{get_or-map, length-map}
use Rattle.sp_theory.specs.Values as theory
use Rattle.sp_theory.specs.Backup.{candidate, IsBackup}
use Rattle.sp_theory.specs.Agreement.{VectorsAgree}
use Rattle.sp_theory.proofs.Sound.{choice_known}
use Rattle.sp_model.specs.Problem.{vector_of, problem}
use Rattle.sp_model.specs.Kept.{IsModel}
use Rattle.sp_model.proofs.RowLaw.{problem_lawful}
use Rattle.sp_value.specs.Tasks.{TaskParts, weights_at}
use Rattle.sp_value.specs.Editions.{EditionParts, IsVector, IsMemberOf, members_in}
use Rattle.sp_value.specs.Candidates.{CandidateParts, IsCandidate}
use Rattle.sp_value.proofs.CandidateLaws.{candidate_agrees}
use Rattle.sp_ledger.specs.Opening.{AreNumbered}

module _ (t : TaskParts) (es : List EditionParts) (numbered : AreNumbered t es) (e : EditionParts) (ours : slice_get es e.number ≡ Some e) where
  own_within : e.number < length es
  own_within = slice_get_within es e.number e ours

  own_is : get_or es e.number e ≡ e
  own_is = get_or_from_slice_get es e.number e e ours

  pub own_task : e.task ≡ t
  own_task = sym (ap (λ (x : EditionParts). x.task) own_is) ∙ (numbered e.number e own_within).1

  pub own_exists : e.number < length (map members_in es)
  own_exists = subst (λ (n : ℕ). e.number < n) (sym (length-map es members_in)) own_within

  pub own_members : members_in e ≡ get_or (map members_in es) e.number []
  own_members = sym (get_or-map members_in es e.number e [] own_within ∙ ap members_in own_is)

module _ (t : TaskParts) (es : List EditionParts) (numbered : AreNumbered t es) (d : CandidateParts) (is : IsCandidate d) (ours : slice_get es d.base.number ≡ Some d.base) where
  pub own_belief : d.belief < t.options.beliefs
  own_belief = subst (λ (u : TaskParts). d.belief < u.options.beliefs) (own_task t es numbered d.base ours) is.belief

  pub own_vector : IsVector t.model d.vector
  own_vector = subst (λ (u : TaskParts). IsVector u.model d.vector) (own_task t es numbered d.base ours) is.vector

  pub own_backup : IsBackup (problem t.model) (get_or (map members_in es) d.base.number []) (weights_at t d.belief) d.action d.links
  own_backup =
      subst (λ (edition : theory.Edition). IsBackup (problem t.model) edition (weights_at t d.belief) d.action d.links) (own_members t es numbered d.base ours)
      (subst (λ (u : TaskParts). IsBackup (problem u.model) (members_in d.base) (weights_at u d.belief) d.action d.links) (own_task t es numbered d.base ours) is.backup)

  pub own_stepped : VectorsAgree (problem t.model) (vector_of t.model d.vector) (candidate (problem t.model) (get_or (map members_in es) d.base.number []) (weights_at t d.belief) d.action)
  own_stepped =
      subst (λ (edition : theory.Edition). VectorsAgree (problem t.model) (vector_of t.model d.vector) (candidate (problem t.model) edition (weights_at t d.belief) d.action)) (own_members t es numbered d.base ours)
      (subst (λ (u : TaskParts). VectorsAgree (problem u.model) (vector_of u.model d.vector) (candidate (problem u.model) (members_in d.base) (weights_at u d.belief) d.action)) (own_task t es numbered d.base ours) (candidate_agrees d is))

  -- the member of its record is of the model
  pub own_member : IsModel t.model → (id : ℕ) → IsMemberOf t.model (record { id = id; action = d.action; vector = d.vector })
  unfolding problem
  own_member model id = record {
    action = subst (λ (a : ℕ). a < length t.model.actions) (sym own_backup.0) (choice_known (problem t.model) (problem_lawful t.model model) _ _);
    vector = own_vector;
  }
