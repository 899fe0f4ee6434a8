-- The laws of candidates.
use Rattle.std.proofs.Common.{◌≡◌, ℕ, ◌^◌, ◌<◌, refl, sym, ap, ◌∙◌, subst, arith, List, length}
use Rattle.std.specs.Prelude.{ℤ, ◌≤ℤ◌, All}
use Rattle.std.proofs.lemmas.List.{length-map}
use lib.Signed.{≤ℤ_refl}
use Rattle.sp_theory.specs.Sums.{times}
use Rattle.sp_theory.specs.Points.{IsPoint}
use Rattle.sp_theory.specs.Draws.{q}
use Rattle.sp_theory.specs.Model.{divisions, least_return}
use Rattle.sp_theory.specs.Step.{exact_step}
use Rattle.sp_theory.specs.Values.{Member, Weights, leaf_member, dot}
use Rattle.sp_theory.specs.Backup.{candidate, choice, link_at}
use Rattle.sp_theory.specs.Agreement.{VectorsAgree}
use Rattle.sp_theory.specs.Laws.{IsCloseAt}
use Rattle.sp_theory.proofs.Steps.{step_low, step_same}
use Rattle.sp_theory.proofs.Backups.{backup_low, backup_high}
use Rattle.sp_theory.proofs.Agreement.{dot_same}
use Rattle.sp_model.specs.Problem.{vector_of, problem}
use Rattle.sp_model.proofs.RowLaw.{problem_lawful}
use Rattle.sp_value.specs.Tasks.{weights_at}
use Rattle.sp_value.specs.Editions.{members_in, member_of}
use Rattle.sp_value.specs.Linked.{linked_vectors}
use Rattle.sp_value.specs.Candidates.{CandidateParts, IsCandidate}
use Rattle.sp_value.proofs.Vectors.{vector_range}
use Rattle.sp_value.proofs.Links.{choice-below, linked_vectors-links_at, member_with-case, Differ-edition_of, All-edition_of}

module _ (c : CandidateParts) (is : IsCandidate c) where
  abbrev w : Weights
  w = weights_at c.base.task c.belief

  -- each member is at least the least return
  from_least : All (λ (x : Member). (s : List ℕ) → IsPoint (problem c.base.task.model).sizes s → least_return (problem c.base.task.model) ≤ℤ x.vector s) (members_in c.base)
  unfolding problem
  from_least = All-edition_of c.base.task.model (λ (x : Member). (s : List ℕ) → IsPoint (problem c.base.task.model).sizes s → least_return (problem c.base.task.model) ≤ℤ x.vector s) c.base.members (λ k d less s at. (vector_range c.base.task.model is.base.task.model _ (is.base.members k d less).vector s at).0)

  known : c.action < (problem c.base.task.model).actions
  known = subst (λ (a : ℕ). a < (problem c.base.task.model).actions) (sym is.backup.0) (choice-below (problem c.base.task.model) (problem_lawful c.base.task.model is.base.task.model) (members_in c.base) w)

  some : 0 < length (members_in c.base)
  some = let long = length-map c.base.members (member_of c.base.task.model) in omega (arith, long, is.base.some)

  pub candidate_low : (s : List ℕ) → IsPoint (problem c.base.task.model).sizes s
      → times (q ^ divisions (problem c.base.task.model)) (vector_of c.base.task.model c.vector s) ≤ℤ exact_step (problem c.base.task.model) c.action (linked_vectors (problem c.base.task.model) (members_in c.base) c.links) s
  unfolding leaf_member
  candidate_low s at =
      subst (λ (z : ℤ). times (q ^ divisions (problem c.base.task.model)) z ≤ℤ exact_step (problem c.base.task.model) c.action (linked_vectors (problem c.base.task.model) (members_in c.base) c.links) s) (sym (is.stepped s at))
      (step_low (problem c.base.task.model) (problem_lawful c.base.task.model is.base.task.model) c.action known s at (linked_vectors (problem c.base.task.model) (members_in c.base) c.links)
      (λ seen next sees to. member_with-case (problem c.base.task.model) (λ x. least_return (problem c.base.task.model) ≤ℤ x.vector next) (members_in c.base) _ (≤ℤ_refl (least_return (problem c.base.task.model))) (λ k d less. from_least k d less next to)))

  pub candidate_agrees : VectorsAgree (problem c.base.task.model) (vector_of c.base.task.model c.vector) (candidate (problem c.base.task.model) (members_in c.base) w c.action)
  unfolding candidate
  candidate_agrees s at =
      is.stepped s at
      ∙ step_same (problem c.base.task.model) c.action _ (λ seen. (link_at (problem c.base.task.model) (members_in c.base) w c.action seen).vector) s
      (λ seen next sees to. λ h. (ap (λ (links : List ℕ). linked_vectors (problem c.base.task.model) (members_in c.base) links seen) is.backup.1 ∙ linked_vectors-links_at (problem c.base.task.model) (members_in c.base) w c.action some (Differ-edition_of c.base.task.model c.base.members is.base.different) seen sees) h next)

  -- its sum at the belief
  worth : dot (problem c.base.task.model) w (vector_of c.base.task.model c.vector) ≡ dot (problem c.base.task.model) w (candidate (problem c.base.task.model) (members_in c.base) w (choice (problem c.base.task.model) (members_in c.base) w))
  worth =
      dot_same (problem c.base.task.model) w w _ _ (λ s at. refl) candidate_agrees
      ∙ ap (λ (a : ℕ). dot (problem c.base.task.model) w (candidate (problem c.base.task.model) (members_in c.base) w a)) is.backup.0

  pub candidate_close : IsCloseAt (problem c.base.task.model) (members_in c.base) w (dot (problem c.base.task.model) w (vector_of c.base.task.model c.vector))
  candidate_close =
      subst (IsCloseAt (problem c.base.task.model) (members_in c.base) w) (sym worth) (
        backup_low (problem c.base.task.model) (problem_lawful c.base.task.model is.base.task.model) w (members_in c.base) some from_least,
        backup_high (problem c.base.task.model) (problem_lawful c.base.task.model is.base.task.model) w (members_in c.base) some from_least,
      )
