-- The numbers of a book.
use Rattle.std.proofs.Common.{◌≡◌, ◌∙◌, sym, ap, refl, arith, ℕ, suc, ◌-◌, [], ◌∷◌, length, length-append, Some}
use Rattle.std.specs.Prelude.{ℤ, slice_get}
use Rattle.std.proofs.lemmas.List.{length-map}
use Rattle.sp_theory.specs.Model.{Model}
use Rattle.sp_theory.specs.Values as theory
use Rattle.sp_theory.specs.Sums.{floor}
use Rattle.sp_theory.specs.Scaling.{total_weight}
use Rattle.sp_theory.specs.Agreement.{EditionsAgree}
use Rattle.sp_theory.proofs.Agreement.{value_same}
use Rattle.sp_model.specs.Problem.{problem}
use Rattle.sp_value.specs.Tasks.{TaskParts, task_of, weights_at}
use Rattle.sp_value.specs.Editions.{EditionParts, member_of, members_in}
use Rattle.sp_core.specs.Books.{BookParts, IsBook, state_of}
use Rattle.sp_planner.specs.Numbers.{value_at_first}
use Rattle.sp_planner.specs.Planned.{IsSummaryOf}
use Rattle.sp_planner.specs.declared.summary.Summary.{Summary}
use Rattle.sp_planner.proofs.Backing.{edition_count, latest_agrees, latest_task}

members_count : (m : Model) (xs ys : theory.Edition) → EditionsAgree m xs ys → length xs ≡ length ys
members_count m [] [] agree = refl
members_count m (x ∷ xs) (y ∷ ys) (first, rest) = ap (λ (n : ℕ). suc n) (members_count m xs ys rest)
members_count m [] (y ∷ ys) agree = absurd agree
members_count m (x ∷ xs) [] agree = absurd agree

module _ (b : BookParts) (is : IsBook b) (base : EditionParts) (last : slice_get b.editions (length b.editions - 1) ≡ Some base) where
  pub summary_is : (s : Summary) → s.records ≡ length (state_of b).records → s.editions ≡ length b.editions → s.members ≡ length base.members → s.value ≡ value_at_first base.task (members_in base)
      → IsSummaryOf (task_of b.task) (state_of b) s
  summary_is s records count members value = record {
    records = records;
    editions = let all = edition_count b is in let long = length-append (state_of b).earlier ((state_of b).latest ∷ []) in omega (arith, count, all, long);
    members = members ∙ sym (length-map base.members (member_of base.task.model)) ∙ members_count (problem b.task.model) (members_in base) (state_of b).latest (latest_agrees b is base last);
    value =
        value
        ∙ ap (λ (t : TaskParts). value_at_first t (members_in base)) (latest_task b is base last)
        ∙ ap (λ (z : ℤ). floor z (total_weight (problem b.task.model) (weights_at b.task 0)))
        (value_same (problem b.task.model) (members_in base) (state_of b).latest (weights_at b.task 0) (weights_at b.task 0) (latest_agrees b is base last) (λ s p. refl));
  }
