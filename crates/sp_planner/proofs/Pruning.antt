-- The prune of dominated members.
use Rattle.std.proofs.Common.{◌≡◌, ◌∙◌, sym, ap, subst, ℕ, ◌-◌, List, [], ◌∷◌, ◌++◌, length, Bool, true, false, cond, Some, MatchBool}
use Rattle.std.specs.Prelude.{slice_get}
use Rattle.std.proofs.lemmas.List.{append-nil}
use Rattle.sp_theory.specs.Book.{Event}
use Rattle.sp_theory.specs.OneThread.{dominated, applying, prune_of, pruning_events}
use Rattle.sp_theory.proofs.PairsAgreement.{dominated_same}
use Rattle.sp_model.specs.Problem.{problem}
use Rattle.sp_value.specs.Tasks.{TaskParts, task_of}
use Rattle.sp_value.specs.Editions.{EditionParts, IsEdition, members_in}
use Rattle.sp_core.specs.declared.answers.Pruned.{Pruned}
use Rattle.sp_core.specs.declared.answers.Pruned.TheVariants.{Over}
use Rattle.sp_core.specs.Books.{BookParts, IsBook, state_of}
use Rattle.sp_core.specs.Settling.{IsOurs}
use Rattle.sp_core.specs.Pruning.{AreDominatedIn, IsPruned, IsPruneOf}
use Rattle.sp_core.proofs.DominatedPairs.{dominated_may_be_pruned}
use Rattle.sp_planner.specs.Turns.{IsPruning, prune_due}
use Rattle.sp_planner.proofs.Backing.{latest_agrees, latest_task}

pub may_go : (e : EditionParts) → IsEdition e → (pairs : List (ℕ × ℕ)) → pairs ≡ dominated (problem e.task.model) (members_in e) → AreDominatedIn e pairs
may_go e known pairs are = subst (AreDominatedIn e) (sym are) (dominated_may_be_pruned e known)

module _ (b : BookParts) (answer : Pruned) (d : BookParts) where
  record IsPrunedFor (pairs : List (ℕ × ℕ)) : Type 0 where
    task : d.task ≡ b.task
    history : d.history ≡ b.history ++ prune_of pairs
    taken : d.taken ≡ b.taken

  by_pairs : (pairs : List (ℕ × ℕ)) → IsPruneOf b pairs answer d → IsPrunedFor pairs
  by_pairs [] (nothing, same) = record { task = ap (λ (x : BookParts). x.task) same; history = ap (λ (x : BookParts). x.history) same ∙ sym (append-nil b.history); taken = ap (λ (x : BookParts). x.taken) same }
  by_pairs (pair ∷ pairs) (dropped, by) = record { task = by.task; history = by.history; taken = by.taken }

  module _ (is : IsBook b) (base : EditionParts) (last : slice_get b.editions (length b.editions - 1) ≡ Some base) (going : (state_of b).done ≡ false) where
    pub is_pruning : (pairs : List (ℕ × ℕ)) → pairs ≡ dominated (problem base.task.model) (members_in base) → IsPruned b base pairs answer d → IsPruning true b d
    unfolding pruning_events
    is_pruning pairs are by =
        let due : (pruning_events (task_of b.task) (state_of b)) ≡ prune_due true b =
        ap (λ (c : Bool). cond c [] (pruning_events (task_of b.task) (state_of b))) (sym going) in
        let same = are
        ∙ ap (λ (t : TaskParts). dominated (problem t.model) (members_in base)) (latest_task b is base last)
        ∙ dominated_same (problem b.task.model) (members_in base) (state_of b).latest (latest_agrees b is base last) in
        let done = by_pairs (applying (state_of b).latest pairs) (subst (λ (c : Bool). MatchBool c ((answer ≡ Over) × (d ≡ b)) (IsOurs b base × IsPruneOf b (applying (state_of b).latest pairs) answer d)) going by).1 in
        record {
          task = done.task;
          history = done.history ∙ ap (λ (ps : List (ℕ × ℕ)). b.history ++ prune_of (applying (state_of b).latest ps)) same ∙ ap (λ (es : List Event). b.history ++ es) due;
          taken = done.taken;
        }
