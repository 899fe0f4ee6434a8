-- A turn of one thread.
use Rattle.std.proofs.Common.{◌≡◌, ◌≢◌, ◌⊎◌, ◌∙◌, sym, ap, refl, subst, inl, inr, arith, ℕ, ◌+◌, ◌<◌, ◌≤◌, List, ◌∷◌, ◌++◌, append_assoc, length, get_or, Bool, true, false, cond, ◌||◌, eqb, Some, None, MatchBool}
use Rattle.std.specs.Prelude.{replicate, slice_set}
use Rattle.std.proofs.lemmas.List.{length-set, get_or-replicate, get_or-set_other}
use Rattle.std.proofs.lemmas.Bool.Decides.{eqb_tells}
use Rattle.std.proofs.lemmas.Grind.{get_or-set_at}
use Rattle.sp_theory.specs.Book.{Event, opening}
use Rattle.sp_theory.specs.Runs.{replay}
use Rattle.sp_theory.specs.OneThread.{Marks, picked, settled_at, due_events, turn, marks_after}
use Rattle.sp_theory.proofs.Histories.{replay-append}
use Rattle.sp_value.specs.Tasks.{task_of}
use Rattle.sp_core.specs.Books.{BookParts, IsBook, state_of}
use Rattle.sp_core.specs.Marks.{marks_of}
use Rattle.sp_planner.specs.Turns.{IsBackedUp, IsPruning, IsTurn, IsTurned, MarksAgree, prune_due, publishes, settled_state}
use Rattle.sp_planner.proofs.Due.{none_due, prune_after, due_with_prune, settled_done}

abbrev pub picked_of : BookParts → ℕ → ℕ
picked_of b word = picked (task_of b.task) (state_of b) (marks_of b.taken) word

-- the book with the picked belief taken
abbrev pub with_taken : BookParts → ℕ → BookParts
with_taken b word = record b { taken = slice_set b.taken (picked_of b word) true }

-- one more mark
marked : (taken : List Bool) (k j : ℕ) → k < length taken → get_or (slice_set taken k true) j false ≡ (eqb j k || get_or taken j false)
marked taken k j less = by_test (eqb_tells j k)
  where
    by_test : ((eqb j k ≡ true) × (j ≡ k)) ⊎ ((eqb j k ≡ false) × (j ≢ k)) → get_or (slice_set taken k true) j false ≡ (eqb j k || get_or taken j false)
    by_test (inl (e, same)) = get_or-set_at taken k j true false same less ∙ ap (λ (c : Bool). c || get_or taken j false) (sym e)
    by_test (inr (e, differ)) = get_or-set_other taken k j true false differ ∙ ap (λ (c : Bool). c || get_or taken j false) (sym e)

module _ (pruning : Bool) (b : BookParts) (is : IsBook b) (going : (state_of b).done ≡ false) (word : ℕ) (below : picked_of b word < b.task.options.beliefs) (d : BookParts) (backed : IsBackedUp (with_taken b word) (picked_of b word) d) where
  marks_are : MarksAgree (task_of b.task) (marks_of d.taken) (marks_after (task_of b.task) (state_of b) (marks_of b.taken) word)
  unfolding marks_after
  marks_are j less = ap (λ (marks : List Bool). get_or marks j false) backed.taken ∙ by_test (publishes b (picked_of b word))
    where
      count : length (slice_set b.taken (picked_of b word) true) ≡ b.task.options.beliefs
      count = length-set b.taken (picked_of b word) true ∙ is.taken

      by_test : (c : Bool) → get_or (cond c (replicate (length (slice_set b.taken (picked_of b word) true)) false) (slice_set b.taken (picked_of b word) true)) j false ≡ cond {A = Marks} c (λ (i : ℕ). false) (λ (i : ℕ). eqb i (picked_of b word) || marks_of b.taken i) j
      by_test true = get_or-replicate _ j false false (subst (λ (n : ℕ). j < n) (sym count) less)
      by_test false = marked b.taken (picked_of b word) j (subst (λ (n : ℕ). picked_of b word < n) (sym is.taken) below)

  -- where no publication is due
  pub turned_silently : publishes b (picked_of b word) ≡ false → IsTurned pruning b word d
  unfolding turn
  turned_silently down = record {
    task = backed.task;
    history =
        backed.history
        ∙ ap (λ (due : List Event). b.history ++ settled_at (task_of b.task) (state_of b) (picked_of b word) ∷ due)
        (none_due (task_of b.task) (settled_state b (picked_of b word)) false down ∙ sym (none_due (task_of b.task) (settled_state b (picked_of b word)) pruning down));
    taken = marks_are;
  }

  -- where one is due, with the prune after it
  state_is : state_of d ≡ replay (task_of b.task) (settled_state b (picked_of b word)) (due_events (task_of b.task) false (settled_state b (picked_of b word)))
  unfolding replay
  state_is =
      (λ h. replay (task_of (backed.task h)) (opening (task_of (backed.task h))) (backed.history h))
      ∙ replay-append (task_of b.task) (opening (task_of b.task)) b.history (settled_at (task_of b.task) (state_of b) (picked_of b word) ∷ due_events (task_of b.task) false (settled_state b (picked_of b word)))

  pub turned_with_prune : publishes b (picked_of b word) ≡ true → (e : BookParts) → IsPruning pruning d e → IsTurned pruning b word e
  unfolding turn
  turned_with_prune up e pruned = record {
    task = pruned.task ∙ backed.task;
    history =
        pruned.history ∙ (λ h. backed.history h ++ due_now h)
        ∙ append_assoc b.history (settled_at (task_of b.task) (state_of b) (picked_of b word) ∷ due_events (task_of b.task) false (settled_state b (picked_of b word))) _
        ∙ ap (λ (due : List Event). b.history ++ settled_at (task_of b.task) (state_of b) (picked_of b word) ∷ due)
        (due_with_prune (task_of b.task) (settled_state b (picked_of b word)) pruning (settled_done (task_of b.task) (state_of b) (picked_of b word) ∙ going) up);
    taken = λ j less. ap (λ (marks : List Bool). get_or marks j false) pruned.taken ∙ marks_are j less;
  }
    where
      due_now : prune_due pruning d ≡ prune_after (task_of b.task) (settled_state b (picked_of b word)) pruning (replay (task_of b.task) (settled_state b (picked_of b word)) (due_events (task_of b.task) false (settled_state b (picked_of b word))))
      due_now = λ h. prune_after (task_of (backed.task h)) (settled_state b (picked_of b word)) pruning (state_is h)

-- ---- as the code does it
-- what is picked, where the run isn't over
given : (c : Bool) (k p : ℕ) → Some k ≡ cond c None (Some p) → (c ≡ false) × (k ≡ p)
given true k p e = absurd (cc)
given false k p e = (refl, cc)

module _ (pruning : Bool) (b : BookParts) (is : IsBook b) (word k : ℕ) (answer : Some k ≡ cond (state_of b).done None (Some (picked_of b word))) (below : k < b.task.options.beliefs) (w : BookParts) (taken : w ≡ cond (state_of b).done b (with_taken b word)) (d : BookParts) (backed : IsBackedUp w k d) where
  going : (state_of b).done ≡ false
  going = (given (state_of b).done k (picked_of b word) answer).0

  same : k ≡ picked_of b word
  same = (given (state_of b).done k (picked_of b word) answer).1

  with_is : w ≡ with_taken b word
  with_is = taken ∙ ap (λ (c : Bool). cond c b (with_taken b word)) going

  picked_low : picked_of b word < b.task.options.beliefs
  picked_low = subst (λ (j : ℕ). j < b.task.options.beliefs) same below

  backed_is : IsBackedUp (with_taken b word) (picked_of b word) d
  backed_is = subst (λ (j : ℕ). IsBackedUp (with_taken b word) j d) same (subst (λ (x : BookParts). IsBackedUp x k d) with_is backed)

  old_count : length w.editions ≡ length b.editions
  old_count = ap (λ (x : BookParts). length x.editions) with_is

  counted : (c : Bool) → publishes b (picked_of b word) ≡ c → length d.editions ≡ length b.editions + cond c 1 0
  counted c e = backed_is.count ∙ ap (λ (x : Bool). length b.editions + cond x 1 0) e

  as_turn : (e : BookParts) → IsTurned pruning b word e → IsTurn pruning b word e
  as_turn e turned = subst (λ (c : Bool). MatchBool c (e ≡ b) (IsTurned pruning b word e)) (sym going) turned

  pub turn_silent : length d.editions ≤ length w.editions → IsTurn pruning b word d
  turn_silent few = by_test (publishes b (picked_of b word)) refl
    where
      by_test : (c : Bool) → publishes b (picked_of b word) ≡ c → IsTurn pruning b word d
      by_test true e = let old = old_count in let more = counted true e in absurd (omega (arith, few, old, more))
      by_test false e = as_turn d (turned_silently pruning b is going word picked_low d backed_is e)

  pub turn_with_prune : length w.editions < length d.editions → (e : BookParts) → IsPruning pruning d e → IsTurn pruning b word e
  turn_with_prune grown e pruned = by_test (publishes b (picked_of b word)) refl
    where
      by_test : (c : Bool) → publishes b (picked_of b word) ≡ c → IsTurn pruning b word e
      by_test true is_up = as_turn e (turned_with_prune pruning b is going word picked_low d backed_is is_up e pruned)
      by_test false is_down = let old = old_count in let more = counted false is_down in absurd (omega (arith, grown, old, more))
