-- The backup at a belief on the latest edition of a book.
use Rattle.std.proofs.Common.{◌≡◌, ◌∙◌, sym, ap, refl, subst, arith, ℕ, ◌+◌, ◌-◌, ◌<◌, List, [], ◌∷◌, ◌++◌, length, length-append, get_or, Bool, false, cond, Some, MatchBool}
use Rattle.std.specs.Prelude.{slice_get, map, replicate}
use Rattle.std.proofs.lemmas.Option.{slice_get_within, get_or_from_slice_get}
use Rattle.std.proofs.lemmas.List.{get_or-map, length-map}
use Rattle.std.proofs.Math.Seq.{get_or-append_seam}
use Rattle.sp_theory.specs.Values.{Edition}
use Rattle.sp_theory.specs.Backup.{links_at, IsBackup}
use Rattle.sp_theory.specs.Book.{Book, Event, settle, opening, editions, after_event}
use Rattle.sp_theory.specs.Runs.{replay}
use Rattle.sp_theory.specs.OneThread.{settled_at, all_improved, due_events}
use Rattle.sp_theory.specs.Agreement.{EditionsAgree}
use Rattle.sp_theory.proofs.Agreement.{backup_same}
use Rattle.sp_theory.proofs.BooksAgreement.{editions-length, edition_at-agrees}
use Rattle.sp_theory.proofs.Histories.{replay-append}
use Rattle.sp_model.specs.Problem.{problem}
use Rattle.sp_value.specs.Tasks.{TaskParts, task_of, weights_at}
use Rattle.sp_value.specs.Editions.{EditionParts, members_in}
use Rattle.sp_value.specs.Candidates.{CandidateParts, IsCandidate}
use Rattle.sp_core.specs.declared.answers.Settled.{Settled}
use Rattle.sp_core.specs.declared.answers.Settled.TheVariants.{Over}
use Rattle.sp_core.specs.Books.{BookParts, IsBook, state_of}
use Rattle.sp_core.specs.Settling.{IsOurs, IsSettledBy, IsSettled, answer_for, settle_of}
use Rattle.sp_planner.specs.Turns.{IsBackedUp, settled_state}
use Rattle.sp_planner.proofs.Due.{count_due, settled_editions}

-- there are as many editions as the history leads to
pub edition_count : (b : BookParts) → IsBook b → length b.editions ≡ length (state_of b).earlier + 1
edition_count b is =
    sym (length-map b.editions members_in) ∙ editions-length (problem b.task.model) (map members_in b.editions) (editions (state_of b)) is.editions
    ∙ length-append (state_of b).earlier ((state_of b).latest ∷ [])

-- the latest edition
module _ (b : BookParts) (is : IsBook b) (base : EditionParts) (last : slice_get b.editions (length b.editions - 1) ≡ Some base) where
  within : length b.editions - 1 < length b.editions
  within = slice_get_within b.editions (length b.editions - 1) base last

  read : get_or b.editions (length b.editions - 1) base ≡ base
  read = get_or_from_slice_get b.editions (length b.editions - 1) base base last

  at_end : length b.editions - 1 ≡ length (state_of b).earlier
  at_end = omega (arith, edition_count b is)

  pub latest_number : base.number ≡ length (state_of b).earlier
  latest_number = ap (λ (e : EditionParts). e.number) (sym read) ∙ (is.numbered (length b.editions - 1) base within).0 ∙ at_end

  pub latest_task : base.task ≡ b.task
  latest_task = ap (λ (e : EditionParts). e.task) (sym read) ∙ (is.numbered (length b.editions - 1) base within).1

  pub latest_agrees : EditionsAgree (problem b.task.model) (members_in base) (state_of b).latest
  latest_agrees =
      let own = get_or-map members_in b.editions (length b.editions - 1) base [] within ∙ ap members_in read in
      let other = ap (λ (n : ℕ). get_or (editions (state_of b)) n []) at_end ∙ get_or-append_seam (state_of b).earlier (state_of b).latest [] [] in
      subst (λ (e : Edition). EditionsAgree (problem b.task.model) e (state_of b).latest) own
      (subst (λ (e : Edition). EditionsAgree (problem b.task.model) (get_or (map members_in b.editions) (length b.editions - 1) []) e) other
      (edition_at-agrees (problem b.task.model) (map members_in b.editions) (editions (state_of b)) (length b.editions - 1) [] [] is.editions tt))

  pub latest_ours : IsOurs b base
  latest_ours = subst (λ (n : ℕ). slice_get b.editions n ≡ Some base) (at_end ∙ sym latest_number) last

  -- its candidate is the backup that the history leads to
  module _ (c : CandidateParts) (known : IsCandidate c) (k : ℕ) (at : c.belief ≡ k) (on : c.base ≡ base) where
    backup : IsBackup (problem b.task.model) (state_of b).latest (weights_at b.task k) c.action c.links
    backup =
        backup_same (problem b.task.model) (members_in base) (state_of b).latest (weights_at b.task k) (weights_at b.task k) latest_agrees (λ s p. refl) c.action c.links
        (subst (λ (t : TaskParts). IsBackup (problem t.model) (members_in base) (weights_at t k) c.action c.links) latest_task
        (subst (λ (j : ℕ). IsBackup (problem base.task.model) (members_in base) (weights_at base.task j) c.action c.links) at
        (subst (λ (e : EditionParts). IsBackup (problem e.task.model) (members_in e) (weights_at e.task c.belief) c.action c.links) on known.backup)))

    settle_is : settle_of c ≡ settled_at (task_of b.task) (state_of b) k
    unfolding settled_at
    settle_is =
        let number = ap (λ (e : EditionParts). e.number) on ∙ latest_number in
        let links = backup.1 ∙ ap (links_at (problem b.task.model) (state_of b).latest (weights_at b.task k)) backup.0 in
        λ h. settle (at h) (number h) (backup.0 h) (links h)

    module _ (answer : Settled) (d : BookParts) (going : (state_of b).done ≡ false) (settled : IsSettled b c answer d) (new : IsBook d) where
      by_it : IsSettledBy b c d
      by_it = (subst (λ (over : Bool). MatchBool over ((answer ≡ Over) × (d ≡ b)) (IsOurs b c.base × (answer ≡ answer_for b c) × IsSettledBy b c d)) going settled).2

      history_is : d.history ≡ b.history ++ settled_at (task_of b.task) (state_of b) k ∷ due_events (task_of b.task) false (settled_state b k)
      history_is = by_it.history ∙ ap (λ (e : Event). b.history ++ e ∷ due_events (task_of b.task) false (after_event (task_of b.task) (state_of b) e)) settle_is

      state_is : state_of d ≡ replay (task_of b.task) (settled_state b k) (due_events (task_of b.task) false (settled_state b k))
      unfolding replay
      state_is =
          (λ h. replay (task_of (by_it.task h)) (opening (task_of (by_it.task h))) (history_is h))
          ∙ replay-append (task_of b.task) (opening (task_of b.task)) b.history (settled_at (task_of b.task) (state_of b) k ∷ due_events (task_of b.task) false (settled_state b k))

      pub is_backed_up : IsBackedUp b k d
      is_backed_up =
          let old = edition_count b is in
          let counted = edition_count d new in
          let long = length-append (state_of d).earlier ((state_of d).latest ∷ []) in
          let same = ap (λ (s : Book). length (editions s)) state_is ∙ count_due (task_of b.task) (settled_state b k) in
          let before = ap (λ (es : List Edition). length es) (settled_editions (task_of b.task) (state_of b) k) in
          let short = length-append (state_of b).earlier ((state_of b).latest ∷ []) in
          record {
            task = by_it.task;
            history = history_is;
            count = omega (arith, old, counted, long, same, before, short);
            taken = by_it.taken ∙ ap (λ (e : Event). cond (all_improved (task_of b.task) (after_event (task_of b.task) (state_of b) e)) (replicate (length b.taken) false) b.taken) settle_is;
          }
