-- What is served at one book.
use Rattle.std.proofs.Common.{◌≡◌, ◌∙◌, sym, subst, refl, arith, ◌-◌, ◌≤◌, List, [], ◌∷◌, ◌++◌, length, Some}
use Rattle.std.specs.Prelude.{slice_get}
use Rattle.sp_theory.specs.Agreement.{EditionsAgree}
use Rattle.sp_model.specs.Problem.{problem}
use Rattle.sp_value.specs.Tasks.{TaskParts}
use Rattle.sp_value.specs.Editions.{EditionParts, members_in}
use Rattle.sp_core.specs.Books.{BookParts, IsBook, state_of}
use Rattle.sp_planner.proofs.Backing.{edition_count, latest_number, latest_task, latest_agrees}
use Rattle.sp_script.specs.declared.command.Command.{Command}
use Rattle.sp_serving.specs.Replies.{Shown, newest_of}
use Rattle.sp_serving.specs.Serving.{ServingParts, after_first, with_next, shown_in}
use Rattle.sp_serving.proofs.Transcripts.{logs_same}
use Rattle.sp_attending.specs.Attending.{HasServedEditions, IsServedOn}

-- with no command left nothing changes
pub nothing_left : (s : ServingParts) (b : BookParts) → length s.left ≡ 0 → IsServedOn s b s
nothing_left s b none = record { next = λ fits. sym (by_left s.left none); other = λ un. refl }
  where
    by_left : (left : List Command) → length left ≡ 0 → after_first s (newest_of (state_of b)) left ≡ s
    by_left [] none = refl
    by_left (c ∷ cs) none = absurd (omega (arith, none))

-- nor at a book that doesn't fit
pub nothing_fits : (s : ServingParts) (b : BookParts) → ¬ HasServedEditions s b → IsServedOn s b s
nothing_fits s b un = record { next = λ fits. absurd (un fits); other = λ other. refl }

-- editions that agree do the same
next_same : (s : ServingParts) (x y : Shown) → x.0 ≡ y.0 → EditionsAgree (problem s.task.model) x.1 y.1 → with_next s x ≡ with_next s y
next_same s x y number agree = by_left s.left
  where
    by_left : (left : List Command) → after_first s x left ≡ after_first s y left
    by_left [] = refl
    by_left (c ∷ cs) = λ i. record s { served = s.served ++ c ∷ []; left = cs; newest = number i; logs = logs_same (problem s.task.model) x y number agree s.logs c i }

-- the next command on the latest edition of a book that fits
module _ (s : ServingParts) (b : BookParts) (is : IsBook b) (last : EditionParts) (at : slice_get b.editions (length b.editions - 1) ≡ Some last) (fits : HasServedEditions s b) where
  pub task_fits : last.task ≡ s.task
  task_fits = latest_task b is last at ∙ fits.task

  pub newest_fits : s.newest ≤ last.number
  newest_fits = let number = latest_number b is last at in let count = edition_count b is in let less = fits.newest in omega (arith, number, count, less)

  pub served_latest : (d : ServingParts) → d ≡ with_next s (shown_in last) → IsServedOn s b d
  served_latest d same = record {
    next = λ here. same ∙ next_same s (shown_in last) (newest_of (state_of b)) (latest_number b is last at) agree;
    other = λ un. absurd (un fits);
  }
    where
      agree : EditionsAgree (problem s.task.model) (members_in last) (state_of b).latest
      agree = subst (λ (t : TaskParts). EditionsAgree (problem t.model) (members_in last) (state_of b).latest) fits.task (latest_agrees b is last at)
