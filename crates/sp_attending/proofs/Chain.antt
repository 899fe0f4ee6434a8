-- What is served at the pauses of a run, one after another.
use Rattle.std.proofs.Common.{◌≡◌, ◌∙◌, sym, ap, subst, refl, arith, ℕ, ◌-◌, ◌<◌, List, [], ◌∷◌, ◌++◌, map, length}
use Rattle.std.proofs.lemmas.List.{length-map}
use Rattle.sp_theory.specs.Book.{Book, Event, opening, editions}
use Rattle.sp_theory.specs.Runs.{replay}
use Rattle.sp_theory.proofs.BooksAgreement.{editions-length}
use Rattle.sp_model.specs.Problem.{problem}
use Rattle.sp_value.specs.Tasks.{TaskParts, task_of}
use Rattle.sp_value.specs.Editions.{members_in}
use Rattle.sp_core.specs.Books.{BookParts, IsBook, state_of}
use Rattle.sp_planner.specs.Pauses.{IsServedAt, IsServed}
use Rattle.sp_script.specs.declared.command.Command.{Command}
use Rattle.sp_serving.specs.Replies.{Shown, newest_of, logs_after}
use Rattle.sp_serving.specs.Serving.{ServingParts, after_first, with_next}
use Rattle.sp_attending.specs.Attending.{IsServedOn}
use Rattle.sp_attending.specs.Runs.{shown_at}
use Rattle.sp_attending.proofs.Leading.{editions_at, counts-more, newest_below, Leads}

-- a book has as many editions as its history leads to
pub count_is : (b : BookParts) → IsBook b → length b.editions ≡ length (editions (state_of b))
count_is b is = sym (length-map b.editions members_in) ∙ editions-length (problem b.task.model) (map members_in b.editions) (editions (state_of b)) is.editions

-- ---- one command
module _ (s : ServingParts) (shown : Shown) where
  first_task : (left : List Command) → (after_first s shown left).task ≡ s.task
  first_task [] = refl
  first_task (c ∷ cs) = refl

  first_newest : (n : ℕ) → s.newest < n → shown.0 < n → (left : List Command) → (after_first s shown left).newest < n
  first_newest n old new [] = old
  first_newest n old new (c ∷ cs) = new

  -- what comes then is what came of the edition first
  first_logs : (xs : List Shown) (last : Shown) (left : List Command) → s.left ≡ left
      → logs_after (problem s.task.model) xs last (after_first s shown left).logs (after_first s shown left).left ≡ logs_after (problem s.task.model) (shown ∷ xs) last s.logs left
  unfolding logs_after
  first_logs xs last [] is = ap (logs_after (problem s.task.model) xs last s.logs) is
  first_logs xs last (c ∷ cs) is = refl

-- what serving at histories of a task has come to
pub record IsChained (t : TaskParts) (histories : List (List Event)) (final : List Event) (s e : ServingParts) : Type 0 where
  pub task : e.task ≡ t
  pub newest : e.newest < length (editions_at (task_of t) final)
  pub logs : (last : Shown) → logs_after (problem t.model) [] last e.logs e.left ≡ logs_after (problem t.model) (shown_at (task_of t) histories) last s.logs s.left

-- the book to which a history of a task leads
abbrev state_at : TaskParts → List Event → Book
state_at t k = replay (task_of t) (opening (task_of t)) k

module _ (t : TaskParts) where
  -- one pause
  served_here : (h k more : List Event) (s m : ServingParts) → k ≡ h ++ more → s.task ≡ t → s.newest < length (editions_at (task_of t) h) → IsServedAt IsServedOn t k s m → m ≡ with_next s (newest_of (state_at t k))
  served_here h k more s m is task less at =
      at.served.next (record { task = at.task ∙ sym task; newest = let count = count_is at.book at.known ∙ ap (λ (b : Book). length (editions b)) state in let grow = counts-more (task_of t) h more k is in omega (arith, count, grow, less) })
      ∙ ap (λ (b : Book). with_next s (newest_of b)) state
    where
      state : state_of at.book ≡ state_at t k
      state = λ i. replay (task_of (at.task i)) (opening (task_of (at.task i))) (at.at i)

  pub chain : (h : List Event) (ks : List (List Event)) (final : List Event) (s e : ServingParts) → Leads h ks final → s.task ≡ t → s.newest < length (editions_at (task_of t) h) → IsServed IsServedOn t ks s e → IsChained t ks final s e
  chain h [] final s e (more, is) task less same = record {
    task = ap (λ (x : ServingParts). x.task) same ∙ task;
    newest = let n = ap (λ (x : ServingParts). x.newest) same in let grow = counts-more (task_of t) h more final is in omega (arith, n, grow, less);
    logs = λ last. λ i. logs_after (problem t.model) [] last (same i).logs (same i).left;
  }
  chain h (k ∷ ks) final s e ((more, is), rest) task less (m, at, served) =
      let x = newest_of (state_at t k) in
      let here : m ≡ with_next s x = served_here h k more s m is task less at in
      let grow = counts-more (task_of t) h more k is in
      let later : IsChained t ks final m e = chain k ks final m e rest
      (ap (λ (y : ServingParts). y.task) here ∙ first_task s x s.left ∙ task)
      (subst (λ (y : ServingParts). y.newest < length (editions_at (task_of t) k)) (sym here) (first_newest s x (length (editions_at (task_of t) k)) (omega (arith, less, grow)) (newest_below (task_of t) k) s.left))
      served in
      record {
        task = later.task;
        newest = later.newest;
        logs = λ last.
            later.logs last
            ∙ (λ i. logs_after (problem t.model) (shown_at (task_of t) ks) last (here i).logs (here i).left)
            ∙ subst (λ (u : TaskParts). logs_after (problem u.model) (shown_at (task_of t) ks) last (with_next s x).logs (with_next s x).left ≡ logs_after (problem u.model) (x ∷ shown_at (task_of t) ks) last s.logs s.left) task
            (first_logs s x (shown_at (task_of t) ks) last s.left refl);
      }
