-- Lists of one edition, and work that knows of a list.
use Rattle.std.proofs.Common.{◌≡◌, ℕ, ◌<◌, List, [], ◌∷◌, length, get_or, slice_get, Some, refl, sym, ◌∙◌, subst, arith}
use Rattle.std.specs.Prelude.{All, slice_index_or}
use Rattle.logbook.specs.Pages.{Book}
use Rattle.sp_value.specs.Tasks.{TaskParts}
use Rattle.sp_core.specs.Books.{BookParts, IsBook}
use Rattle.sp_publish.specs.Published.{PublishedList, IsOfTask}
use Rattle.sp_workers.specs.Later.{StandsLater}
use Rattle.sp_workers.specs.Shared.{IsBeginning}
use Rattle.sp_workers.proofs.Beginnings.{list_task}

-- the first of a list of one
pub first_of : {A : Type 0} (xs : List A) (d : A) → length xs ≡ 1 → slice_get xs 0 ≡ Some (get_or xs 0 d)
first_of [] d one = absurd (omega (arith, one))
first_of (x ∷ xs) d one = refl

-- what a notice tells of a book's list is of the book's task
pub told_task : (p q : PublishedList) (b : BookParts) (t : TaskParts) → IsBook b → IsBeginning p b → q ≡ p → t ≡ b.task → IsOfTask q t
told_task p q b t is begins same task = subst (λ (x : PublishedList). IsOfTask x t) (sym same) (subst (λ (u : TaskParts). IsOfTask p u) (sym task) (list_task p b is begins))

-- of those that know a list, so many know of it later
module _ {S W : Type 0} (task : S → W) (seen : S → PublishedList) (ahead : S → ℕ) (list : Book) where
  pub all_later : (xs ys : List S) (n : ℕ) → n ≡ length xs → length ys ≡ n → ((i : ℕ) (d : S) → i < n → StandsLater task seen ahead (slice_index_or xs i d) (slice_index_or ys i d)) → All (λ x. (seen x).list ≡ list) xs → All (λ x. (seen x).list ≡ list) ys
  all_later xs ys n long count later all =
      λ k d less.
      let below : k < n = subst (λ (m : ℕ). k < m) count less in
      (later k d below).known.list ∙ all k d (subst (λ (m : ℕ). k < m) long below)

-- one name of the list for another
pub all_named : {S : Type 0} (seen : S → PublishedList) (xs : List S) (l m : Book) → l ≡ m → All (λ x. (seen x).list ≡ l) xs → All (λ x. (seen x).list ≡ m) xs
all_named seen xs l m same all = subst (λ (n : Book). All (λ x. (seen x).list ≡ n) xs) same all
