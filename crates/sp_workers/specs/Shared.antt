-- What workers share: the book of a run, and the published list of its editions.
use Rattle.std.specs.Prelude.{◌≡◌, ℕ, false}
use mathlib.Core.List.{IsPrefix}
use Rattle.logbook.specs.Pages.{Book}
use Rattle.sp_value.specs.Editions.{EditionParts}
use Rattle.sp_core.specs.Books.{BookParts, IsBook}
use Rattle.sp_publish.specs.Published.{PublishedList, IsOf}

-- what lies under the lock, as contracts see it: the book, the published list, and how many workers are at work
pub record Shared : Type 0 where
  pub book : BookParts
  pub list : PublishedList
  pub working : ℕ

-- the published list is a beginning of the book's editions, and hasn't ended
pub record IsBeginning (p : PublishedList) (b : BookParts) : Type 0 where
  pub editions : IsPrefix p.editions b.editions
  pub going : p.ended ≡ false

-- what holds whenever the lock is free: the book is the replay of its history, which is allowed and prompt so far;
-- the list is the one of that number and that edition 0, and a beginning of the book's editions
pub record AreShared (list : Book) (first : EditionParts) (b : BookParts) (p : PublishedList) : Type 0 where
  pub book : IsBook b
  pub beginning : IsBeginning p b
  pub named : IsOf list first p
