-- The laws of books, as the functions of this crate state them.
use Rattle.sp_theory.specs.Book.{opening}
use Rattle.sp_theory.specs.OneThread.{dominated}
use Rattle.sp_theory.specs.Laws.{IsSound, AllClose}
use Rattle.sp_model.specs.Problem.{problem}
use Rattle.sp_value.specs.Tasks.{task_of}
use Rattle.sp_value.specs.Editions.{EditionParts, IsEdition, members_in}
use Rattle.sp_core.specs.Books.{BookParts, IsBook, state_of}
use Rattle.sp_core.specs.Pruning.{AreDominatedIn}

-- the state of each book is sound, and each backup that it recorded is close to the exact backup on its edition
abbrev pub BooksAreSound : Type 0
BooksAreSound = (b : BookParts) → IsBook b → IsSound (task_of b.task) (state_of b) × AllClose (task_of b.task) (opening (task_of b.task)) b.history

-- the dominated pairs of an edition name two different members of it, the first nowhere above the second
abbrev pub DominatedMayBePruned : Type 0
DominatedMayBePruned = (e : EditionParts) → IsEdition e → AreDominatedIn e (dominated (problem e.task.model) (members_in e))
