-- What contracts see of a book, and what its type keeps.
use Rattle.std.specs.Prelude.{◌≡◌, List, length, map, Bool}
use Rattle.sp_theory.specs.Book.{Book, Event, opening, editions}
use Rattle.sp_theory.specs.Runs.{IsHistory, replay, IsPrompt}
use Rattle.sp_theory.specs.OneThread.{IsBetweenTurns}
use Rattle.sp_theory.specs.Agreement.{AllAgree}
use Rattle.sp_model.specs.Problem.{problem}
use Rattle.sp_value.specs.Tasks.{TaskParts, IsTask, task_of}
use Rattle.sp_value.specs.Editions.{EditionParts, members_in}
use Rattle.sp_ledger.specs.Opening.{AreNumbered}

-- a book as its task, its events, its editions and its marks
pub record BookParts : Type 0 where
  pub task : TaskParts
  -- the events so far
  pub history : List Event
  -- the editions in order
  pub editions : List EditionParts
  -- for each sampled belief whether it is taken
  pub taken : List Bool

-- the book that the history leads to
abbrev pub state_of : BookParts → Book
state_of b = replay (task_of b.task) (opening (task_of b.task)) b.history

-- what the type of books keeps: the history is allowed and prompt, no publication and no end is due, and the editions are those that it leads to
pub record IsBook (b : BookParts) : Type 0 where
  pub task : IsTask b.task
  pub history : IsHistory (task_of b.task) (opening (task_of b.task)) b.history
  pub prompt : IsPrompt (task_of b.task) (opening (task_of b.task)) b.history
  pub turns : IsBetweenTurns (task_of b.task) (state_of b)
  -- their members agree with those of the state's editions at all states
  pub editions : AllAgree (problem b.task.model) (map members_in b.editions) (editions (state_of b))
  pub numbered : AreNumbered b.task b.editions
  pub taken : length b.taken ≡ b.task.options.beliefs
