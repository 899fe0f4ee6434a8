-- A planning run under way.
use Rattle.std.specs.Prelude.{List}
use Rattle.sp_theory.specs.Book.{Task, Event, opening}
use Rattle.sp_theory.specs.Runs.{replay, IsPrompt}
use Rattle.sp_theory.specs.OneThread.{IsBetweenTurns}
use Rattle.sp_ledger.specs.Accounts.{Account}
use Rattle.sp_ledger.specs.Replayed.{IsReplayed}

-- the events so far are allowed and prompt, no publication and no end is due, and the account is of the book after them
pub record IsRunning (t : Task) (events : List Event) (f : Account) : Type 0 where
  pub replayed : IsReplayed t events f
  pub prompt : IsPrompt t (opening t) events
  pub turns : IsBetweenTurns t (replay t (opening t) events)
