-- What a ledger keeps, and how events change it.
use Rattle.std.specs.Prelude.{◌≡◌, ℕ, ◌+◌, ◌-◌, ◌≤◌, ◌==◌, List, [], ◌∷◌, ◌++◌, length, map, replicate, Bool, false, true, cond, ℤ, Option, Some, None, All}
use Rattle.std.specs.List.{range_with_len}
use Rattle.std.specs.Arc.{arc_value}
use Rattle.sp_theory.specs.Book.{Event, publish, end}
use Rattle.sp_value.specs.declared.editions.Member.{Member}
use Rattle.sp_value.specs.Tasks.{TaskParts, IsTask, task_of}
use Rattle.sp_value.specs.Editions.{EditionParts, IsMemberOf, edition_of, members_in}
use Rattle.sp_value.specs.Events.{events_of}
use Rattle.sp_core.specs.declared.ledger.Ledger.{Ledger}
use Rattle.sp_ledger.specs.Accounts.{Account, raised_at, lifted_to}
use Rattle.sp_core.specs.Running.{IsRunning}
use Rattle.sp_ledger.specs.Opening.{AreNumbered}
use Rattle.sp_core.specs.Books.{BookParts}

-- a ledger as lists and numbers
pub record LedgerContents : Type 0 where
  pub task : TaskParts
  pub events : List Event
  pub editions : List EditionParts
  pub records : ℕ
  pub grown : List Member
  pub improved : List Bool
  pub taken : List Bool
  pub latest_values : List ℤ
  pub grown_values : List ℤ
  pub worths : List ℤ
  pub stages_left : ℕ
  pub done : Bool

-- the contents of a ledger
abbrev pub contents : Ledger → LedgerContents
contents l = record {
  task = l.task;
  events = events_of l.events.items;
  editions = map arc_value l.editions.items;
  records = l.records;
  grown = l.grown.items;
  improved = l.improved.items;
  taken = l.taken.items;
  latest_values = l.latest_values.items;
  grown_values = l.grown_values.items;
  worths = l.worths.items;
  stages_left = l.stages_left;
  done = l.done;
}

-- what the book of these contents shows
abbrev pub parts_in : LedgerContents → BookParts
parts_in c = record { task = c.task; history = c.events; editions = c.editions; taken = c.taken }

-- the account in them
abbrev pub account_in : LedgerContents → Account
account_in c = record {
  records = c.records;
  editions = map members_in c.editions;
  grown = edition_of c.task.model c.grown;
  improved = c.improved;
  latest_values = c.latest_values;
  grown_values = c.grown_values;
  stages_left = c.stages_left;
  done = c.done;
}

-- what holds of each ledger between calls
pub record IsLedger (c : LedgerContents) : Type 0 where
  pub task : IsTask c.task
  pub running : IsRunning (task_of c.task) c.events (account_in c)
  pub numbered : AreNumbered c.task c.editions
  pub grown : All (IsMemberOf c.task.model) c.grown
  pub taken : length c.taken ≡ c.task.options.beliefs
  pub worths : length c.worths ≡ c.task.options.beliefs
  pub few : c.records ≤ length c.events + 1

-- ---- changes
-- one event and one record more
abbrev pub contents_with_event : LedgerContents → Event → LedgerContents
contents_with_event c event = record c { events = c.events ++ event ∷ []; records = c.records + 1 }

-- a member enters, whose worths are at hand
abbrev pub with_member : LedgerContents → Member → LedgerContents
with_member c x = record c {
  grown = c.grown ++ x ∷ [];
  improved = map (raised_at c.worths c.latest_values c.improved) (range_with_len 0 (length c.improved));
  grown_values = map (lifted_to (length c.grown == 0) c.worths c.grown_values) (range_with_len 0 (length c.grown_values));
}

-- whether one stage is left at most
abbrev pub is_last : LedgerContents → Bool
is_last c = c.stages_left - 1 == 0

-- the grown list becomes that edition, and where no stage is left then the run is over
abbrev pub contents_with_publication : LedgerContents → EditionParts → LedgerContents
contents_with_publication c e = record c {
  events = c.events ++ publish ∷ cond (is_last c) (end ∷ []) [];
  editions = c.editions ++ e ∷ [];
  grown = [];
  improved = replicate (length c.improved) false;
  taken = replicate (length c.taken) false;
  latest_values = c.grown_values;
  grown_values = c.latest_values;
  stages_left = c.stages_left - 1;
  done = cond (is_last c) true c.done;
}

-- the member enters, and the edition is published if there is one
abbrev pub entered_with : LedgerContents → Member → Option EditionParts → LedgerContents
entered_with c x None = with_member c x
entered_with c x (Some e) = contents_with_publication (with_member c x) e
