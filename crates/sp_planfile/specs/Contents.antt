-- What a plan file says.
use Rattle.std.specs.Prelude.{ℕ, ℤ, List, map, drop, Option}
use Rattle.sp_theory.specs.Book as book
use Rattle.sp_theory.specs.Logs as logs
use Rattle.sp_model.specs.declared.beliefs.Sample.{Sample}
use Rattle.sp_value.specs.declared.events.Event.{Event}
use Rattle.sp_value.specs.declared.tasks.Options.{Options}
use Rattle.sp_value.specs.Events.{events_of}
use Rattle.sp_value.specs.Tasks.{TaskParts}
use Rattle.sp_session.specs.declared.logs.SessionLog.{SessionLog}
use Rattle.sp_session.specs.Logs.{logs_of}

-- what a plan file says. Samples, records and editions aren't in it: they follow
pub record Contents : Type 0 where
  -- the lines of the model, each with its end
  pub model : List ℕ
  pub options : Options
  -- for each belief from 1 on the action and the joint observation that led to it
  pub moves : List (ℕ × ℕ)
  pub events : List book.Event
  -- the value of each edition at belief 0; none in version 1
  pub values : Option (List ℤ)
  pub logs : List logs.Log

-- the action and the joint observation of a sample
abbrev pub move_of : Sample → ℕ × ℕ
move_of x = (x.action, x.observation)

-- those of all samples but the first
abbrev pub moves_of : List Sample → List (ℕ × ℕ)
moves_of xs = map move_of (drop 1 xs)

-- what the plan file of a run with values and logs says, where the model has these lines
abbrev pub contents_of : List ℕ → TaskParts → List Event → Option (List ℤ) → List SessionLog → Contents
contents_of model t events values transcript = record {
  model = model;
  options = t.options;
  moves = moves_of t.samples.list;
  events = events_of events;
  values = values;
  logs = logs_of transcript;
}
