-- The plan file of what one thread plans.
use Rattle.std.specs.Prelude.{◌≡◌, ℕ, ℤ, List, [], length, map, Some}
use Rattle.sp_theory.specs.Points.{count_of}
use Rattle.sp_theory.specs.Book.{opening, editions}
use Rattle.sp_theory.specs.Runs.{replay}
use Rattle.sp_model.specs.declared.parts.Parts.{Parts}
use Rattle.sp_model.specs.Problem.{sizes_of}
use Rattle.sp_value.specs.declared.events.Event.{Event}
use Rattle.sp_value.specs.declared.tasks.Options.{Options}
use Rattle.sp_value.specs.Events.{events_of}
use Rattle.sp_value.specs.Tasks.{TaskParts, task_of}
use Rattle.sp_choose.specs.Machines.{Machine}
use Rattle.sp_planner.specs.Planned.{IsPlanned}
use Rattle.sp_planner.specs.Numbers.{value_at_first}
use Rattle.sp_planfile.specs.ModelText.{model_bytes}
use Rattle.sp_planfile.specs.Contents.{Contents, contents_of}
use Rattle.sp_planfile.specs.PlanText.{plan_text}
use Rattle.sp_planfile.specs.Form.{IsInForm}

-- the value at belief 0 of each edition to which the events lead, in ticks, rounded down
abbrev pub values_after : TaskParts → List Event → List ℤ
values_after t events = map (value_at_first t) (editions (replay (task_of t) (opening (task_of t)) (events_of events)))

-- what the file of a model's run says, without sessions
abbrev pub planned_contents : Parts → TaskParts → List Event → Contents
planned_contents p t events = contents_of (model_bytes p) t events (Some (values_after t events)) []

-- the text is the plan file of the events that one thread plans for the model, with the values of their editions. It is in form, so that no other
-- model, options, beliefs, events or values have it
pub record IsPlanFileFor (p : Parts) (o : Options) (chooser : Machine) (text : List ℕ) : Type 0 where
  pub task : TaskParts
  pub events : List Event
  pub planned : IsPlanned p o chooser task (events_of events)
  pub form : IsInForm (length p.actions) (count_of (sizes_of p.sights)) (planned_contents p task events)
  pub is : text ≡ plan_text (planned_contents p task events)
