-- The plan file of what one thread plans while it serves a script.
use Rattle.std.specs.Prelude.{◌≡◌, ℕ, List, [], length, Some, false}
use Rattle.std.specs.List.{AllByRecursion}
use Rattle.sp_theory.specs.Points.{count_of}
use Rattle.sp_model.specs.declared.parts.Parts.{Parts}
use Rattle.sp_model.specs.Problem.{sizes_of}
use Rattle.sp_value.specs.declared.events.Event.{Event}
use Rattle.sp_value.specs.declared.tasks.Options.{Options}
use Rattle.sp_value.specs.Events.{events_of}
use Rattle.sp_value.specs.Tasks.{TaskParts, task_of}
use Rattle.sp_choose.specs.Machines.{Machine}
use Rattle.sp_planner.specs.Planned.{IsPlanned, picking_words}
use Rattle.sp_session.specs.declared.logs.SessionLog.{SessionLog}
use Rattle.sp_session.specs.Logs.{entries_of, logs_of}
use Rattle.sp_script.specs.declared.command.Command.{Command}
use Rattle.sp_attending.specs.Runs.{IsServedPlan}
use Rattle.sp_planfile.specs.ModelText.{model_bytes}
use Rattle.sp_planfile.specs.Contents.{Contents, contents_of}
use Rattle.sp_planfile.specs.PlanText.{plan_text}
use Rattle.sp_planfile.specs.Form.{IsInForm, HasSmallNumbers}
use Rattle.sp_planning.specs.PlanFiles.{values_after}

-- what the file of a model's run says, with the logs of sessions
abbrev pub scripted_contents : Parts → TaskParts → List Event → List SessionLog → Contents
scripted_contents p t events transcript = contents_of (model_bytes p) t events (Some (values_after t events)) transcript

-- the numbers of logs are of 64 bits
abbrev pub AreSmallLogs : List SessionLog → Type 0
AreSmallLogs logs = AllByRecursion (λ log. AllByRecursion HasSmallNumbers (entries_of log.entries)) logs

-- the text is the plan file of the events that one thread plans for the model, with the values of their editions, and with the logs of the
-- script as it is served at the pauses of this run. It is in form, so that no other model, options, beliefs, events, values or logs have it
pub record IsScriptFileFor (p : Parts) (o : Options) (chooser : Machine) (cs : List Command) (text : List ℕ) : Type 0 where
  pub task : TaskParts
  pub events : List Event
  pub transcript : List SessionLog
  pub planned : IsPlanned p o chooser task (events_of events)
  pub sessions : IsServedPlan (task_of task) o.prune [] (λ k. false) (picking_words o) (events_of events) cs (logs_of transcript)
  pub form : IsInForm (length p.actions) (count_of (sizes_of p.sights)) (scripted_contents p task events transcript)
  pub is : text ≡ plan_text (scripted_contents p task events transcript)
