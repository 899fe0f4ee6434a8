-- The plan file of a run, however many threads planned it.
use Rattle.std.specs.Prelude.{◌≡◌, ℕ, List, length}
use Rattle.sp_theory.specs.Points.{count_of}
use Rattle.sp_theory.specs.Book.{opening, editions}
use Rattle.sp_theory.specs.Runs.{replay}
use Rattle.sp_theory.specs.Logs.{IsLegalTranscript}
use Rattle.sp_model.specs.declared.parts.Parts.{Parts}
use Rattle.sp_model.specs.Problem.{sizes_of}
use Rattle.sp_value.specs.declared.events.Event.{Event}
use Rattle.sp_value.specs.declared.tasks.Options.{Options}
use Rattle.sp_value.specs.Events.{events_of}
use Rattle.sp_value.specs.Tasks.{TaskParts, task_of}
use Rattle.sp_choose.specs.Machines.{Machine}
use Rattle.sp_planner.specs.Planned.{IsTaskFor, IsTrusted}
use Rattle.sp_session.specs.declared.logs.SessionLog.{SessionLog}
use Rattle.sp_session.specs.Logs.{logs_of}
use Rattle.sp_script.specs.declared.command.Command.{Command}
use Rattle.sp_script.specs.Served.{AreServed}
use Rattle.sp_planfile.specs.PlanText.{plan_text}
use Rattle.sp_planfile.specs.Form.{IsInForm}
use Rattle.sp_planning.specs.ScriptFiles.{scripted_contents}

-- the text is the plan file of a run for the model, with the values of its editions, and with logs that serve the script. It is in form, so that
-- no other model, options, beliefs, events, values or logs have it
pub record IsRunFileFor (p : Parts) (o : Options) (chooser : Machine) (cs : List Command) (text : List ℕ) : Type 0 where
  pub task : TaskParts
  pub events : List Event
  pub transcript : List SessionLog
  -- the task is that of the model, the options and the sampled beliefs
  pub sampled : IsTaskFor p o chooser task
  -- the run is legal, prompt, sound and close, and has as many publications as stages
  pub trusted : IsTrusted (task_of task) (events_of events)
  -- each log is legal for the run's editions, and ends with the closing answer on the last one
  pub legal : IsLegalTranscript (task_of task).model
      (editions (replay (task_of task) (opening (task_of task)) (events_of events))) (logs_of transcript)
  -- the logs are those of the script's sessions, in order of opening, and each replies to its session's commands
  pub served : AreServed cs (logs_of transcript)
  pub form : IsInForm (length p.actions) (count_of (sizes_of p.sights)) (scripted_contents p task events transcript)
  pub is : text ≡ plan_text (scripted_contents p task events transcript)
