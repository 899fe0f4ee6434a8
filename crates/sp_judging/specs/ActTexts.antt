-- The logs of a script that is served on a plan that is made.
use Rattle.std.specs.Prelude.{◌≡◌, ◌≢◌, ℕ, List, [], map, AllPairs}
use Rattle.sp_theory.specs.Book.{Event, opening}
use Rattle.sp_theory.specs.Runs.{replay}
use Rattle.sp_theory.specs.Logs.{Log, IsLegalTranscript}
use Rattle.sp_model.specs.Problem.{problem}
use Rattle.sp_value.specs.Tasks.{TaskParts, task_of}
use Rattle.sp_script.specs.declared.command.Command.{Command}
use Rattle.sp_script.specs.Served.{AreServed}
use Rattle.sp_serving.specs.Replies.{newest_of, transcript_of}
use Rattle.sp_planfile.specs.PlanText.{sessions_text}
use Rattle.sp_audit.specs.Verdicts.{run_editions}

-- the logs of a script whose commands are all served on the last edition to which events lead
abbrev pub last_logs : TaskParts → List Event → List Command → List Log
last_logs t es cs = transcript_of (problem t.model) [] (newest_of (replay (task_of t) (opening (task_of t)) es)) cs

-- the text tells these logs. They are legal for the run, serve the script, and have different names
pub record IsActText (t : TaskParts) (es : List Event) (cs : List Command) (text : List ℕ) : Type 0 where
  pub legal : IsLegalTranscript (problem t.model) (run_editions (task_of t) es) (last_logs t es cs)
  pub served : AreServed cs (last_logs t es cs)
  pub different : AllPairs (λ x y. x ≢ y) (map (λ log. log.name) (last_logs t es cs))
  pub is : text ≡ sessions_text (last_logs t es cs)
