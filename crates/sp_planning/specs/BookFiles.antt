-- The plan file of a finished book, by whomever its events were made.
use Rattle.std.specs.Prelude.{◌≡◌, ◌≢◌, ℕ, List, length, map, All, AllPairs}
use Rattle.sp_theory.specs.Points.{count_of}
use Rattle.sp_theory.specs.Logs.{Log}
use Rattle.sp_model.specs.declared.parts.Parts.{Parts}
use Rattle.sp_model.specs.Problem.{sizes_of}
use Rattle.sp_value.specs.declared.events.Event.{Event}
use Rattle.sp_value.specs.Events.{events_of}
use Rattle.sp_core.specs.Books.{BookParts}
use Rattle.sp_session.specs.declared.logs.SessionLog.{SessionLog}
use Rattle.sp_serving.specs.Serving.{HasEntriesOf}
use Rattle.sp_planfile.specs.PlanText.{plan_text}
use Rattle.sp_planfile.specs.Form.{IsInForm, IsSessionName}
use Rattle.sp_planning.specs.ScriptFiles.{scripted_contents}

-- logs that a plan file of the model may have: of different sessions, with actions and observations of the model
pub record AreFileLogs (p : Parts) (logs : List Log) : Type 0 where
  pub names : All IsSessionName (map (λ log. log.name) logs)
  pub different : AllPairs (λ x y. x ≢ y) (map (λ log. log.name) logs)
  pub entries : All (HasEntriesOf p) logs

-- the text is the plan file of a book's events, with the values of their editions and these logs, in form
pub record IsBookFile (b : BookParts) (transcript : List SessionLog) (text : List ℕ) : Type 0 where
  pub events : List Event
  pub history : events_of events ≡ b.history
  pub form : IsInForm (length b.task.model.actions) (count_of (sizes_of b.task.model.sights))
      (scripted_contents b.task.model b.task events transcript)
  pub is : text ≡ plan_text (scripted_contents b.task.model b.task events transcript)
