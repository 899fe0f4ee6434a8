-- Plan files that are legal and whose values are true, and what is written of them.
use Rattle.std.specs.Prelude.{◌≡◌, ℕ, ℤ, List, length, slice_get, codes, Option, Some, None, ⊤, ◌++◌}
use Rattle.std.specs.Fmt.{decimal}
use Rattle.sp_theory.specs.Points.{count_of}
use Rattle.sp_model.specs.Problem.{sizes_of}
use Rattle.sp_value.specs.declared.events.Event.{Event}
use Rattle.sp_value.specs.Events.{events_of}
use Rattle.sp_value.specs.Tasks.{TaskParts, task_of}
use Rattle.sp_session.specs.declared.logs.SessionLog.{SessionLog}
use Rattle.sp_session.specs.Logs.{logs_of}
use Rattle.sp_planfile.specs.ModelText.{model_bytes}
use Rattle.sp_planfile.specs.Contents.{Contents, contents_of}
use Rattle.sp_planfile.specs.PlanText.{plan_text}
use Rattle.sp_planfile.specs.Form.{IsInForm}
use Rattle.sp_filed.specs.Files.{IsPlanFile, IsFault}
use Rattle.sp_audit.specs.declared.clause.Clause.{Clause}
use Rattle.sp_audit.specs.Clauses.{clause_of}
use Rattle.sp_audit.specs.ReplayParts.{ReplayParts}
use Rattle.sp_audit.specs.Replays.{IsFirstOther}
use Rattle.sp_audit.specs.Verdicts.{AreLegal, AreWrong, values_after}
use Rattle.sp_judging.specs.declared.error.JudgeError.{JudgeError}
use Rattle.sp_judging.specs.declared.error.JudgeError.TheVariants.{Fault, NotLegal, NoMemory}
use Rattle.sp_judging.specs.Notes.{clause_word, event_note, entry_note}

-- ---- legal files
-- the values, where there are any, are those of the run's editions at belief 0
abbrev pub AreTrueValues : TaskParts → List Event → Option (List ℤ) → Type 0
AreTrueValues t events None = ⊤
AreTrueValues t events (Some values) = values ≡ values_after t (events_of events)

-- a plan file whose run and logs are legal and whose values are true
pub record IsLegalFile (source : List ℕ) (t : TaskParts) (events : List Event) (values : Option (List ℤ)) (transcript : List SessionLog) : Type 0 where
  pub file : IsPlanFile source t events values transcript
  pub legal : AreLegal (task_of t) (events_of events) (logs_of transcript)
  pub true_values : AreTrueValues t events values

-- the bytes are such a plan file
pub record IsLegalPlan (source : List ℕ) : Type 0 where
  pub task : TaskParts
  pub events : List Event
  pub values : Option (List ℤ)
  pub transcript : List SessionLog
  pub legal : IsLegalFile source task events values transcript

-- ---- the others
-- what is told of the first event, entry or value that is wrong; all three are numbered from 1
pub data IsNote (t : TaskParts) (events : List Event) (values : Option (List ℤ)) (transcript : List SessionLog) (note : List ℕ) : Type 0 where
  of_event : (number : ℕ) (clause : Clause) → AreWrong (task_of t) (events_of events) (logs_of transcript) None number (clause_of clause)
      → note ≡ event_note number (clause_word clause) → IsNote t events values transcript note
  of_entry : (place number : ℕ) (clause : Clause) (log : SessionLog) → AreWrong (task_of t) (events_of events) (logs_of transcript) (Some place) number (clause_of clause)
      → slice_get transcript place ≡ Some log → note ≡ entry_note log.name number (clause_word clause) → IsNote t events values transcript note
  of_value : (number : ℕ) (all : List ℤ) → AreLegal (task_of t) (events_of events) (logs_of transcript) → values ≡ Some all
      → IsFirstOther all (values_after t (events_of events)) (Some number) → note ≡ event_note number (codes "value") → IsNote t events values transcript note

-- a plan file that isn't legal, or whose values aren't true, and what is told of it
pub record IsIllegalPlan (source note : List ℕ) : Type 0 where
  pub task : TaskParts
  pub events : List Event
  pub values : Option (List ℤ)
  pub transcript : List SessionLog
  pub file : IsPlanFile source task events values transcript
  pub is : IsNote task events values transcript note

-- why bytes are no legal plan file with true values
abbrev pub IsReason : List ℕ → JudgeError → Type 0
IsReason source (Fault at kind) = IsFault source at kind
IsReason source (NotLegal note) = IsIllegalPlan source note.items
IsReason source NoMemory = ⊤

-- ---- values and a replay
-- there are as many values as editions, where there are any
abbrev pub AreAsMany : Option (List ℤ) → ReplayParts → Type 0
AreAsMany None r = ⊤
AreAsMany (Some values) r = length values ≡ length r.editions

-- no value is wrong, or the one of that number is the first
abbrev pub IsFirstUntrue : Option (List ℤ) → List ℤ → Option ℕ → Type 0
IsFirstUntrue None wanted None = ⊤
IsFirstUntrue None wanted (Some number) = ⊥
IsFirstUntrue (Some values) wanted found = IsFirstOther values wanted found

-- ---- texts
-- how many events, editions and sessions a legal file has
abbrev pub audit_line : ℕ → ℕ → ℕ → List ℕ
audit_line events editions sessions =
    codes "legal events " ++ (decimal events ++ (codes " editions " ++ (decimal editions ++ (codes " sessions " ++ (decimal sessions ++ codes "\n")))))

-- what is told of a legal file
abbrev pub audit_line_of : TaskParts → List Event → List SessionLog → List ℕ
audit_line_of t events transcript = audit_line (length events) (length (values_after t (events_of events))) (length transcript)

-- the file is legal, and the text tells so
pub record IsAuditText (source text : List ℕ) : Type 0 where
  pub plan : IsLegalPlan source
  pub is : text ≡ audit_line_of plan.task plan.events plan.transcript

-- what the file of version 2 of the same run and transcript says
abbrev pub migrated_contents : TaskParts → List Event → List SessionLog → Contents
migrated_contents t events transcript = contents_of (model_bytes t.model) t events (Some (values_after t (events_of events))) transcript

-- the file is legal, and the text is that of the same run and transcript in version 2, with the values of the run's editions. It is in form, so
-- that no other run, values or transcript have it
pub record IsMigratedText (source text : List ℕ) : Type 0 where
  pub plan : IsLegalPlan source
  pub is : text ≡ plan_text (migrated_contents plan.task plan.events plan.transcript)
  pub form : IsInForm (length plan.task.model.actions) (count_of (sizes_of plan.task.model.sights)) (migrated_contents plan.task plan.events plan.transcript)
