-- What a judgement tells of a plan file.
use Rattle.std.proofs.Common.{◌≡◌, ◌∙◌, refl, subst, ℕ, List, Option, Some, None, codes}
use Rattle.std.specs.Prelude.{ℤ, slice_get}
use Rattle.sp_value.specs.declared.events.Event.{Event}
use Rattle.sp_value.specs.Events.{events_of}
use Rattle.sp_value.specs.Tasks.{TaskParts, task_of}
use Rattle.sp_session.specs.declared.logs.SessionLog.{SessionLog}
use Rattle.sp_session.specs.Logs.{logs_of}
use Rattle.sp_filed.specs.Files.{IsPlanFile}
use Rattle.sp_audit.specs.declared.clause.Clause.{Clause}
use Rattle.sp_audit.specs.Clauses.{clause_of}
use Rattle.sp_audit.specs.Replays.{IsFirstOther}
use Rattle.sp_audit.specs.Verdicts.{AreLegal, AreWrong, values_after}
use Rattle.sp_judging.specs.Notes.{clause_word, event_note, entry_note}
use Rattle.sp_judging.specs.PlanFiles.{AreTrueValues, IsLegalFile, IsNote, of_event, of_entry, of_value, IsIllegalPlan, IsFirstUntrue}

module _ (source : List ℕ) (t : TaskParts) (events : List Event) (values : Option (List ℤ)) (transcript : List SessionLog) (file : IsPlanFile source t events values transcript) where
  true_where_none : (all : Option (List ℤ)) (wanted : List ℤ) → wanted ≡ values_after t (events_of events) → IsFirstUntrue all wanted None → AreTrueValues t events all
  true_where_none None wanted is none = tt
  true_where_none (Some all) wanted is none = none ∙ is

  pub legal_file : AreLegal (task_of t) (events_of events) (logs_of transcript) → (wanted : List ℤ) → wanted ≡ values_after t (events_of events) → IsFirstUntrue values wanted None → IsLegalFile source t events values transcript
  legal_file legal wanted is none = record { file = file; legal = legal; true_values = true_where_none values wanted is none }

  illegal : (note : List ℕ) → IsNote t events values transcript note → IsIllegalPlan source note
  illegal note is = record { task = t; events = events; values = values; transcript = transcript; file = file; is = is }

  pub event_wrong : (number : ℕ) (clause : Clause) (note : List ℕ) → AreWrong (task_of t) (events_of events) (logs_of transcript) None number (clause_of clause) → note ≡ event_note number (clause_word clause) → IsIllegalPlan source note
  event_wrong number clause note wrong is = illegal note (of_event number clause wrong is)

  pub entry_wrong : (place number : ℕ) (clause : Clause) (log : SessionLog) (note : List ℕ) → AreWrong (task_of t) (events_of events) (logs_of transcript) (Some place) number (clause_of clause)
      → slice_get transcript place ≡ Some log → note ≡ entry_note log.name number (clause_word clause) → IsIllegalPlan source note
  entry_wrong place number clause log note wrong at is = illegal note (of_entry place number clause log wrong at is)

  pub value_wrong : (number : ℕ) (note : List ℕ) (all : List ℤ) → AreLegal (task_of t) (events_of events) (logs_of transcript) → all ≡ values_after t (events_of events) → IsFirstUntrue values all (Some number)
      → note ≡ event_note number (codes "value") → IsIllegalPlan source note
  value_wrong number note all legal is untrue e = illegal note (by_values values refl untrue)
    where
      by_values : (told : Option (List ℤ)) → values ≡ told → IsFirstUntrue told all (Some number) → IsNote t events values transcript note
      by_values None same h = absurd h
      by_values (Some told) same h = of_value number told legal same (subst (λ (xs : List ℤ). IsFirstOther told xs (Some number)) is h) e
