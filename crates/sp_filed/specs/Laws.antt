-- The laws of plan files, as the functions of this crate state them.
use Rattle.std.specs.Prelude.{◌≡◌, ℕ, ◌<◌, ℤ, List, map, Option}
use Rattle.sp_theory.specs.Agreement.{WeightsAgree}
use Rattle.sp_model.specs.Problem.{problem}
use Rattle.sp_value.specs.declared.events.Event.{Event}
use Rattle.sp_value.specs.Tasks.{TaskParts, weights_at}
use Rattle.sp_session.specs.declared.logs.SessionLog.{SessionLog}
use Rattle.sp_planfile.specs.Contents.{move_of}
use Rattle.sp_filed.specs.declared.error.PlanKind.{PlanKind}
use Rattle.sp_filed.specs.Files.{IsPlanFile, IsFault}

-- a plan file has no fault
abbrev pub PlanFilesAreNotAtFault : Type 0
PlanFilesAreNotAtFault = (source : List ℕ) (t : TaskParts) (events : List Event) (values : Option (List ℤ)) (transcript : List SessionLog) (at : ℕ) (kind : PlanKind) → IsPlanFile source t events values transcript → ¬ (IsFault source at kind)

-- bytes are at fault in one place at most, and by one kind
abbrev pub SourcesAreAtFaultOnce : Type 0
SourcesAreAtFaultOnce = (source : List ℕ) (at other : ℕ) (kind sort : PlanKind) → IsFault source at kind → IsFault source other sort → (at ≡ other) × (kind ≡ sort)

-- two tasks are the same: they have one model and the same options, and their sampled beliefs have the same actions and observations, and the same weights at all states
pub record AreSameTasks (t u : TaskParts) : Type 0 where
  pub model : t.model ≡ u.model
  pub options : t.options ≡ u.options
  pub depth : t.samples.depth ≡ u.samples.depth
  pub moves : map move_of t.samples.list ≡ map move_of u.samples.list
  pub weights : (k : ℕ) → k < t.options.beliefs → WeightsAgree (problem t.model) (weights_at t k) (weights_at u k)

-- a plan file tells one task, and one list of events, of values and of logs
abbrev pub PlanFilesTellOneRun : Type 0
PlanFilesTellOneRun =
    (source : List ℕ) (t u : TaskParts) (events others : List Event) (values numbers : Option (List ℤ)) (transcript logs : List SessionLog)
    → IsPlanFile source t events values transcript → IsPlanFile source u others numbers logs
    → AreSameTasks t u × (events ≡ others) × (values ≡ numbers) × (transcript ≡ logs)
