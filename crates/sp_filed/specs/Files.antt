-- Plan files, and where they are at fault.
use Rattle.std.specs.Prelude.{◌≡◌, ◌≢◌, ℕ, ◌-◌, ℤ, ◌⊎◌, Bool, true, Option, List, ◌∷◌, ◌++◌, length, codes}
use Rattle.sp_theory.specs.Points.{count_of}
use Rattle.sp_model.specs.declared.parts.Parts.{Parts}
use Rattle.sp_model.specs.Problem.{sizes_of}
use Rattle.sp_value.specs.declared.events.Event.{Event}
use Rattle.sp_value.specs.Tasks.{TaskParts, IsTask}
use Rattle.sp_session.specs.declared.logs.SessionLog.{SessionLog}
use Rattle.sp_reader.specs.Sources.{Reads}
use Rattle.sp_planfile.specs.ModelText.{model_bytes}
use Rattle.sp_planfile.specs.Contents.{contents_of}
use Rattle.sp_planfile.specs.PlanText.{head_text, version_line, plan_text}
use Rattle.sp_planfile.specs.Form.{AreModelLines, IsInForm}
use Rattle.sp_filed.specs.declared.error.PlanKind.{PlanKind}
use Rattle.sp_filed.specs.declared.error.PlanKind.TheVariants.{Model, Sample, Shape}
use Rattle.sp_filed.specs.declared.moves.Unsampled.{Unsampled}
use Rattle.sp_filed.specs.declared.moves.Unsampled.TheVariants as stops
use Rattle.sp_filed.specs.Tails.{StopsBehindModel, IsUnseenBehindModel}

-- a plan file that tells a task, events, values in version 2, and logs: it is their text, its model's lines are read as the model and are its canonical text, and the samples are the model's, by the actions and observations of their lines
pub record IsPlanFile (source : List ℕ) (t : TaskParts) (events : List Event) (values : Option (List ℤ)) (transcript : List SessionLog) : Type 0 where
  pub text : source ≡ plan_text (contents_of (model_bytes t.model) t events values transcript)
  pub task : IsTask t
  pub reads : Reads (model_bytes t.model) t.model
  pub form : IsInForm (length t.model.actions) (count_of (sizes_of t.model.sights)) (contents_of (model_bytes t.model) t events values transcript)

-- the first two lines, lines up to one that ends the model, that line, and the rest
pub record IsDivided (source : List ℕ) (has_values : Bool) (body rest : List ℕ) : Type 0 where
  pub is : source ≡ head_text has_values ++ (body ++ (codes "endmodel\n" ++ rest))
  pub lines : AreModelLines body

-- the first line isn't that of a version, or the second isn't `model`
abbrev pub StopsAtHead : List ℕ → ℕ → Type 0
StopsAtHead source left =
    (((has_values : Bool) (rest : List ℕ) → source ≢ version_line has_values ++ (10 ∷ rest)) × (left ≡ length source))
    ⊎ ((has_values : Bool) × (rest : List ℕ) × (source ≡ version_line has_values ++ (10 ∷ rest)) × ((more : List ℕ) → rest ≢ codes "model\n" ++ more) × (left ≡ length rest))

-- no later line ends the model
abbrev pub HasNoEnd : List ℕ → Type 0
HasNoEnd source = (has_values : Bool) × (rest : List ℕ) × (source ≡ head_text has_values ++ rest) × ((body more : List ℕ) → AreModelLines body → rest ≢ body ++ (codes "endmodel\n" ++ more))

-- the lines are those of a model, and its canonical text
abbrev pub IsModelText : List ℕ → Parts → Type 0
IsModelText body p = Reads body p × (body ≡ model_bytes p)

-- so many bytes are left from the first line at fault on, and this is the fault: a missing line stands at the end, and where the model doesn't end all is missing
abbrev pub IsFaultBefore : List ℕ → ℕ → PlanKind → Type 0
IsFaultBefore source left Shape =
    StopsAtHead source left
    ⊎ ((HasNoEnd source × (left ≡ 0))
    ⊎ ((has_values : Bool) × (body : List ℕ) × (rest : List ℕ) × (p : Parts) × IsDivided source has_values body rest × IsModelText body p × StopsBehindModel has_values p rest left))
IsFaultBefore source left Model =
    (has_values : Bool) × (body : List ℕ) × (rest : List ℕ) × IsDivided source has_values body rest × ((p : Parts) → ¬ (IsModelText body p)) × (left ≡ length (codes "model\n" ++ (body ++ (codes "endmodel\n" ++ rest))))
IsFaultBefore source left Sample =
    (has_values : Bool) × (body : List ℕ) × (rest : List ℕ) × (p : Parts) × IsDivided source has_values body rest × IsModelText body p × IsUnseenBehindModel p rest left

-- the first line at fault begins at this byte
abbrev pub IsFault : List ℕ → ℕ → PlanKind → Type 0
IsFault source at kind = (left : ℕ) × IsFaultBefore source left kind × (at ≡ length source - left)

-- the first line is that of version 2
abbrev pub IsSecondVersion : List ℕ → Type 0
IsSecondVersion source = (rest : List ℕ) × (source ≡ version_line true ++ (10 ∷ rest))

-- the same of plan files of version 1 alone: the first line of version 2 is at fault
abbrev pub IsFirstVersionFault : List ℕ → ℕ → PlanKind → Type 0
IsFirstVersionFault source at kind = (IsSecondVersion source × (at ≡ 0) × (kind ≡ Shape)) ⊎ ((¬ (IsSecondVersion source)) × IsFault source at kind)

-- a reason behind the model, as a fault
abbrev pub IsSampleReason : Unsampled → ℕ → PlanKind → Type 0
IsSampleReason stop left Shape = stop ≡ stops.Shape left
IsSampleReason stop left Sample = stop ≡ stops.Sample left
IsSampleReason stop left Model = ⊥

-- where it stops behind the model
abbrev pub StopsInRest : Bool → Parts → List ℕ → ℕ → PlanKind → Type 0
StopsInRest has_values p text left Shape = StopsBehindModel has_values p text left
StopsInRest has_values p text left Sample = IsUnseenBehindModel p text left
StopsInRest has_values p text left Model = ⊥
