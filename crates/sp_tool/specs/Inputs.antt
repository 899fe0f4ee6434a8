-- What jobs read, file by file, and how the reading ends.
use Rattle.std.specs.Prelude.{◌≡◌, ℕ, ◌<◌, ◌≤◌, ℤ, Option, List, [], ◌∷◌, length, ⊤, ◌⊎◌}
use Rattle.sp_model.specs.declared.parts.Parts.{Parts}
use Rattle.sp_reader.specs.Sources.{Reads, IsFaulty}
use Rattle.sp_value.specs.declared.events.Event.{Event}
use Rattle.sp_value.specs.Tasks.{TaskParts}
use Rattle.sp_session.specs.declared.logs.SessionLog.{SessionLog}
use Rattle.sp_filed.specs.declared.error.PlanKind.{PlanKind}
use Rattle.sp_filed.specs.Files.{IsPlanFile, IsFault}
use Rattle.sp_judging.specs.PlanFiles.{IsLegalPlan, IsIllegalPlan}
use Rattle.sp_script.specs.declared.command.Command.{Command}
use Rattle.sp_script.specs.declared.error.ScriptKind.{ScriptKind}
use Rattle.sp_script.specs.declared.error.ScriptError.TheVariants.{Fault}
use Rattle.sp_script.specs.Script as scripts
use Rattle.sp_tool.specs.Lines.{too_long_line, refused_line, refused_script_line, not_legal_line}
use Rattle.sp_tool.specs.Kinds.{kind_word, script_kind_word}

-- how many bytes a model file may have
abbrev pub model_limit : ℕ
model_limit = 16777216

-- how many bytes a plan file may have
abbrev pub plan_limit : ℕ
plan_limit = 1073741824

-- how many bytes a script may have
abbrev pub script_limit : ℕ
script_limit = 1048576

-- ---- one file
-- a file that a job reads, by its name; a script is one for the model that the file before it tells
pub data Input : Type 0 where
  model_file : List ℕ → Input
  plan_file : List ℕ → Input
  script_file : List ℕ → Input

abbrev pub name_of : Input → List ℕ
name_of (model_file name) = name
name_of (plan_file name) = name
name_of (script_file name) = name

abbrev pub limit_of : Input → ℕ
limit_of (model_file name) = model_limit
limit_of (plan_file name) = plan_limit
limit_of (script_file name) = script_limit

-- the bytes of such a file tell this model
abbrev pub TellsModel : Input → List ℕ → Parts → Type 0
TellsModel (model_file name) source model = Reads source model
TellsModel (plan_file name) source model =
    (t : TaskParts) × ((events : List Event) × ((values : Option (List ℤ)) × ((transcript : List SessionLog) × IsPlanFile source t events values transcript × (t.model ≡ model))))
TellsModel (script_file name) source model = ⊥

-- the file tells no model, as there is none
abbrev pub TellsNone : Parts → Type 0
TellsNone model = ⊥

-- behind a file that tells such a model, the bytes mean a model, or they are a legal plan file whose values are true, or a script for that model
abbrev pub IsMeant : (Parts → Type 0) → Input → List ℕ → Type 0
IsMeant told (model_file name) source = (model : Parts) × Reads source model
IsMeant told (plan_file name) source = IsLegalPlan source
IsMeant told (script_file name) source = (model : Parts) × told model × ((cs : List Command) × scripts.IsScript model.sights source cs)

-- the bytes aren't of the form of such a file, for a reason at a byte or on a line, which the line tells
abbrev pub TellsFault : (Parts → Type 0) → Input → List ℕ → List ℕ → Type 0
TellsFault told (model_file name) source line = (at : ℕ) × ((kind : List ℕ) × IsFaulty source at kind × (line ≡ refused_line name at kind))
TellsFault told (plan_file name) source line = (at : ℕ) × ((kind : PlanKind) × IsFault source at kind × (line ≡ refused_line name at (kind_word kind)))
TellsFault told (script_file name) source line =
    (model : Parts) × told model
    × ((number : ℕ) × ((kind : ScriptKind) × scripts.IsScriptRefused model.sights source (Fault number kind) × (line ≡ refused_script_line name number (script_kind_word kind))))

-- the bytes are a plan file that isn't legal, or whose values aren't its editions', which the line tells
abbrev pub TellsIllegal : Input → List ℕ → List ℕ → Type 0
TellsIllegal (model_file name) source line = ⊥
TellsIllegal (plan_file name) source line = (note : List ℕ) × IsIllegalPlan source note × (line ≡ not_legal_line name note)
TellsIllegal (script_file name) source line = ⊥

-- the file is accepted
abbrev pub IsAccepted : (Parts → Type 0) → Input → List ℕ → Type 0
IsAccepted told input source = (length source ≤ limit_of input) × IsMeant told input source

-- the file is longer than its limit, or isn't of its form
abbrev pub IsRefused : (Parts → Type 0) → Input → List ℕ → List ℕ → Type 0
IsRefused told input source line =
    ((limit_of input < length source) × (line ≡ too_long_line (name_of input) (limit_of input)))
    ⊎ ((length source ≤ limit_of input) × TellsFault told input source line)

-- the file is of its form, and isn't legal
abbrev pub IsForbidden : Input → List ℕ → List ℕ → Type 0
IsForbidden input source line = (length source ≤ limit_of input) × TellsIllegal input source line

-- ---- one after another
-- how the reading of files ends: all of them are accepted; the last one that was read is refused, or isn't legal, which the line tells; or
-- the one of that name isn't read
pub data Ending : Type 0 where
  all_accepted : Ending
  last_refused : List ℕ → Ending
  last_forbidden : List ℕ → Ending
  next_unread : List ℕ → Ending

-- so it ends where no file is left
abbrev pub EndsWhole : Ending → Type 0
EndsWhole all_accepted = ⊤
EndsWhole ending = ⊥

-- so it ends before this file
abbrev pub EndsBefore : Input → Ending → Type 0
EndsBefore input (next_unread name) = name ≡ name_of input
EndsBefore input ending = ⊥

-- so it ends at this file, with these bytes
abbrev pub EndsAt : (Parts → Type 0) → Input → List ℕ → Ending → Type 0
EndsAt told input source (last_refused line) = IsRefused told input source line
EndsAt told input source (last_forbidden line) = IsForbidden input source line
EndsAt told input source ending = ⊥

-- with these bytes of the files that were read it ends so, behind a file that tells such a model: files are read in order, each one whole,
-- and a file only where those before it are accepted
abbrev pub EndsBehind : (Parts → Type 0) → List Input → List (List ℕ) → Ending → Type 0
EndsBehind told [] [] ending = EndsWhole ending
EndsBehind told [] (source ∷ files) ending = ⊥
EndsBehind told (input ∷ inputs) [] ending = EndsBefore input ending
EndsBehind told (input ∷ inputs) (source ∷ files) ending =
    (IsAccepted told input source × EndsBehind (TellsModel input source) inputs files ending) ⊎ (EndsAt told input source ending × (files ≡ []))

-- with these bytes of the first ones of all files it ends so
abbrev pub Ends : List Input → List (List ℕ) → Ending → Type 0
Ends inputs files ending = EndsBehind TellsNone inputs files ending
