-- The laws of judged plan files, as the functions of this crate state them.
use Rattle.std.specs.Prelude.{◌≡◌, ℕ, ℤ, List, Some}
use Rattle.sp_theory.specs.Book.{opening}
use Rattle.sp_theory.specs.Runs.{replay}
use Rattle.sp_theory.specs.Laws.{IsSound, AllClose}
use Rattle.sp_value.specs.Events.{events_of}
use Rattle.sp_value.specs.Tasks.{task_of}
use Rattle.sp_model.specs.declared.parts.Parts.{Parts}
use Rattle.sp_value.specs.declared.tasks.Options.{Options}
use Rattle.sp_choose.specs.Machines.{Machine}
use Rattle.sp_script.specs.declared.command.Command.{Command}
use Rattle.sp_reader.specs.Sources.{Reads}
use Rattle.sp_planfile.specs.ModelText.{model_bytes}
use Rattle.sp_planning.specs.ScriptFiles.{IsScriptFileFor, scripted_contents}
use Rattle.sp_planning.specs.RunFiles.{IsRunFileFor}
use Rattle.sp_filed.specs.declared.error.PlanKind.{PlanKind}
use Rattle.sp_filed.specs.Files.{IsFault}
use Rattle.sp_audit.specs.Verdicts.{values_after}
use Rattle.sp_judging.specs.PlanFiles.{IsLegalFile, IsLegalPlan, IsIllegalPlan, IsMigratedText}

-- of the same bytes one thing holds at most: they are legal, they are a plan file that isn't, or they are at fault
pub record IsOneOfThree (source : List ℕ) : Type 0 where
  pub legal_or_not : IsLegalPlan source → (note : List ℕ) → ¬ (IsIllegalPlan source note)
  pub legal_or_fault : IsLegalPlan source → (at : ℕ) (kind : PlanKind) → ¬ (IsFault source at kind)
  pub illegal_or_fault : (note : List ℕ) → IsIllegalPlan source note → (at : ℕ) (kind : PlanKind) → ¬ (IsFault source at kind)

abbrev pub LegalFilesAreNotRefused : Type 0
LegalFilesAreNotRefused = (source : List ℕ) → IsOneOfThree source

-- the vectors of a legal file's run are lower bounds, values at sampled beliefs never fall, and backups are close to the exact ones
abbrev pub LegalFilesAreSound : Type 0
LegalFilesAreSound = (source : List ℕ) (p : IsLegalPlan source)
    → IsSound (task_of p.task) (replay (task_of p.task) (opening (task_of p.task)) (events_of p.events)) × AllClose (task_of p.task) (opening (task_of p.task)) (events_of p.events)

-- what is migrated is a legal file of the same run and transcript
abbrev pub MigratedFilesAreLegal : Type 0
MigratedFilesAreLegal = (source text : List ℕ) (m : IsMigratedText source text) → IsLegalFile text m.plan.task m.plan.events (Some (values_after m.plan.task (events_of m.plan.events))) m.plan.transcript

-- a file that has values is migrated to itself
abbrev pub FilesWithValuesStay : Type 0
FilesWithValuesStay = (source text : List ℕ) (m : IsMigratedText source text) (values : List ℤ) → m.plan.values ≡ Some values → text ≡ source

-- what is planned while a script is served is a legal file whose values are those of its editions
abbrev pub ScriptFilesAreLegal : Type 0
ScriptFilesAreLegal =
    (p : Parts) (o : Options) (chooser : Machine) (cs : List Command) (text : List ℕ) (f : IsScriptFileFor p o chooser cs text)
    → Reads (model_bytes p) p → IsLegalFile text f.task f.events (Some (values_after f.task (events_of f.events))) f.transcript

-- such a text is that of one model, one list of options and one run with its logs only
abbrev pub OneScriptFile : Type 0
OneScriptFile =
    (p q : Parts) (o w : Options) (chooser other : Machine) (cs ds : List Command) (text : List ℕ)
    → (one : IsScriptFileFor p o chooser cs text) (two : IsScriptFileFor q w other ds text)
    → Reads (model_bytes p) p → Reads (model_bytes q) q
    → (p ≡ q) × (o ≡ w)
    × (scripted_contents p one.task one.events one.transcript ≡ scripted_contents q two.task two.events two.transcript)

-- the plan file of a run, however many threads planned it, is a legal file whose values are those of its editions
abbrev pub RunFilesAreLegal : Type 0
RunFilesAreLegal =
    (p : Parts) (o : Options) (chooser : Machine) (cs : List Command) (text : List ℕ) (f : IsRunFileFor p o chooser cs text)
    → Reads (model_bytes p) p → IsLegalFile text f.task f.events (Some (values_after f.task (events_of f.events))) f.transcript

-- such a text too is that of one model, one list of options and one run with its logs only
abbrev pub OneRunFile : Type 0
OneRunFile =
    (p q : Parts) (o w : Options) (chooser other : Machine) (cs ds : List Command) (text : List ℕ)
    → (one : IsRunFileFor p o chooser cs text) (two : IsRunFileFor q w other ds text)
    → Reads (model_bytes p) p → Reads (model_bytes q) q
    → (p ≡ q) × (o ≡ w)
    × (scripted_contents p one.task one.events one.transcript ≡ scripted_contents q two.task two.events two.transcript)
