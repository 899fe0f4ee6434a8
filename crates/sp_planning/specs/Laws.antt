-- The laws of planned files, as the functions of this crate state them.
use Rattle.std.specs.Prelude.{ℕ, List, []}
use Rattle.sp_model.specs.declared.parts.Parts.{Parts}
use Rattle.sp_model.specs.Kept.{IsModel}
use Rattle.sp_value.specs.declared.tasks.Options.{Options}
use Rattle.sp_choose.specs.Machines.{Machine}
use Rattle.sp_planfile.specs.ModelText.{model_bytes}
use Rattle.sp_planfile.specs.Form.{AreModelLines}
use Rattle.sp_planning.specs.PlanFiles.{IsPlanFileFor}
use Rattle.sp_planning.specs.ScriptFiles.{IsScriptFileFor}
use Rattle.sp_planning.specs.RunFiles.{IsRunFileFor}
use Rattle.sp_script.specs.declared.command.Command.{Command}

-- the canonical text of a model has whole lines, and none of them is `endmodel`
abbrev pub ModelTextsHaveLines : Type 0
ModelTextsHaveLines = (p : Parts) → IsModel p → AreModelLines (model_bytes p)

-- a script without commands changes nothing in the plan file
abbrev pub EmptyScriptsChangeNothing : Type 0
EmptyScriptsChangeNothing =
    (p : Parts) (o : Options) (chooser : Machine) (text : List ℕ) → IsScriptFileFor p o chooser [] text → IsPlanFileFor p o chooser text

-- what one thread plans while it serves a script is the plan file of a run
abbrev pub ScriptFilesAreRunFiles : Type 0
ScriptFilesAreRunFiles =
    (p : Parts) (o : Options) (chooser : Machine) (cs : List Command) (text : List ℕ)
    → IsScriptFileFor p o chooser cs text → IsRunFileFor p o chooser cs text

-- so is what one thread plans without a script
abbrev pub PlanFilesAreRunFiles : Type 0
PlanFilesAreRunFiles =
    (p : Parts) (o : Options) (chooser : Machine) (text : List ℕ) → IsPlanFileFor p o chooser text → IsRunFileFor p o chooser [] text
