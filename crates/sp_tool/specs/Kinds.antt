-- The names of what is at fault in a plan file or in a script.
use Rattle.std.specs.Prelude.{ℕ, List, ◌++◌, codes}
use Rattle.std.specs.Fmt.{decimal}
use Rattle.sp_filed.specs.declared.error.PlanKind.{PlanKind}
use Rattle.sp_filed.specs.declared.error.PlanKind.TheVariants.{Model, Sample, Shape}
use Rattle.sp_script.specs.declared.error.ScriptKind.{ScriptKind}
use Rattle.sp_script.specs.declared.error.ScriptKind.TheVariants as scripts

abbrev pub kind_word : PlanKind → List ℕ
kind_word Model = codes "Model"
kind_word Sample = codes "Sample"
kind_word Shape = codes "Shape"

-- with its limit where there is one
abbrev pub script_kind_word : ScriptKind → List ℕ
script_kind_word scripts.BadLine = codes "BadLine"
script_kind_word scripts.NotOpen = codes "NotOpen"
script_kind_word scripts.Twice = codes "Twice"
script_kind_word scripts.NoAction = codes "NoAction"
script_kind_word scripts.UnknownValue = codes "UnknownValue"
script_kind_word (scripts.TooMany limit) = codes "TooMany " ++ decimal limit
