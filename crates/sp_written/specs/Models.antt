-- Written texts that mean a model.
use Rattle.std.specs.Prelude.{◌≡◌, ℕ, ◌≤◌, List, Ok}
use Rattle.sp_syntax.specs.Grammar.{IsText}
use Rattle.sp_model.specs.declared.parts.Parts.{Parts}
use Rattle.sp_checks.specs.Meaning.{meaning}
use Rattle.sp_reader.specs.Sources.{Reads}
use Rattle.sp_spelled.specs.Signs.{Spelled, text_of_signs}
use Rattle.sp_spelled.specs.Written.{Written}

-- the signs are a text that means the parts, in any source that spells it
abbrev pub WritesModel : Parts → ℕ → List Spelled → Type 0
WritesModel parts depth signs = Written IsText (λ source tree. meaning source tree ≡ Ok parts) depth signs

abbrev pub WrittenModelsAreRead : Type 0
WrittenModelsAreRead = (parts : Parts) (depth : ℕ) (signs : List Spelled) → depth ≤ 128 → WritesModel parts depth signs → Reads (text_of_signs signs) parts
