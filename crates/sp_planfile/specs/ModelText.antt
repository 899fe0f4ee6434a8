-- The lines of a model in a plan file.
use Rattle.std.specs.Prelude.{ℕ, List}
use Rattle.sp_model.specs.declared.parts.Parts.{Parts}
use Rattle.sp_spelled.specs.Signs.{text_of_signs}
use Rattle.sp_canonical.specs.ModelSigns.{model_signs}

-- the canonical text of a model
abbrev pub model_bytes : Parts → List ℕ
model_bytes p = text_of_signs (model_signs p)
