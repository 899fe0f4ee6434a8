-- The canonical text of a model is read back as that model.
use Rattle.std.specs.Prelude.{ℕ, ◌^◌, ◌≤◌, All, List, [], ◌∷◌}
use Rattle.sp_dd.specs.Func.{IsFunc}
use Rattle.sp_model.specs.declared.parts.Parts.{Parts}
use Rattle.sp_model.specs.declared.parts.Factor.{Factor}
use Rattle.sp_model.specs.declared.parts.ActionPart.{ActionPart}
use Rattle.sp_model.specs.Kept.{IsModel}
use Rattle.sp_spelled.specs.Signs.{text_of_signs}
use Rattle.sp_reader.specs.Sources.{Reads}
use Rattle.sp_canonical.specs.ModelSigns.{model_signs, lines_total, factor_tables, next_base}

-- each function of the action is determined by its values
pub record HasFuncs (a : ActionPart) : Type 0 where
  pub moves : All IsFunc a.moves
  pub sights : All IsFunc a.sight
  pub reward : IsFunc a.reward

-- each function of the model is determined by its values
pub record AreFuncs (p : Parts) : Type 0 where
  pub init : All (λ (f : Factor). IsFunc f.func) p.init
  pub actions : All HasFuncs p.actions

-- the number of the line behind those of all actions
abbrev pub line_end : Parts → ℕ → List ActionPart → ℕ
line_end p base [] = base
line_end p base (a ∷ more) = line_end p (next_base p base a) more

abbrev pub CanonicalTextIsReadBack : Type 0
CanonicalTextIsReadBack =
    (p : Parts) → IsModel p → AreFuncs p → line_end p (lines_total (factor_tables p.init)) p.actions ≤ 2 ^ 64 → Reads (text_of_signs (model_signs p)) p
