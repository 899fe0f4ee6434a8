-- What a text declares, told straight from the text.
use Rattle.std.specs.Prelude.{◌≡◌, ℕ, List, map, Ok}
use Rattle.sp_syntax.specs.declared.text.Declaration.{Declaration}
use Rattle.sp_syntax.specs.declared.text.Text.{Text}
use Rattle.sp_model.specs.declared.parts.Decl.{Decl}
use Rattle.sp_trees.specs.Words.{text}
use Rattle.sp_declarations.specs.declared.declarations.Declared.{Declared}
use Rattle.sp_declarations.specs.Declarations.{declarations_of}

-- a variable with the names of its values
abbrev pub decl_in : List ℕ → Declaration → Decl
decl_in source d = record { name = text source d.name; values = map (text source) d.values }

-- the variables and the observation variables of a text
abbrev pub declared_in : List ℕ → Text → Declared
declared_in source t = record { variables = map (decl_in source) t.variables.declarations; sights = map (decl_in source) t.observations.declarations }

-- declarations that aren't refused are those of the text
abbrev pub DeclarationsAreTold : Type 0
DeclarationsAreTold = (source : List ℕ) (t : Text) (d : Declared) → declarations_of source t ≡ Ok d → d ≡ declared_in source t
