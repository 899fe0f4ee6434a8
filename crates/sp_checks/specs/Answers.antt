-- What is answered for a text: by the table of refusals alone.
use Rattle.std.specs.Prelude.{◌≡◌, ⊤, ℕ, List, Some, Result, Ok, Err}
use Rattle.sp_syntax.specs.declared.text.Text.{Text}
use Rattle.sp_model.specs.declared.parts.Parts.{Parts}
use Rattle.sp_model.specs.Kept.{IsModel}
use Rattle.sp_trees.specs.declared.refusal.Refusal.{Refusal}
use Rattle.sp_trees.specs.Rows.{IsFirstRefusal}
use Rattle.sp_declarations.specs.declared.error.ModelError.{ModelError}
use Rattle.sp_declarations.specs.declared.error.ModelError.TheVariants as error
use Rattle.sp_checks.specs.Source.{IsTextOf}
use Rattle.sp_checks.specs.Told.{parts_in}
use Rattle.sp_checks.specs.RefusalTable.{Breaks}

-- Where no row of the table holds, the model that the text tells, which is lawful. Where one holds, the row with the least place, and at one place the one that comes first.
abbrev pub AnswersText : List ℕ → Text → Result Parts ModelError → Type 0
AnswersText source t (Ok p) = ((r : Refusal) → ¬ Breaks source t r) × (p ≡ parts_in source t) × IsModel p
AnswersText source t (Err (error.Fault at kind)) = IsFirstRefusal (Breaks source t) (Some (record { at = at; kind = kind }))
AnswersText source t (Err error.NoMemory) = ⊤

-- the row that comes first is one
abbrev pub OneRefusalOfText : Type 0
OneRefusalOfText = (source : List ℕ) (t : Text) (first second : Refusal) → IsTextOf source t → IsFirstRefusal (Breaks source t) (Some first) → IsFirstRefusal (Breaks source t) (Some second) → first ≡ second
