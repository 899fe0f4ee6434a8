-- What a text means: the parts of its model, or the refusal that comes first.
use Rattle.std.specs.Prelude.{ℕ, List, length, Result}
use Rattle.sp_syntax.specs.declared.text.Text.{Text}
use Rattle.sp_model.specs.declared.parts.Parts.{Parts}
use Rattle.sp_trees.specs.declared.refusal.Refusal.{Refusal}
use Rattle.sp_declarations.specs.Steps.{◌>>=◌, in_turn}
use Rattle.sp_declarations.specs.Declarations.{declarations_of}
use Rattle.sp_checks.specs.Sections.{section, begun}
use Rattle.sp_checks.specs.Finish.{finish}

-- the declarations, then the sections in turn, then the end
unfoldable pub meaning : List ℕ → Text → Result Parts Refusal
meaning source t = declarations_of source t >>= λ d. (in_turn (section source) (begun d) t.sections >>= λ s. finish s (length source))
