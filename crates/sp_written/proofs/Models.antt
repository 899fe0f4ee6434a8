-- A written text that means a model is read as that model.
use Rattle.std.proofs.Common.{◌≡◌, ℕ, List, Ok}
use Rattle.sp_lex.proofs.Unique.{cut_alone}
use Rattle.sp_model.specs.declared.parts.Parts.{Parts}
use Rattle.sp_checks.specs.Meaning.{meaning}
use Rattle.sp_checks.proofs.TextLemmas.{text_answers}
use Rattle.sp_spelled.specs.Signs.{text_of_signs}
use Rattle.sp_spelled.specs.Written.{HasTree}
use Rattle.sp_spelled.proofs.Texts.{written_is_read}
use Rattle.sp_reader.specs.Sources.{Reads}
use Rattle.sp_written.specs.Models.{WrittenModelsAreRead}

-- a source whose tree means the parts
reads_tree : (source : List ℕ) (parts : Parts) → HasTree source (λ s t. meaning s t ≡ Ok parts) → Reads source parts
reads_tree source parts h =
    let answers = text_answers source h.tree (record { tokens = h.tokens; lexed = h.lexed; read = h.answers.0 }) (cut_alone source) (Ok parts) h.holds in
    (h.tree, (h.tokens, h.lexed, h.answers), answers.0, answers.1)

pub written_models : WrittenModelsAreRead
written_models parts depth signs few written = reads_tree (text_of_signs signs) parts (written_is_read (λ s t. meaning s t ≡ Ok parts) depth signs few written)
