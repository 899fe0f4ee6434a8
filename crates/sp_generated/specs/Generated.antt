-- What the generated texts mean.
use Rattle.std.specs.Prelude.{◌≡◌, ℕ, ◌+◌, ◌≤◌, length}
use Rattle.sp_model.specs.declared.parts.Parts.{Parts}
use Rattle.sp_gen.specs.Models.{generated_text}
use Rattle.sp_reader.specs.Sources.{Reads}

-- the text of the number means a model, with eight variables more than the number, one observation variable and six actions
pub record MeansModel (number : ℕ) : Type 0 where
  pub model : Parts
  pub reads : Reads (generated_text number) model
  pub variables : length model.variables ≡ number + 8
  pub sights : length model.sights ≡ 1
  pub actions : length model.actions ≡ 6

abbrev pub GeneratedModelsAreRead : Type 0
GeneratedModelsAreRead = (number : ℕ) → number ≤ 16 → MeansModel number
