-- One line of a script after those before it, as the reader takes it.
use Rattle.std.specs.Prelude.{◌≡◌, ℕ, ◌++◌, ⊤, false, List}
use Rattle.std.specs.Option.{option_to_list}
use Rattle.sp_model.specs.declared.parts.Decl.{Decl}
use Rattle.sp_script.specs.declared.command.Command.{Command}
use Rattle.sp_script.specs.declared.error.ScriptKind.{ScriptKind}
use Rattle.sp_script.specs.declared.error.ScriptError.{ScriptError}
use Rattle.sp_script.specs.declared.error.ScriptError.TheVariants.{Fault, NoMemory}
use Rattle.sp_script.specs.Lines.{words_of, is_skipped}
use Rattle.sp_script.specs.Requests.{request_of}
use Rattle.sp_script.specs.Script.{command_on, BreaksRule, IsFirstKind, kinds}

-- its command, if it has one, comes behind the others, and it isn't at fault
pub record IsTakenOn (sights : List Decl) (number : ℕ) (line : List ℕ) (before after : List Command) : Type 0 where
  pub commands : after ≡ before ++ option_to_list (command_on sights number line)
  pub faultless : is_skipped (words_of line) ≡ false → (kind : ScriptKind) → ¬ BreaksRule before (request_of sights (words_of line)) kind

-- why it isn't taken
abbrev pub IsRefusedOn : List Decl → ℕ → List ℕ → List Command → ScriptError → Type 0
IsRefusedOn sights number line before (Fault at kind) =
    (at ≡ number) × (is_skipped (words_of line) ≡ false) × IsFirstKind (BreaksRule before (request_of sights (words_of line))) kinds kind
IsRefusedOn sights number line before NoMemory = ⊤
