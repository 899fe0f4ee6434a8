-- The text of a source.
use Rattle.std.specs.Prelude.{◌≡◌, ℕ, ◌<◌, List, Ok, All, length}
use Rattle.sp_syntax.specs.declared.text.Section.{Section}
use Rattle.sp_syntax.specs.declared.text.Section.TheVariants as section_of
use Rattle.sp_model.specs.Words.{IsModelName}
use Rattle.sp_trees.specs.Words.{text as text_at}
use Rattle.sp_declarations.specs.Kept.{HasDeclared}
use Rattle.sp_lex.specs.declared.lexeme.Token.{Token}
use Rattle.sp_lex.specs.Tokens.{tokens_of}
use Rattle.sp_syntax.specs.declared.text.Text.{Text}
use Rattle.sp_syntax.specs.Classes.{classes}
use Rattle.sp_syntax.specs.Grammar.{IsText}

-- the text is the grammar's tree of the source's tokens
pub record IsTextOf (source : List ℕ) (text : Text) : Type 0 where
  pub tokens : List Token
  pub lexed : tokens_of source ≡ Ok tokens
  pub read : IsText text (classes source tokens)

-- ---- what the grammar says of the words that a model keeps
-- an action's name is a name
abbrev pub HasName : List ℕ → Section → Type 0
HasName source (section_of.Action keyword name items end) = IsModelName (text_at source name)
HasName source _ = Unit {0}

pub record HasWords (source : List ℕ) (text : Text) : Type 0 where
  pub some_variable : 0 < length text.variables.declarations
  pub some_sight : 0 < length text.observations.declarations
  pub variables : All (HasDeclared source) text.variables.declarations
  pub sights : All (HasDeclared source) text.observations.declarations
  pub sections : All (HasName source) text.sections
