-- What the bytes of a model file mean, and why they are refused.
use Rattle.std.specs.Prelude.{◌≡◌, ℕ, List, length, codes, Some, Ok, Err, ◌⊎◌}
use Rattle.sp_lex.specs.declared.lexeme.Token.{Token}
use Rattle.sp_lex.specs.Tokens.{tokens_of}
use Rattle.sp_syntax.specs.declared.text.Text.{Text}
use Rattle.sp_syntax.specs.declared.error.SyntaxKind.{SyntaxKind}
use Rattle.sp_syntax.specs.declared.error.SyntaxError.TheVariants.{Fault}
use Rattle.sp_syntax.specs.Classes.{classes}
use Rattle.sp_syntax.specs.Refusal as grammar
use Rattle.sp_model.specs.declared.parts.Parts.{Parts}
use Rattle.sp_trees.specs.declared.refusal.ModelKind.{ModelKind}
use Rattle.sp_trees.specs.declared.refusal.Refusal.{Refusal}
use Rattle.sp_trees.specs.Rows.{IsFirstRefusal}
use Rattle.sp_checks.specs.Told.{parts_in}
use Rattle.sp_checks.specs.RefusalTable.{Breaks}
use Rattle.sp_reader.specs.Kinds.{grammar_name, kind_text}

-- the bytes have tokens, and this is the tree of these
abbrev pub IsTreeOf : List ℕ → Text → Type 0
IsTreeOf source tree = (ts : List Token) × (tokens_of source ≡ Ok ts) × grammar.AnswersTokens (length source) (classes source ts) (Ok tree)

-- the bytes mean this model: no row of the table of refusals holds of their tree, which tells the model
abbrev pub Reads : List ℕ → Parts → Type 0
Reads source model = (tree : Text) × IsTreeOf source tree × ((r : Refusal) → ¬ Breaks source tree r) × (model ≡ parts_in source tree)

-- the grammar refuses the tokens of the bytes at this byte, for this reason
abbrev pub IsOutside : List ℕ → ℕ → SyntaxKind → Type 0
IsOutside source at kind = (ts : List Token) × (tokens_of source ≡ Ok ts) × grammar.AnswersTokens (length source) (classes source ts) (Err (Fault at kind))

-- the bytes are of the grammar, and of the rows of the table that hold of their tree the first is at this byte, with this name
abbrev pub BreaksRule : List ℕ → ℕ → List ℕ → Type 0
BreaksRule source at name = (tree : Text) × IsTreeOf source tree × ((kind : ModelKind) × IsFirstRefusal (Breaks source tree) (Some (record { at = at; kind = kind })) × (name ≡ kind_text source tree kind))

-- the bytes are refused at this byte, for the reason of this name: by their tokens, by the grammar, or by a rule
abbrev pub IsFaulty : List ℕ → ℕ → List ℕ → Type 0
IsFaulty source at name =
    ((tokens_of source ≡ Err at) × (name ≡ codes "NotAscii"))
    ⊎ (((kind : SyntaxKind) × IsOutside source at kind × (name ≡ grammar_name kind)) ⊎ BreaksRule source at name)

-- bytes that mean a model aren't refused
abbrev pub AcceptedIsNotRefused : Type 0
AcceptedIsNotRefused = (source : List ℕ) (model : Parts) (at : ℕ) (name : List ℕ) → Reads source model → ¬ (IsFaulty source at name)

-- bytes mean one model at most
abbrev pub OneModel : Type 0
OneModel = (source : List ℕ) (model other : Parts) → Reads source model → Reads source other → model ≡ other

-- bytes are refused at one byte at most, for one reason
abbrev pub OneRefusal : Type 0
OneRefusal = (source : List ℕ) (at other : ℕ) (name word : List ℕ) → IsFaulty source at name → IsFaulty source other word → (at ≡ other) × (name ≡ word)
