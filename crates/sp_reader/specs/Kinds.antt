-- The names of refusals, as they are told.
use Rattle.std.specs.Prelude.{ℕ, List, [], ◌∷◌, ◌++◌, map, codes, slice_index_or}
use Rattle.std.specs.Fmt.{decimal}
use Rattle.sp_lex.specs.declared.lexeme.Span.{Span}
use Rattle.sp_syntax.specs.declared.error.SyntaxKind.{SyntaxKind}
use Rattle.sp_syntax.specs.declared.error.SyntaxKind.TheVariants.{Unsupported, TooDeep, Unclosed, Unexpected}
use Rattle.sp_syntax.specs.declared.text.Declaration.{Declaration}
use Rattle.sp_syntax.specs.declared.text.Section.{Section}
use Rattle.sp_syntax.specs.declared.text.Section.TheVariants.{Init, Dd, Action, Reward, Discount, Horizon, Tolerance}
use Rattle.sp_syntax.specs.declared.text.Text.{Text}
use Rattle.sp_trees.specs.declared.refusal.ModelKind.{ModelKind}
use Rattle.sp_trees.specs.declared.refusal.ModelKind.TheVariants as model
use Rattle.sp_trees.specs.Words.{text}
use Rattle.sp_show.specs.Decimals.{decimal_of}

-- a fault of the grammar
abbrev pub grammar_name : SyntaxKind → List ℕ
grammar_name Unsupported = codes "Unsupported"
grammar_name TooDeep = codes "TooDeep"
grammar_name Unclosed = codes "Unclosed"
grammar_name Unexpected = codes "Unexpected"

-- a refusal, without what it tells
abbrev pub plain_name : ModelKind → List ℕ
plain_name model.UnknownName = codes "UnknownName"
plain_name model.RepeatedName = codes "RepeatedName"
plain_name model.MissingValue = codes "MissingValue"
plain_name model.MissingPart = codes "MissingPart"
plain_name model.BadScope = codes "BadScope"
plain_name model.BadNumber = codes "BadNumber"
plain_name model.TooFine = codes "TooFine"
plain_name model.TooLarge = codes "TooLarge"
plain_name model.BadProbability = codes "BadProbability"
plain_name (model.RowSum action variable row sum) = codes "RowSum"
plain_name (model.InitSum sum) = codes "InitSum"
plain_name model.DiscountRange = codes "DiscountRange"
plain_name model.RewardRange = codes "RewardRange"
plain_name (model.TooMany limit) = codes "TooMany"

-- ---- names that a refusal tells
-- no bytes
abbrev pub no_span : Span
no_span = record { start = 0; end = 0 }

-- the names of the actions, in order
abbrev pub action_names : List Section → List Span
action_names [] = []
action_names (Action keyword name items end ∷ sections) = name ∷ action_names sections
action_names (Init keyword tree ∷ sections) = action_names sections
action_names (Dd keyword name tree end ∷ sections) = action_names sections
action_names (Reward keyword tree ∷ sections) = action_names sections
action_names (Discount keyword word ∷ sections) = action_names sections
action_names (Horizon keyword word ∷ sections) = action_names sections
action_names (Tolerance keyword word ∷ sections) = action_names sections

-- the names of the variables, in order
abbrev pub variable_names : List Declaration → List Span
variable_names declarations = map (λ d. d.name) declarations

-- the name of the action of that number
abbrev pub action_name : List ℕ → Text → ℕ → List ℕ
action_name source tree action = text source (slice_index_or (action_names tree.sections) action no_span)

-- the name of a variable; the observation variables follow the state variables
abbrev pub variable_name : List ℕ → Text → ℕ → List ℕ
variable_name source tree variable = text source (slice_index_or (variable_names (tree.variables.declarations ++ tree.observations.declarations)) variable no_span)

-- a refusal, with what it tells beside its place: a row with its action, its variable, its number and its sum, a sum, or a limit
abbrev pub kind_text : List ℕ → Text → ModelKind → List ℕ
kind_text source tree (model.RowSum action variable row sum) =
    codes "RowSum " ++ (action_name source tree action ++ (codes " " ++ (variable_name source tree variable ++ (codes " row " ++ (decimal row ++ (codes " sum " ++ decimal_of sum))))))
kind_text source tree (model.InitSum sum) = codes "InitSum sum " ++ decimal_of sum
kind_text source tree (model.TooMany limit) = codes "TooMany " ++ decimal limit
kind_text source tree model.UnknownName = plain_name model.UnknownName
kind_text source tree model.RepeatedName = plain_name model.RepeatedName
kind_text source tree model.MissingValue = plain_name model.MissingValue
kind_text source tree model.MissingPart = plain_name model.MissingPart
kind_text source tree model.BadScope = plain_name model.BadScope
kind_text source tree model.BadNumber = plain_name model.BadNumber
kind_text source tree model.TooFine = plain_name model.TooFine
kind_text source tree model.TooLarge = plain_name model.TooLarge
kind_text source tree model.BadProbability = plain_name model.BadProbability
kind_text source tree model.DiscountRange = plain_name model.DiscountRange
kind_text source tree model.RewardRange = plain_name model.RewardRange
