-- The value of a tree at a point, told straight from the text, without functions of slots.
use Rattle.std.specs.Prelude.{◌≡◌, ℕ, ◌+ℤ◌, ◌*ℤ◌, ℤ, pos, Bool, true, false, List, map, fold, find, slice_index, option_map, Option, Some, None, Result, Ok, Err, IfOk, if◌then◌else◌}
use Rattle.sp_lex.specs.declared.lexeme.Span.{Span}
use Rattle.sp_lex.specs.declared.decimal.NumError.{NumError}
use Rattle.sp_lex.specs.Decimal.{ticks_of}
use Rattle.sp_syntax.specs.declared.text.Tree.{Tree}
use Rattle.sp_syntax.specs.declared.text.Tree.TheOpen.{Tree-F, Branch-F}
use Rattle.sp_syntax.specs.declared.text.Tree.TheFolds.{fold-Tree, fold-Branch}
use Rattle.sp_syntax.specs.declared.text.Branch.{Branch}
use Rattle.sp_dd.specs.Floors.{ticks, floor_div}
use Rattle.sp_dd.specs.Func.{value_of, IsPointOf}
use Rattle.sp_trees.specs.declared.slots.Slots.{Slots}
use Rattle.sp_trees.specs.declared.env.Env.{Env}
use Rattle.sp_trees.specs.declared.nodes.Place.{Place}
use Rattle.sp_trees.specs.Words.{text, name_span, number_of}
use Rattle.sp_trees.specs.Dds.{dd_of_name}
use Rattle.sp_trees.specs.Conditions.{one, is_whole}
use Rattle.sp_trees.specs.Nodes.{is_value, place_of, values_of, slot_of}
use Rattle.sp_trees.specs.Judge.{judgement}
use Rattle.sp_trees.specs.Good.{IsEnv}

-- a value at each point, or none
abbrev pub Value : Type 0
Value = List ℕ → Option ℤ

-- a branch: the word of its value, and the value of its tree
pub record Valued : Type 0 where
  pub word : Span
  pub value : Value

-- a number has its ticks everywhere
abbrev pub ticks_value : Result ℤ NumError → Option ℤ
ticks_value (Ok v) = Some v
ticks_value (Err e) = None

-- a reference has the value of its dd
abbrev pub dd_value : Env → List ℕ → Value
dd_value env name x = option_map (λ dd. value_of dd.func x) (dd_of_name name env.dds)

abbrev pub value_in : List ℕ → Option Valued → Option ℤ
value_in x None = None
value_in x (Some b) = b.value x

-- the value of the branch whose word is that number among the names
abbrev pub branch_value : List ℕ → List (List ℕ) → ℕ → List Valued → Value
branch_value source names number bs x = value_in x (find (λ b. is_value number (number_of names (text source b.word))) bs)

abbrev pub node_by : Env → List ℕ → Bool → List Valued → Option Place → Value
node_by env source is_primed bs None x = None
node_by env source is_primed bs (Some p) x = branch_value source (values_of env p) (slice_index x (slot_of env is_primed p)) bs x

-- a node has the value of the branch of its variable's value
abbrev pub node_value : Env → List ℕ → Bool → Span → List Valued → Value
node_value env source is_primed word bs = node_by env source is_primed bs (place_of env (text source (name_span is_primed word)))

abbrev pub sum_of : Option ℤ → Option ℤ → Option ℤ
sum_of (Some a) (Some b) = Some (a +ℤ b)
sum_of (Some a) None = None
sum_of None b = None

-- a product in ticks, where it is a whole number of ticks
abbrev pub product_of : Option ℤ → Option ℤ → Option ℤ
product_of (Some a) (Some b) = if is_whole (a *ℤ b) then Some (floor_div (a *ℤ b) ticks) else None
product_of (Some a) None = None
product_of None b = None

-- 0, and then each tree's value added
abbrev pub sum_value : List Value → Value
sum_value ts x = fold sum_of (Some (pos 0)) (map (λ t. t x) ts)

-- one, and then multiplied with each tree's value
abbrev pub product_value : List Value → Value
product_value ts x = fold product_of (Some one) (map (λ t. t x) ts)

abbrev pub tree_step : Env → List ℕ → Tree-F Value Valued → Value
tree_step env source (Tree-F.Number left word right) x = ticks_value (ticks_of (text source word))
tree_step env source (Tree-F.Reference left word right) x = dd_value env (text source word) x
tree_step env source (Tree-F.Node left word bs right) x = node_value env source false word bs x
tree_step env source (Tree-F.PrimedNode left word bs right) x = node_value env source true word bs x
tree_step env source (Tree-F.Sum left plus ts right) x = sum_value ts x
tree_step env source (Tree-F.Product left star ts right) x = product_value ts x

abbrev pub branch_step : Branch-F Value Valued → Valued
branch_step b = record { word = b.value; value = b.tree }

-- the value of a tree at a point, where it has one
abbrev pub tree_value : Env → List ℕ → Tree → Value
tree_value env source = fold-Tree Value Valued (tree_step env source) branch_step

abbrev pub branch_valued : Env → List ℕ → Branch → Valued
branch_valued env source = fold-Branch Value Valued (tree_step env source) branch_step

-- the function of a tree that isn't refused has, at each point, the value of the tree there
abbrev pub ValuesAreTheTrees : Type 0
ValuesAreTheTrees = (env : Env) (source : List ℕ) (allowed : Slots) (tree : Tree) → IsEnv env
    → IfOk (judgement env source allowed tree).outcome (λ f. (x : List ℕ) → IsPointOf f x → tree_value env source tree x ≡ Some (value_of f x))
