-- The model that a text tells: each function of it is that of a tree of the text.
use Rattle.std.specs.Prelude.{ℕ, ◌==◌, unsigned_abs, ℤ, Bool, false, List, [], ◌∷◌, ◌++◌, map, length, fold, unwrap_or, Option, Some, None, Result, Ok, Err, if◌then◌else◌}
use Rattle.std.specs.List.{range_with_len}
use Rattle.sp_lex.specs.declared.decimal.NumError.{NumError}
use Rattle.sp_lex.specs.declared.lexeme.Span.{Span}
use Rattle.sp_lex.specs.Decimal.{ticks_of}
use Rattle.sp_syntax.specs.declared.text.Tree.{Tree}
use Rattle.sp_syntax.specs.declared.text.Observed.{Observed}
use Rattle.sp_syntax.specs.declared.text.Item.{Item}
use Rattle.sp_syntax.specs.declared.text.Item.TheVariants as item_of
use Rattle.sp_syntax.specs.declared.text.Section.{Section}
use Rattle.sp_syntax.specs.declared.text.Section.TheVariants as section_of
use Rattle.sp_syntax.specs.declared.text.Text.{Text}
use Rattle.sp_dd.specs.Func.{Func}
use Rattle.sp_model.specs.declared.parts.Factor.{Factor}
use Rattle.sp_model.specs.declared.parts.ActionPart.{ActionPart}
use Rattle.sp_model.specs.declared.parts.Parts.{Parts}
use Rattle.sp_rows.specs.Tables.{less}
use Rattle.sp_trees.specs.declared.env.Env.{Env}
use Rattle.sp_trees.specs.declared.nodes.Place.{Place}
use Rattle.sp_trees.specs.declared.nodes.Place.TheVariants.{Variable, Sight}
use Rattle.sp_trees.specs.Words.{text}
use Rattle.sp_trees.specs.Nodes.{place_of}
use Rattle.sp_trees.specs.Good.{shape_for}
use Rattle.sp_trees.specs.Told.{func_of, mentions_of}
use Rattle.sp_declarations.specs.Told.{decl_in}
use Rattle.sp_checks.specs.Actions.{or_identity}
use Rattle.sp_checks.specs.Finish.{or_zero}
use Rattle.sp_checks.specs.Initial.{factor_trees, own_of}

-- ---- the names of a text
-- the variables and observation variables
abbrev pub env_of : List ℕ → Text → Env
env_of source t =
    let vs = map (decl_in source) t.variables.declarations in
    let os = map (decl_in source) t.observations.declarations in
    record { scope = shape_for vs os; variables = vs; sights = os; dds = [] }

-- with the dd of one more section
abbrev pub env_with : List ℕ → Env → Section → Env
env_with source env (section_of.Dd keyword name t end) = record env { dds = env.dds ++ (text source name, record { mentions = mentions_of env source t; func = func_of env source t }) ∷ [] }
env_with source env _ = env

-- with the dds of some sections
abbrev pub env_after : List ℕ → Env → List Section → Env
env_after source env before = fold (env_with source) env before

-- ---- what parts give
abbrev pub or_else : {X : Type 0} → Option X → Option X → Option X
or_else None o = o
or_else (Some x) o = Some x

-- what the first part gives that gives something
abbrev pub first_of : {X Y : Type 0} → (X → Option Y) → List X → Option Y
first_of give [] = None
first_of give (x ∷ xs) = or_else (give x) (first_of give xs)

-- the same for sections, each with the dds before it
abbrev pub first_from : {Y : Type 0} → List ℕ → (Env → Section → Option Y) → Env → List Section → Option Y
first_from source give env [] = None
first_from source give env (x ∷ xs) = or_else (give env x) (first_from source give (env_with source env x) xs)

-- what all sections give, each with the dds before it
abbrev pub all_from : {Y : Type 0} → List ℕ → (Env → Section → List Y) → Env → List Section → List Y
all_from source give env [] = []
all_from source give env (x ∷ xs) = give env x ++ all_from source give (env_with source env x) xs

-- ---- an action
abbrev pub is_variable : ℕ → Option Place → Bool
is_variable i (Some (Variable k)) = k == i
is_variable i _ = false

abbrev pub is_sight : ℕ → Option Place → Bool
is_sight j (Some (Sight k)) = k == j
is_sight j _ = false

-- the function of the table of variable i, from the item that lists it
abbrev pub move_in : List ℕ → Env → ℕ → Item → Option Func
move_in source env i (item_of.Variable name t) = if is_variable i (place_of env (text source name)) then Some (func_of env source t) else None
move_in source env i _ = None

abbrev pub pair_in : List ℕ → Env → ℕ → Observed → Option Func
pair_in source env j o = if is_sight j (place_of env (text source o.name)) then Some (func_of env source o.tree) else None

-- the function of the table of observation variable j, from the pair of observe that lists it
abbrev pub sight_in : List ℕ → Env → ℕ → Item → Option Func
sight_in source env j (item_of.Observe keyword list end) = first_of (pair_in source env j) list
sight_in source env j _ = None

-- the function of the cost
abbrev pub cost_in : List ℕ → Env → Item → Option Func
cost_in source env (item_of.Cost keyword t) = Some (func_of env source t)
cost_in source env _ = None

-- the table of variable i: that of its item, or the one by which it keeps its value
abbrev pub move_of : List ℕ → Env → List Item → ℕ → Func
move_of source env items i = or_identity env.scope i (first_of (move_in source env i) items)

abbrev pub sight_of : List ℕ → Env → List Item → ℕ → Func
sight_of source env items j = or_zero env.scope (first_of (sight_in source env j) items)

-- the cost is taken from the reward; both are zero where they are missing
abbrev pub action_part : List ℕ → Func → Env → Span → List Item → ActionPart
action_part source reward env name items = record {
  name = text source name;
  reward = less reward (or_zero env.scope (first_of (cost_in source env) items));
  moves = map (move_of source env items) (range_with_len 0 (length env.variables));
  sight = map (sight_of source env items) (range_with_len 0 (length env.sights));
}

-- ---- sections
abbrev pub reward_in : List ℕ → Env → Section → Option Func
reward_in source env (section_of.Reward keyword t) = Some (func_of env source t)
reward_in source env _ = None

abbrev pub factor_of : List ℕ → Env → Tree → Factor
factor_of source env t = record { func = func_of env source t; own = own_of env.scope.variables (mentions_of env source t) }

abbrev pub init_in : List ℕ → Env → Section → Option (List Factor)
init_in source env (section_of.Init keyword t) = Some (map (factor_of source env) (factor_trees t))
init_in source env _ = None

abbrev pub ticks_in : Result ℤ NumError → Option ℕ
ticks_in (Ok v) = Some (unsigned_abs v)
ticks_in (Err e) = None

abbrev pub discount_in : List ℕ → Env → Section → Option ℕ
discount_in source env (section_of.Discount keyword word) = ticks_in (ticks_of (text source word))
discount_in source env _ = None

abbrev pub action_in : List ℕ → Func → Env → Section → List ActionPart
action_in source reward env (section_of.Action keyword name items end) = action_part source reward env name items ∷ []
action_in source reward env _ = []

-- the reward of all actions
abbrev pub common_reward : List ℕ → Env → List Section → Func
common_reward source env sections = or_zero env.scope (first_from source (reward_in source) env sections)

abbrev pub actions_in : List ℕ → Env → List Section → List ActionPart
actions_in source env sections = all_from source (action_in source (common_reward source env sections)) env sections

-- the parts of the model of a text
unfoldable pub parts_in : List ℕ → Text → Parts
parts_in source t =
    let env = env_of source t in
    record {
      variables = env.variables;
      sights = env.sights;
      scope = env.scope;
      discount = unwrap_or (first_from source (discount_in source) env t.sections) 0;
      init = unwrap_or (first_from source (init_in source) env t.sections) [];
      actions = actions_in source env t.sections;
    }
