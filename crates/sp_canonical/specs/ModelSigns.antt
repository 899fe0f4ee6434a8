-- The canonical text of a model, sign by sign.
use Rattle.std.specs.Prelude.{ℕ, suc, ◌+◌, ◌-◌, ◌*◌, ◌/◌, ◌%◌, nat_lt, nat_eq, pos, Bool, true, cond, List, [], ◌∷◌, ◌++◌, map, length, codes, slice_index_or}
use Rattle.sp_spelled.specs.Signs.{word, primed, Gap, tight, space, line, Spelled}
use Rattle.sp_spelled.specs.Shapes.{sign, spaced_word, last_word, leaf, group, primed_group, sum_group, product_group, declaration_signs}
use Rattle.sp_spelled.specs.Words.{dd_name}
use Rattle.sp_show.specs.Decimals.{decimal_of}
use Rattle.sp_dd.specs.declared.part.Part.{Part}
use Rattle.sp_dd.specs.declared.part.Part.TheVariants.{Leaf, At}
use Rattle.sp_dd.specs.Func.{Func}
use Rattle.sp_dd.specs.NodeLists.{Node}
use Rattle.sp_dd.specs.Diagrams.{node_list, root_part}
use Rattle.sp_model.specs.declared.parts.Decl.{Decl}
use Rattle.sp_model.specs.declared.parts.Factor.{Factor}
use Rattle.sp_model.specs.declared.parts.ActionPart.{ActionPart}
use Rattle.sp_model.specs.declared.parts.Parts.{Parts}
use Rattle.sp_model.specs.Problem.{no_decl, shape_of}
use Rattle.sp_canonical.specs.Tables.{NamedTable, named_tables, moving_tables, negative, free_variables}

-- a space between parts, and nothing behind the last
abbrev pub gap_before : {X : Type 0} → List X → Gap
gap_before [] = tight
gap_before (x ∷ xs) = space

-- ---- declarations
abbrev pub declarations_signs : List Decl → List Spelled
declarations_signs [] = []
declarations_signs (d ∷ ds) = declaration_signs d.name d.values (gap_before ds) ++ declarations_signs ds

-- the line of the variables, or of the observation variables
abbrev pub declarations_line : List ℕ → List Decl → List Spelled
declarations_line key ds = group key (declarations_signs ds) line

-- ---- functions
-- the variable of a slot: state variable i has slots 2i, and 2i + 1 for its next value; behind those come the observation variables
abbrev pub slot_decl : Parts → ℕ → Decl
slot_decl p slot =
    cond (nat_lt (slot / 2) (length p.variables)) (slice_index_or p.variables (slot / 2) no_decl) (slice_index_or p.sights (slot - 2 * length p.variables) no_decl)

-- the slots of next values and of observation variables are written with a prime
abbrev pub has_prime : Parts → ℕ → Bool
has_prime p slot = cond (nat_lt (slot / 2) (length p.variables)) (nat_eq (slot % 2) 1) true

-- a constant, or the name of the line of a node, whose lines begin with that number
abbrev pub part_signs : ℕ → Gap → Part → List Spelled
part_signs base g (Leaf z) = leaf (decimal_of z) g
part_signs base g (At i) = leaf (dd_name (base + i)) g

-- a branch for each value, in order
abbrev pub branch_signs : List (List ℕ) → List (List Spelled) → List Spelled
branch_signs [] trees = []
branch_signs (x ∷ xs) [] = []
branch_signs (x ∷ xs) (t ∷ trees) = group x t (gap_before trees) ++ branch_signs xs trees

-- a variable's name, with a prime or without one
abbrev pub slot_word : Bool → List ℕ → Spelled
slot_word is_primed name = sign (cond is_primed (primed name) (word name)) space

abbrev pub node_group : Bool → List ℕ → List Spelled → Gap → List Spelled
node_group is_primed name branches g = cond is_primed (primed_group name branches g) (group name branches g)

abbrev pub node_signs : Parts → ℕ → Node → List Spelled
node_signs p base n = node_group (has_prime p n.slot) (slot_decl p n.slot).name (branch_signs (slot_decl p n.slot).values (map (part_signs base tight) n.parts)) space

-- the line of the node at that place of its function
abbrev pub node_line : Parts → ℕ → ℕ → Node → List Spelled
node_line p base at n = spaced_word (codes "dd") ∷ spaced_word (dd_name (base + at)) ∷ (node_signs p base n ++ last_word (codes "enddd") ∷ [])

abbrev pub node_lines : Parts → ℕ → ℕ → List Node → List Spelled
node_lines p base at [] = []
node_lines p base at (n ∷ ns) = node_line p base at n ++ node_lines p base (suc at) ns

-- the lines of a function, the first of which has that number, and the function where it is used
abbrev pub function_lines : Parts → ℕ → Func → List Spelled
function_lines p base f = node_lines p base 0 (node_list f)

abbrev pub function_signs : ℕ → Gap → Func → List Spelled
function_signs base g f = part_signs base g (root_part f)

-- how many lines functions have
abbrev pub line_count : Func → ℕ
line_count f = length (node_list f)

abbrev pub lines_total : List Func → ℕ
lines_total [] = 0
lines_total (f ∷ fs) = line_count f + lines_total fs

-- the lines of functions, numbered on from the first number
abbrev pub functions_lines : Parts → ℕ → List Func → List Spelled
functions_lines p base [] = []
functions_lines p base (f ∷ fs) = function_lines p base f ++ functions_lines p (base + line_count f) fs

-- ---- the initial belief
-- zero for each value of a variable
abbrev pub zero_node : Gap → Decl → List Spelled
zero_node g d = group d.name (branch_signs d.values (map (λ x. leaf (decimal_of (pos 0)) tight) d.values)) g

abbrev pub zeros_signs : Parts → List ℕ → List Spelled
zeros_signs p [] = []
zeros_signs p (i ∷ own) = zero_node (gap_before own) (slice_index_or p.variables i no_decl) ++ zeros_signs p own

-- a factor's function, and a zero node for each own variable on which it doesn't depend
abbrev pub summed_signs : Parts → ℕ → Gap → Func → List ℕ → List Spelled
summed_signs p base g f [] = function_signs base g f
summed_signs p base g f (i ∷ free) = sum_group (function_signs base space f ++ zeros_signs p (i ∷ free)) g

abbrev pub factors_signs : Parts → ℕ → List Factor → List Spelled
factors_signs p base [] = []
factors_signs p base (f ∷ fs) = summed_signs p base (gap_before fs) f.func (free_variables f) ++ factors_signs p (base + line_count f.func) fs

abbrev pub factor_tables : List Factor → List Func
factor_tables fs = map (λ f. f.func) fs

abbrev pub init_signs : Parts → List Factor → List Spelled
init_signs p fs = functions_lines p 0 (factor_tables fs) ++ (spaced_word (codes "init") ∷ product_group (factors_signs p 0 fs) line)

-- ---- actions
abbrev pub tables_of : List NamedTable → List Func
tables_of ts = map (λ t. t.table) ts

-- the number of the line behind those of tables
abbrev pub line_behind : ℕ → List NamedTable → ℕ
line_behind base ts = base + lines_total (tables_of ts)

-- the line of a function under its variable's name
abbrev pub named_line : ℕ → List ℕ → Func → List Spelled
named_line base name f = spaced_word name ∷ function_signs base line f

-- a line for each table, whose lines are numbered on from the first number
abbrev pub named_lines : ℕ → List NamedTable → List Spelled
named_lines base [] = []
named_lines base (t ∷ ts) = named_line base t.name t.table ++ named_lines (base + line_count t.table) ts

abbrev pub heading_signs : List ℕ → List Spelled
heading_signs name = spaced_word (codes "action") ∷ last_word name ∷ []

abbrev pub observed_signs : ℕ → List NamedTable → List Spelled
observed_signs base seen = last_word (codes "observe") ∷ (named_lines base seen ++ last_word (codes "endobserve") ∷ [])

abbrev pub cost_signs : ℕ → Func → List Spelled
cost_signs base cost = spaced_word (codes "cost") ∷ (function_signs base line cost ++ last_word (codes "endaction") ∷ [])

-- the lines from an action's name on, whose functions have lines from that number on
abbrev pub block_signs : List ℕ → ℕ → List NamedTable → List NamedTable → Func → List Spelled
block_signs name base moving seen cost =
    heading_signs name ++ (named_lines base moving ++ (observed_signs (line_behind base moving) seen ++ cost_signs (line_behind (line_behind base moving) seen) cost))

-- the lines of tables, and of the action that names them
abbrev pub tables_signs : Parts → List ℕ → ℕ → List NamedTable → List NamedTable → Func → List Spelled
tables_signs p name base moving seen cost =
    functions_lines p base (tables_of moving) ++ (functions_lines p (line_behind base moving) (tables_of seen)
    ++ (function_lines p (line_behind (line_behind base moving) seen) cost ++ block_signs name base moving seen cost))

-- the tables that an action's lines name: those of the variables that don't keep their value, and those of the observation variables
abbrev pub moving_of : Parts → ActionPart → List NamedTable
moving_of p a = moving_tables (shape_of p) 0 p.variables a.moves

abbrev pub seen_of : Parts → ActionPart → List NamedTable
seen_of p a = named_tables p.sights a.sight

abbrev pub action_signs : Parts → ℕ → ActionPart → List Spelled
action_signs p base a = tables_signs p a.name base (moving_of p a) (seen_of p a) (negative a.reward)

-- the number of the line behind those of an action
abbrev pub next_base : Parts → ℕ → ActionPart → ℕ
next_base p base a = line_behind (line_behind base (moving_of p a)) (seen_of p a) + line_count (negative a.reward)

abbrev pub actions_signs : Parts → ℕ → List ActionPart → List Spelled
actions_signs p base [] = []
actions_signs p base (a ∷ more) = action_signs p base a ++ actions_signs p (next_base p base a) more

-- ---- the model
-- the reward, which is in the costs of the actions
abbrev pub reward_signs : List Spelled
reward_signs = spaced_word (codes "reward") ∷ leaf (decimal_of (pos 0)) line

abbrev pub discount_signs : ℕ → List Spelled
discount_signs discount = spaced_word (codes "discount") ∷ last_word (decimal_of (pos discount)) ∷ []

unfoldable pub model_signs : Parts → List Spelled
model_signs p =
    declarations_line (codes "variables") p.variables ++ (declarations_line (codes "observations") p.sights
    ++ (init_signs p p.init ++ (actions_signs p (lines_total (factor_tables p.init)) p.actions ++ (reward_signs ++ discount_signs p.discount))))
