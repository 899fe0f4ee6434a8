-- Nodes of judged branches.
use Rattle.std.specs.Prelude.{ℕ, ◌+◌, ◌*◌, ◌<◌, ◌==◌, ◌&&◌, not, Bool, true, false, List, [], ◌∷◌, ◌++◌, length, position, find, unwrap_or, IfSome, slice_index_or, Option, Some, None, Result, Ok, Err}
use Rattle.std.specs.List.{list_any, list_all, range_with_len}
use Rattle.std.specs.Str.{bytes_eq}
use Rattle.sp_dd.specs.Func.{Shape, Func}
use Rattle.sp_dd.specs.Operations.{part_chosen}
use Rattle.sp_model.specs.declared.parts.Decl.{Decl}
use Rattle.sp_model.specs.Problem.{no_decl}
use Rattle.sp_trees.specs.declared.refusal.ModelKind.TheVariants as kind
use Rattle.sp_trees.specs.declared.refusal.Refusal.{Refusal}
use Rattle.sp_trees.specs.declared.slots.Slots.{Slots}
use Rattle.sp_trees.specs.declared.env.Env.{Env}
use Rattle.sp_trees.specs.declared.judged.Judged.{Judged}
use Rattle.sp_trees.specs.declared.judged.Listed.{Listed}
use Rattle.sp_trees.specs.declared.nodes.Place.{Place}
use Rattle.sp_trees.specs.declared.nodes.Place.TheVariants.{Variable, Sight}
use Rattle.sp_trees.specs.declared.nodes.Branching.{Branching}
use Rattle.sp_trees.specs.Refusals.{lesser, refused_if}
use Rattle.sp_trees.specs.Slots.{none, one, union, has}
use Rattle.sp_trees.specs.Judged.{inside_branches, mentioned_in_branches}

-- ---- what a node branches on
abbrev pub number_of_decl : List Decl → List ℕ → Option ℕ
number_of_decl ds name = position (λ d. bytes_eq d.name name) ds

abbrev pub place_by : Option ℕ → Option ℕ → Option Place
place_by (Some i) s = Some (Variable i)
place_by None (Some j) = Some (Sight j)
place_by None None = None

-- what a word names
abbrev pub place_of : Env → List ℕ → Option Place
place_of env name = place_by (number_of_decl env.variables name) (number_of_decl env.sights name)

-- there is such a variable
abbrev pub IsPlace : Env → Place → Type 0
IsPlace env (Variable i) = i < length env.variables
IsPlace env (Sight j) = j < length env.sights

-- the names of a variable's values
abbrev pub values_of : Env → Place → List (List ℕ)
values_of env (Variable i) = (slice_index_or env.variables i no_decl).values
values_of env (Sight j) = (slice_index_or env.sights j no_decl).values

-- the slot of a variable, unprimed or primed, or of an observation variable
abbrev pub slot_of : Env → Bool → Place → ℕ
slot_of env false (Variable i) = 2 * i
slot_of env true (Variable i) = 2 * i + 1
slot_of env is_primed (Sight j) = 2 * length env.variables + j

-- an unprimed observation variable may be mentioned nowhere
abbrev pub is_sayable : Bool → Place → Bool
is_sayable is_primed (Variable i) = true
is_sayable is_primed (Sight j) = is_primed

abbrev pub branching_on : Env → Bool → Place → ℕ → ℕ → Branching
branching_on env is_primed p left at = record {
  left = left;
  at = at;
  slot = slot_of env is_primed p;
  is_sayable = is_sayable is_primed p;
  count = length (values_of env p);
}

-- ---- what refuses a node
abbrev pub is_value : ℕ → Option ℕ → Bool
is_value number None = false
is_value number (Some v) = v == number

-- a branch lists that value
abbrev pub lists : List Listed → ℕ → Bool
lists ls v = list_any (λ l. is_value v l.value) ls

-- what refuses a branch's word: it is no value of the variable, or it was listed before
abbrev pub value_row_by : (ℕ → Bool) → ℕ → Option ℕ → Option Refusal
value_row_by is_listed at None = Some (record { at = at; kind = kind.UnknownName })
value_row_by is_listed at (Some v) = refused_if (is_listed v) at kind.RepeatedName

-- what refuses a branch's word, where those branches stand before it
abbrev pub value_row : List Listed → Listed → Option Refusal
value_row before l = value_row_by (lists before) l.at l.value

-- the first refusal of a branch's word, or one from before
unfoldable pub value_rows : List Listed → List Listed → Option Refusal → Option Refusal
value_rows before [] first = first
value_rows before (l ∷ ls) first = value_rows (before ++ l ∷ []) ls (lesser first (value_row before l))

-- each value is listed
abbrev pub lists_all : ℕ → List Listed → Bool
lists_all count ls = list_all (lists ls) (range_with_len 0 count)

-- the first refusal of a node or inside it
abbrev pub node_rows : Slots → Branching → List Listed → Option Refusal
node_rows allowed n ls =
    lesser (refused_if (not (n.is_sayable && has allowed n.slot)) n.at kind.BadScope)
    (lesser (refused_if (not (lists_all n.count ls)) n.left kind.MissingValue) (lesser (value_rows [] ls None) (inside_branches ls)))

-- a value's number is below 64
abbrev pub IsSmallValue : Listed → Type 0
IsSmallValue l = IfSome l.value (λ v. v < 64)

abbrev pub with_value : Slots → Option ℕ → Slots
with_value set None = set
with_value set (Some v) = union set (one v)

-- ---- the function of a node
-- the first branch that lists a value
abbrev pub branch_at : List Listed → ℕ → Option Listed
branch_at ls v = find (λ l. is_value v l.value) ls

abbrev pub part_by : ℕ → Option Listed → Result Func Refusal
part_by left None = Err (record { at = left; kind = kind.MissingValue })
part_by left (Some l) = l.judged.outcome

-- the function of a value
abbrev pub part : ℕ → List Listed → ℕ → Result Func Refusal
part left ls v = part_by left (branch_at ls v)

abbrev pub then_part : (List Func → Result (List Func) Refusal) → List Func → Result Func Refusal → Result (List Func) Refusal
then_part more fs (Err r) = Err r
then_part more fs (Ok f) = more (fs ++ f ∷ [])

-- the functions of values in order, behind some
unfoldable pub parts_from : ℕ → List Listed → List Func → List ℕ → Result (List Func) Refusal
parts_from left ls fs [] = Ok fs
parts_from left ls fs (v ∷ vs) = then_part (λ gs. parts_from left ls gs vs) fs (part left ls v)

abbrev pub chosen_by : Shape → ℕ → Result (List Func) Refusal → Result Func Refusal
chosen_by s slot (Ok fs) = Ok (part_chosen s slot fs)
chosen_by s slot (Err r) = Err r

-- the choice between the functions of the values
abbrev pub choice_between : Shape → Branching → List Listed → Result Func Refusal
choice_between s n ls = chosen_by s n.slot (parts_from n.left ls [] (range_with_len 0 n.count))

abbrev pub node_by : Shape → Branching → List Listed → Option Refusal → Result Func Refusal
node_by s n ls (Some r) = Err r
node_by s n ls None = choice_between s n ls

-- a node of a known variable
abbrev pub known_node : Shape → Slots → Branching → List Listed → Judged
known_node s allowed n ls = record { mentions = mentioned_in_branches (one n.slot) ls; outcome = node_by s n ls (node_rows allowed n ls) }

abbrev pub unknown_name : ℕ → Refusal
unknown_name at = record { at = at; kind = kind.UnknownName }

-- a node of an unknown variable
abbrev pub unknown_node : ℕ → List Listed → Judged
unknown_node at ls = record { mentions = mentioned_in_branches none ls; outcome = Err (unwrap_or (lesser (Some (unknown_name at)) (inside_branches ls)) (unknown_name at)) }
