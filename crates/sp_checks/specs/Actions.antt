-- Actions.
use Rattle.std.specs.Prelude.{ℕ, ◌<◌, ◌==◌, not, is_some, Bool, true, false, List, [], ◌∷◌, ◌++◌, length, map, replicate, slice_index_or, slice_set, Option, Some, None, Result, Ok, Err, if◌then◌else◌}
use Rattle.std.specs.List.{list_any, range_with_len}
use Rattle.std.specs.Str.{bytes_eq}
use Rattle.sp_dd.specs.Func.{Shape, Func}
use Rattle.sp_lex.specs.declared.lexeme.Span.{Span}
use Rattle.sp_syntax.specs.declared.text.Tree.{Tree}
use Rattle.sp_syntax.specs.declared.text.Observed.{Observed}
use Rattle.sp_syntax.specs.declared.text.Item.{Item}
use Rattle.sp_syntax.specs.declared.text.Item.TheVariants as item_of
use Rattle.sp_names.specs.Names.{with_name}
use Rattle.sp_rows.specs.declared.tables.Table.TheVariants as table
use Rattle.sp_rows.specs.Tables.{identity}
use Rattle.sp_trees.specs.declared.refusal.Refusal.{Refusal}
use Rattle.sp_trees.specs.declared.refusal.ModelKind.TheVariants as kind
use Rattle.sp_trees.specs.declared.env.Env.{Env}
use Rattle.sp_trees.specs.declared.nodes.Place.{Place}
use Rattle.sp_trees.specs.declared.nodes.Place.TheVariants.{Variable, Sight}
use Rattle.sp_trees.specs.Refusals.{refused_if}
use Rattle.sp_trees.specs.Words.{text}
use Rattle.sp_trees.specs.Nodes.{place_of}
use Rattle.sp_declarations.specs.Steps.{◌>>=◌, unless_refused, in_turn}
use Rattle.sp_declarations.specs.Declarations.{refusal_at}
use Rattle.sp_checks.specs.declared.roles.Role.TheVariants as role
use Rattle.sp_checks.specs.declared.state.Draft.{Draft}
use Rattle.sp_checks.specs.declared.state.State.{State}
use Rattle.sp_checks.specs.declared.items.Listed.{Listed}
use Rattle.sp_checks.specs.Accepted.{accepted, table_of}

-- ---- items
-- the action lists that variable
abbrev pub is_listed : Listed → Place → Bool
is_listed l (Variable i) = is_some (slice_index_or l.moves i None)
is_listed l (Sight j) = is_some (slice_index_or l.sights j None)

-- there is a table for it
abbrev pub IsInRange : Listed → Place → Type 0
IsInRange l (Variable i) = i < length l.moves
IsInRange l (Sight j) = j < length l.sights

abbrev pub unlisted_by : ℕ → Place → Bool → Result Place Refusal
unlisted_by at p true = Err (record { at = at; kind = kind.RepeatedName })
unlisted_by at p false = Ok p

-- a variable that isn't listed yet
abbrev pub unlisted_place : Listed → ℕ → Place → Result Place Refusal
unlisted_place l at p = unlisted_by at p (is_listed l p)

abbrev pub named_by : Listed → ℕ → Option Place → Result Place Refusal
named_by l at None = Err (record { at = at; kind = kind.UnknownName })
named_by l at (Some p) = unlisted_place l at p

-- what a word names that the action doesn't list yet
unfoldable pub place_of_name : Env → List ℕ → Listed → Span → Result Place Refusal
place_of_name env source l word = named_by l word.start (place_of env (text source word))

abbrev pub variable_at : Env → List ℕ → Listed → Span → Tree → Place → Result Listed Refusal
variable_at env source l word t (Variable i) = table_of env source l.action (table.Move i) t >>= λ f. Ok (record l { moves = slice_set l.moves i (Some f) })
variable_at env source l word t (Sight j) = Err (record { at = word.start; kind = kind.BadScope })

-- an item NAME tree
unfoldable pub variable : Env → List ℕ → Listed → Span → Tree → Result Listed Refusal
variable env source l word t = place_of_name env source l word >>= λ p. variable_at env source l word t p

abbrev pub observed_at : Env → List ℕ → Listed → Observed → Place → Result Listed Refusal
observed_at env source l o (Variable i) = Err (record { at = o.name.start; kind = kind.BadScope })
observed_at env source l o (Sight j) = table_of env source l.action (table.Sight j) o.tree >>= λ f. Ok (record l { sights = slice_set l.sights j (Some f) })

-- a pair NAME tree in the list of observe
unfoldable pub observe_entry : Env → List ℕ → Listed → Observed → Result Listed Refusal
observe_entry env source l o = place_of_name env source l o.name >>= λ p. observed_at env source l o p

abbrev pub observed_in_turn : Env → List ℕ → Listed → List Observed → Result Listed Refusal
observed_in_turn env source l list = in_turn (observe_entry env source) l list

-- the word observe, which wasn't listed before
unfoldable pub begun_observe : Listed → ℕ → Result Listed Refusal
begun_observe l at = unless_refused (refused_if l.has_observe at kind.RepeatedName) >>= λ _. Ok (record l { has_observe = true })

-- the list of observe
unfoldable pub observe : Env → List ℕ → Listed → Span → List Observed → Result Listed Refusal
observe env source l keyword list =
    begun_observe l keyword.start >>= λ m. observed_in_turn env source m list

-- no cost was listed before
abbrev pub checked_cost : Listed → ℕ → Result (Unit {0}) Refusal
checked_cost l at = unless_refused (refused_if (is_some l.cost) at kind.RepeatedName)

-- the cost
unfoldable pub cost : Env → List ℕ → Listed → Span → Tree → Result Listed Refusal
cost env source l keyword t =
    checked_cost l keyword.start >>= λ _. (accepted env source role.Reward t >>= λ a. Ok (record l { cost = Some a.func }))

-- one more item
abbrev pub item : Env → List ℕ → Listed → Item → Result Listed Refusal
item env source l (item_of.Variable name t) = variable env source l name t
item env source l (item_of.Observe keyword list end) = observe env source l keyword list
item env source l (item_of.Cost keyword t) = cost env source l keyword t

abbrev pub nothing_listed : Env → ℕ → Listed
nothing_listed env action = record { action = action; moves = replicate (length env.variables) None; sights = replicate (length env.sights) None; cost = None; has_observe = false }

-- all items of an action
unfoldable pub items : Env → List ℕ → ℕ → List Item → Result Listed Refusal
items env source action list = in_turn (item env source) (nothing_listed env action) list

-- ---- the whole action
-- the table of variable i: that of its item, or the table of a variable that keeps its value
abbrev pub or_identity : Shape → ℕ → Option Func → Func
or_identity s i None = identity s i
or_identity s i (Some f) = f

-- the tables of all variables
abbrev pub moves_of : Shape → List (Option Func) → List Func
moves_of s ts = map (λ i. or_identity s i (slice_index_or ts i None)) (range_with_len 0 (length ts))

-- the tables of the observation variables with one more, where it is listed
abbrev pub sight_step : ℕ → List Func → Option Func → Result (List Func) Refusal
sight_step at fs None = Err (record { at = at; kind = kind.MissingPart })
sight_step at fs (Some f) = Ok (fs ++ f ∷ [])

-- the tables of the observation variables, where all are listed
unfoldable pub sights_of : ℕ → List (Option Func) → Result (List Func) Refusal
sights_of at ts = in_turn (sight_step at) [] ts

-- an action's name that another has, or the name of the 257th
abbrev pub name_refusal_by : Bool → ℕ → ℕ → Option Refusal
name_refusal_by is_new count at = if is_new then refused_if (count == 256) at (kind.TooMany 256) else refusal_at at kind.RepeatedName

abbrev pub checked_name : List ℕ → List (List ℕ) → ℕ → Span → Result (Unit {0}) Refusal
checked_name source names count word = unless_refused (name_refusal_by (not (list_any (bytes_eq (text source word)) names)) count word.start)

-- an action's name and its tables
unfoldable pub draft_of : Env → List ℕ → Span → ℕ → Listed → Result Draft Refusal
draft_of env source word end l = sights_of end l.sights >>= λ sights. Ok (record { name = text source word; cost = l.cost; moves = moves_of env.scope l.moves; sights = sights })

-- an action's items, and its tables
unfoldable pub draft : Env → List ℕ → ℕ → Span → List Item → Span → Result Draft Refusal
draft env source action word list end =
    items env source action list >>= λ l. draft_of env source word end.start l

-- what was read with the section of an action
unfoldable pub action : List ℕ → State → Span → List Item → Span → Result State Refusal
action source s word list end =
    checked_name source s.names (length s.actions) word >>= λ _.
    (draft s.env source (length s.actions) word list end >>= λ d. Ok (record s { names = with_name s.names (text source word); actions = s.actions ++ d ∷ [] }))
