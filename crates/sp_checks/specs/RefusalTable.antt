-- The table of refusals of model texts, in the order of the table in docs/MODEL_FILE.md: for each row, at which bytes of a text it holds.
-- `Breaks`, at the end, is the table. A row of a tree holds of a tree that stands in the text, or inside one that does.
use Rattle.std.specs.Prelude.{◌≡◌, ◌≢◌, ℕ, ◌*◌, ◌<◌, ◌≤◌, ◌&&◌, ◌⊎◌, ℤ, pos, neg_ℤ, ◌≤ℤ◌, true, false, List, [], ◌∷◌, ◌++◌, map, length, Option, Some, None, Ok, Err}
use Rattle.sp_lex.specs.declared.lexeme.Span.{Span}
use Rattle.sp_lex.specs.declared.decimal.NumError.{NumError}
use Rattle.sp_lex.specs.declared.decimal.NumError.TheVariants as fault
use Rattle.sp_lex.specs.Decimal.{ticks_of}
use Rattle.sp_syntax.specs.declared.text.Tree.{Tree}
use Rattle.sp_syntax.specs.declared.text.Branch.{Branch}
use Rattle.sp_syntax.specs.declared.text.Declaration.{Declaration}
use Rattle.sp_syntax.specs.declared.text.Item.{Item}
use Rattle.sp_syntax.specs.declared.text.Text.{Text}
use Rattle.sp_dd.specs.Floors.{ticks}
use Rattle.sp_dd.specs.Func.{Shape, Func}
use Rattle.sp_model.specs.declared.parts.ActionPart.{ActionPart}
use Rattle.sp_model.specs.Kept.{most_reward}
use Rattle.sp_rows.specs.declared.tables.Table.{Table}
use Rattle.sp_rows.specs.Tables.{bad_row, bad_sum}
use Rattle.sp_trees.specs.declared.refusal.ModelKind.{ModelKind}
use Rattle.sp_trees.specs.declared.refusal.ModelKind.TheVariants as kind
use Rattle.sp_trees.specs.declared.refusal.Refusal.{Refusal}
use Rattle.sp_trees.specs.declared.env.Env.{Env}
use Rattle.sp_trees.specs.declared.env.Dd.{Dd}
use Rattle.sp_trees.specs.declared.nodes.Place.{Place}
use Rattle.sp_trees.specs.declared.nodes.Place.TheVariants.{Variable, Sight}
use Rattle.sp_trees.specs.declared.lists.Op.{Op}
use Rattle.sp_trees.specs.Slots.{has, is_among}
use Rattle.sp_trees.specs.Words.{text, name_span, number_of}
use Rattle.sp_trees.specs.Dds.{dd_of_name}
use Rattle.sp_trees.specs.Nodes.{place_of, values_of, slot_of, is_sayable}
use Rattle.sp_trees.specs.Conditions.{HasOutside}
use Rattle.sp_trees.specs.Values.{Value, tree_value}
use Rattle.sp_trees.specs.Told.{func_of, mentions_of}
use Rattle.sp_trees.specs.Rows.{Among, IsPart, IsSubtree, word_of, NamesValue, partial_of, IsFine, IsPartial, IsLarge}
use Rattle.sp_declarations.specs.Rows.{choices}
use Rattle.sp_checks.specs.declared.roles.Role.{Role}
use Rattle.sp_checks.specs.declared.roles.Role.TheVariants as role
use Rattle.sp_checks.specs.Roles.{start_of, allowed_slots}
use Rattle.sp_checks.specs.Accepted.{variable_number}
use Rattle.sp_checks.specs.Initial.{factor_trees, own_of}
use Rattle.sp_checks.specs.Told.{env_of, actions_in}
use Rattle.sp_checks.specs.Standing.{StandsBehind, RepeatedWord, declarations_of, IsInit, IsRewardSection, IsDiscount, IsActionSection, IsActionNamed, IsDdNamed, action_count, env_before, InitOf, DdOf, RewardOf, DiscountOf, ActionOf, IsObserve, IsCost, words_of, observed_words, IsListed, HasPair, CostOf, ObserveOf, NumberOf, ReferenceOf, NodeOf, ListOf, TableStands, TreeStands, TreeOf}

-- ==== UnknownName: a variable, value, observation variable or dd is used that isn't declared before: the word
-- what a node's word names
abbrev pub place_in : Env → List ℕ → {u : Tree} → NodeOf u → Option Place
place_in env source n = place_of env (text source (name_span n.is_primed n.word))

-- the dd of a reference, the variable of a node, or the value of a branch
abbrev pub HasUnknownWord : Env → List ℕ → Tree → ℕ → Type 0
HasUnknownWord env source u at =
    ((d : ReferenceOf u) × (dd_of_name (text source d.word) env.dds ≡ None) × (at ≡ d.word.start))
    ⊎ (((n : NodeOf u) × (place_in env source n ≡ None) × (at ≡ n.word.start))
    ⊎ ((n : NodeOf u) × (p : Place) × (place_in env source n ≡ Some p)
    × Among (λ b. (number_of (values_of env p) (text source (word_of b)) ≡ None) × (at ≡ (word_of b).start)) n.branches))

-- in a tree, or listed by an action
abbrev pub HasUnknownName : List ℕ → Text → ℕ → Type 0
HasUnknownName source t at =
    ((u : TreeOf source t) × HasUnknownWord u.env source u.tree at)
    ⊎ ((a : ActionOf t) × Among (λ w. (place_of (env_before source t a.before) (text source w) ≡ None) × (at ≡ w.start)) (words_of a.items))

-- ==== RepeatedName: a name is declared twice in its class: the second word
-- of the variables and observation variables, of the actions, or of the dds
abbrev pub HasRepeatedName : List ℕ → Text → ℕ → Type 0
HasRepeatedName source t at =
    RepeatedWord source (map (λ d. d.name) (declarations_of t)) at
    ⊎ (((a : ActionOf t) × Among (IsActionNamed source a.name) a.before × (at ≡ a.name.start))
    ⊎ ((d : DdOf t) × Among (IsDdNamed source d.name) d.before × (at ≡ d.name.start)))

-- ==== RepeatedName: a value is listed twice in a declaration or in a node: the second word
abbrev pub HasRepeatedBranch : Env → List ℕ → Tree → ℕ → Type 0
HasRepeatedBranch env source u at =
    (n : NodeOf u) × (p : Place) × (place_in env source n ≡ Some p)
    × ((before : List Branch) × (b : Branch) × StandsBehind before b n.branches
    × ((v : ℕ) × NamesValue source (values_of env p) v b × Among (NamesValue source (values_of env p) v) before × (at ≡ (word_of b).start)))

abbrev pub HasRepeatedValue : List ℕ → Text → ℕ → Type 0
HasRepeatedValue source t at =
    Among (λ d. RepeatedWord source d.values at) (declarations_of t)
    ⊎ ((u : TreeOf source t) × HasRepeatedBranch u.env source u.tree at)

-- ==== RepeatedName: a variable, an observation variable, cost or observe comes twice in an action: the second word
abbrev pub HasRepeatedItem : List ℕ → Text → ℕ → Type 0
HasRepeatedItem source t at =
    (a : ActionOf t)
    × (RepeatedWord source (words_of a.items) at
    ⊎ (((c : CostOf a.items) × Among IsCost c.before × (at ≡ c.keyword.start))
    ⊎ ((o : ObserveOf a.items) × Among IsObserve o.before × (at ≡ o.keyword.start))))

-- ==== RepeatedName: init, reward or discount comes twice: the second word
abbrev pub HasRepeatedSection : Text → ℕ → Type 0
HasRepeatedSection t at =
    ((s : InitOf t) × Among IsInit s.before × (at ≡ s.keyword.start))
    ⊎ (((s : RewardOf t) × Among IsRewardSection s.before × (at ≡ s.keyword.start))
    ⊎ ((s : DiscountOf t) × Among IsDiscount s.before × (at ≡ s.keyword.start)))

-- ==== MissingValue: a node doesn't list every value of its variable: the node's bracket
abbrev pub LacksBranch : Env → List ℕ → Tree → ℕ → Type 0
LacksBranch env source u at =
    (n : NodeOf u) × (p : Place) × (place_in env source n ≡ Some p)
    × ((v : ℕ) × (v < length (values_of env p)) × (¬ Among (NamesValue source (values_of env p) v) n.branches) × (at ≡ n.left.start))

abbrev pub LacksValue : List ℕ → Text → ℕ → Type 0
LacksValue source t at = (u : TreeOf source t) × LacksBranch u.env source u.tree at

-- ==== MissingPart: an action doesn't list every observation variable in observe: the word endaction
abbrev pub IsUnobserved : Env → List ℕ → List Item → Type 0
IsUnobserved env source items = (j : ℕ) × (j < length env.sights) × (¬ Among (λ w. place_of env (text source w) ≡ Some (Sight j)) (observed_words items))

abbrev pub LacksObservation : List ℕ → Text → ℕ → Type 0
LacksObservation source t at = (a : ActionOf t) × IsUnobserved (env_before source t a.before) source a.items × (at ≡ a.end.start)

-- ==== MissingPart: init, discount or every action is missing: the file's length
abbrev pub LacksSection : List ℕ → Text → ℕ → Type 0
LacksSection source t at =
    ((¬ Among IsInit t.sections) ⊎ ((¬ Among IsDiscount t.sections) ⊎ (¬ Among IsActionSection t.sections))) × (at ≡ length source)

-- ==== BadScope: a variable is mentioned where it may not be, an item of an action names an observation variable, or observe lists a state variable: the word
-- by a node, or by a reference for what its dd mentions
abbrev pub IsOutOfScope : Env → List ℕ → Role → Tree → ℕ → Type 0
IsOutOfScope env source for u at =
    ((n : NodeOf u) × (p : Place) × (place_in env source n ≡ Some p)
    × ((is_sayable n.is_primed p && has (allowed_slots env.scope for) (slot_of env n.is_primed p)) ≡ false) × (at ≡ n.word.start))
    ⊎ ((d : ReferenceOf u) × (dd : Dd) × (dd_of_name (text source d.word) env.dds ≡ Some dd) × (is_among dd.mentions (allowed_slots env.scope for) ≡ false) × (at ≡ d.word.start))

abbrev pub HasBadScope : List ℕ → Text → ℕ → Type 0
HasBadScope source t at =
    ((u : TreeOf source t) × IsOutOfScope u.env source u.for u.tree at)
    ⊎ (((a : ActionOf t) × (name : Span) × (tree : Tree) × IsListed a.items name tree
    × ((j : ℕ) × (place_of (env_before source t a.before) (text source name) ≡ Some (Sight j)) × (at ≡ name.start)))
    ⊎ ((a : ActionOf t) × (name : Span) × (tree : Tree) × HasPair a.items (record { name = name; tree = tree })
    × ((i : ℕ) × (place_of (env_before source t a.before) (text source name) ≡ Some (Variable i)) × (at ≡ name.start))))

-- ==== BadScope: two factors of init share a variable: the later factor
-- the tree mentions the state variable of that number
abbrev pub Mentions : Env → List ℕ → ℕ → Tree → Type 0
Mentions env source i tree = has (mentions_of env source tree) (2 * i) ≡ true

abbrev pub HasSharedVariable : List ℕ → Text → ℕ → Type 0
HasSharedVariable source t at =
    (s : InitOf t) × (before : List Tree) × (f : Tree) × StandsBehind before f (factor_trees s.tree)
    × ((i : ℕ) × (i < (env_before source t s.before).scope.variables) × Mentions (env_before source t s.before) source i f
    × Among (Mentions (env_before source t s.before) source i) before × (at ≡ start_of f))

-- ==== BadScope: a variable is in no factor of init: the word init
abbrev pub HasLostVariable : List ℕ → Text → ℕ → Type 0
HasLostVariable source t at =
    (s : InitOf t) × (i : ℕ) × (i < (env_before source t s.before).scope.variables)
    × (¬ Among (Mentions (env_before source t s.before) source i) (factor_trees s.tree)) × (at ≡ s.keyword.start)

-- ==== BadNumber, TooFine, TooLarge: a word is no decimal, has a place past the ninth that isn't 0, or exceeds 10^9 in magnitude: the word
abbrev pub HasNoDecimal : List ℕ → NumError → Tree → ℕ → Type 0
HasNoDecimal source e u at = (n : NumberOf u) × (ticks_of (text source n.word) ≡ Err e) × (at ≡ n.word.start)

-- a number of a tree, or the word behind discount
abbrev pub HasBadNumber : List ℕ → Text → NumError → ℕ → Type 0
HasBadNumber source t e at =
    ((u : TreeOf source t) × HasNoDecimal source e u.tree at)
    ⊎ ((d : DiscountOf t) × (ticks_of (text source d.word) ≡ Err e) × (at ≡ d.word.start))

-- ==== rows on values: they are looked at only where no other refusal stands inside the tree
-- the partial results of values behind one, from left to right
abbrev pub partial_results_behind : Op → Value → List Value → List Value
partial_results_behind o v [] = []
partial_results_behind o v (w ∷ ws) = partial_of o v w ∷ partial_results_behind o (partial_of o v w) ws

-- of a list of one value there is none
abbrev pub partial_results : Op → List Value → List Value
partial_results o [] = []
partial_results o (v ∷ vs) = partial_results_behind o v vs

abbrev pub AreFine : Shape → List Value → Type 0
AreFine s [] = Unit {0}
AreFine s (v ∷ vs) = IsFine s v × AreFine s vs

-- a partial result of a list of trees, where none before it is refused
pub record PartialResult (env : Env) (source : List ℕ) (o : Op) (trees : List Tree) : Type 0 where
  pub value : Value
  pub before : List Value
  pub stands : StandsBehind before value (partial_results o (map (tree_value env source) trees))
  pub fine : AreFine env.scope before

-- it isn't a whole number of ticks somewhere: the list's bracket
abbrev pub HasUnevenResult : Env → List ℕ → Op → Tree → ℕ → Type 0
HasUnevenResult env source o u at = (l : ListOf o u) × (p : PartialResult env source o l.trees) × IsPartial env.scope p.value × (at ≡ l.left.start)

-- it exceeds 10^9 in magnitude somewhere: the list's bracket
abbrev pub HasLargeResult : Env → List ℕ → Op → Tree → ℕ → Type 0
HasLargeResult env source o u at = (l : ListOf o u) × (p : PartialResult env source o l.trees) × IsLarge env.scope p.value × (at ≡ l.left.start)

-- something is wrong at a tree itself
abbrev pub IsWrongAt : Env → List ℕ → Role → Tree → ℕ → Type 0
IsWrongAt env source for u at =
    HasUnknownWord env source u at
    ⊎ (HasRepeatedBranch env source u at
    ⊎ (LacksBranch env source u at
    ⊎ (IsOutOfScope env source for u at
    ⊎ (((e : NumError) × HasNoDecimal source e u at) ⊎ ((o : Op) × (HasUnevenResult env source o u at ⊎ HasLargeResult env source o u at))))))

-- nothing is wrong inside a tree
abbrev pub IsQuiet : Env → List ℕ → Role → Tree → Type 0
IsQuiet env source for tree = (u : Tree) → IsSubtree u tree → (at : ℕ) → ¬ IsWrongAt env source for u at

abbrev pub HasQuietParts : Env → List ℕ → Role → Tree → Type 0
HasQuietParts env source for tree = (s : Tree) → IsPart s tree → IsQuiet env source for s

-- ==== TooFine: a partial product isn't a whole number of ticks somewhere (a sum of whole numbers always is): the list's bracket
abbrev pub HasUnevenList : List ℕ → Text → ℕ → Type 0
HasUnevenList source t at = (u : TreeOf source t) × HasQuietParts u.env source u.for u.tree × ((o : Op) × HasUnevenResult u.env source o u.tree at)

-- ==== TooLarge: a partial result exceeds 10^9 in magnitude: the list's bracket
abbrev pub HasLargeList : List ℕ → Text → ℕ → Type 0
HasLargeList source t at = (u : TreeOf source t) × HasQuietParts u.env source u.for u.tree × ((o : Op) × HasLargeResult u.env source o u.tree at)

-- ==== BadProbability: a table or a factor of init has a value outside 0 and 1: the tree
abbrev pub IsNoProbability : Func → Type 0
IsNoProbability f = HasOutside (pos 0) (pos ticks) f

abbrev pub HasBadProbability : List ℕ → Text → ℕ → Type 0
HasBadProbability source t at =
    ((env : Env) × (action : ℕ) × (k : Table) × (tree : Tree) × TableStands source t env action k tree
    × (IsQuiet env source (role.Table k) tree × IsNoProbability (func_of env source tree) × (at ≡ start_of tree)))
    ⊎ ((env : Env) × (tree : Tree) × TreeStands source t env role.Init tree
    × (IsQuiet env source role.Init tree × IsNoProbability (func_of env source tree) × (at ≡ start_of tree)))

-- ==== RowSum: a row of a table doesn't sum to one; the first such row: the tree
abbrev pub HasBadRow : List ℕ → Text → ℕ → ℕ → ℕ → ℤ → ℕ → Type 0
HasBadRow source t action variable row sum at =
    (env : Env) × (k : Table) × (tree : Tree) × TableStands source t env action k tree × (variable ≡ variable_number env.scope.variables k)
    × (IsQuiet env source (role.Table k) tree × (¬ IsNoProbability (func_of env source tree))
    × (bad_row (func_of env source tree) k ≡ Some (record { row = row; sum = sum })) × (at ≡ start_of tree))

-- ==== InitSum: a factor doesn't sum to one over its own variables: the factor
abbrev pub HasBadSum : List ℕ → Text → ℤ → ℕ → Type 0
HasBadSum source t sum at =
    (env : Env) × (tree : Tree) × TreeStands source t env role.Init tree
    × (IsQuiet env source role.Init tree × (¬ IsNoProbability (func_of env source tree))
    × (bad_sum (func_of env source tree) (own_of env.scope.variables (mentions_of env source tree)) ≡ Some sum) × (at ≡ start_of tree))

-- ==== DiscountRange: the discount isn't within 0 and 0.999: the word
abbrev pub HasBadDiscount : List ℕ → Text → ℕ → Type 0
HasBadDiscount source t at =
    (d : DiscountOf t) × (v : ℤ) × (ticks_of (text source d.word) ≡ Ok v) × (¬ ((pos 0 ≤ℤ v) × (v ≤ℤ pos 999000000))) × (at ≡ d.word.start)

-- ==== RewardRange: a reward less its cost exceeds 1000000 in magnitude: the file's length
abbrev pub IsTooMuch : ActionPart → Type 0
IsTooMuch a = HasOutside (neg_ℤ (pos most_reward)) (pos most_reward) a.reward

abbrev pub HasBadReward : List ℕ → Text → ℕ → Type 0
HasBadReward source t at = Among IsTooMuch (actions_in source (env_of source t) t.sections) × (at ≡ length source)

-- ==== TooMany: there are more variables, observation variables, states or joint observations than their limit: the bracket of the declaration that exceeds it
-- so many declarations before, or else so many choices of a value for each with this one first
abbrev pub IsPastLimit : ℕ → ℕ → List Declaration → Declaration → ℕ → Type 0
IsPastLimit most points before d limit =
    ((length before ≡ most) × (limit ≡ most))
    ⊎ ((length before ≢ most) × (choices before ≤ points) × (points < choices (before ++ d ∷ [])) × (limit ≡ points))

abbrev pub HasTooMany : ℕ → ℕ → List Declaration → ℕ → ℕ → Type 0
HasTooMany most points ds limit at =
    (before : List Declaration) × (d : Declaration) × StandsBehind before d ds × IsPastLimit most points before d limit × (at ≡ d.left.start)

abbrev pub HasTooManyVariables : Text → ℕ → ℕ → Type 0
HasTooManyVariables t limit at =
    HasTooMany 24 16777216 t.variables.declarations limit at ⊎ HasTooMany 8 4096 t.observations.declarations limit at

-- ==== TooMany: a variable has more than 64 values: the word of the 65th value
abbrev pub HasTooManyValues : Text → ℕ → ℕ → Type 0
HasTooManyValues t limit at =
    Among (λ d. (before : List Span) × (w : Span) × StandsBehind before w d.values × (length before ≡ 64) × (limit ≡ 64) × (at ≡ w.start)) (declarations_of t)

-- ==== TooMany: there are more than 256 actions: the name of the 257th
abbrev pub HasTooManyActions : Text → ℕ → ℕ → Type 0
HasTooManyActions t limit at = (a : ActionOf t) × (action_count a.before ≡ 256) × (limit ≡ 256) × (at ≡ a.name.start)

-- ==== the table
-- a row of this kind holds of a text at this byte
abbrev pub HasRow : List ℕ → Text → ModelKind → ℕ → Type 0
HasRow source t kind.UnknownName at = HasUnknownName source t at
HasRow source t kind.RepeatedName at = HasRepeatedName source t at ⊎ (HasRepeatedValue source t at ⊎ (HasRepeatedItem source t at ⊎ HasRepeatedSection t at))
HasRow source t kind.MissingValue at = LacksValue source t at
HasRow source t kind.MissingPart at = LacksObservation source t at ⊎ LacksSection source t at
HasRow source t kind.BadScope at = HasBadScope source t at ⊎ (HasSharedVariable source t at ⊎ HasLostVariable source t at)
HasRow source t kind.BadNumber at = HasBadNumber source t fault.Shape at
HasRow source t kind.TooFine at = HasBadNumber source t fault.TooFine at ⊎ HasUnevenList source t at
HasRow source t kind.TooLarge at = HasBadNumber source t fault.TooLarge at ⊎ HasLargeList source t at
HasRow source t kind.BadProbability at = HasBadProbability source t at
HasRow source t (kind.RowSum action variable row sum) at = HasBadRow source t action variable row sum at
HasRow source t (kind.InitSum sum) at = HasBadSum source t sum at
HasRow source t kind.DiscountRange at = HasBadDiscount source t at
HasRow source t kind.RewardRange at = HasBadReward source t at
HasRow source t (kind.TooMany limit) at = HasTooManyVariables t limit at ⊎ (HasTooManyValues t limit at ⊎ HasTooManyActions t limit at)

-- a row of the table holds of a text: of this kind, at this byte
abbrev pub Breaks : List ℕ → Text → Refusal → Type 0
Breaks source t r = HasRow source t r.kind r.at
