-- The rows of the table of refusals by the parts of a text, in the order of a reading.
use Rattle.std.specs.Prelude.{◌≡◌, ℕ, ◌*◌, ◌<◌, ◌⊎◌, ℤ, pos, ◌≤ℤ◌, true, List, [], ◌++◌, map, length, Some, None, Result, Ok, Err}
use Rattle.sp_lex.specs.declared.lexeme.Span.{Span}
use Rattle.sp_lex.specs.declared.decimal.NumError.{NumError}
use Rattle.sp_lex.specs.Decimal.{ticks_of}
use Rattle.sp_syntax.specs.declared.text.Tree.{Tree}
use Rattle.sp_syntax.specs.declared.text.Observed.{Observed}
use Rattle.sp_syntax.specs.declared.text.Item.{Item}
use Rattle.sp_syntax.specs.declared.text.Item.TheVariants as item_of
use Rattle.sp_syntax.specs.declared.text.Section.{Section}
use Rattle.sp_syntax.specs.declared.text.Section.TheVariants as section_of
use Rattle.sp_syntax.specs.declared.text.Text.{Text}
use Rattle.sp_dd.specs.Floors.{ticks}
use Rattle.sp_dd.specs.Func.{Func}
use Rattle.sp_rows.specs.declared.tables.Table.{Table}
use Rattle.sp_rows.specs.declared.tables.Table.TheVariants as table
use Rattle.sp_rows.specs.declared.tables.BadRow.{BadRow}
use Rattle.sp_rows.specs.Tables.{bad_row, bad_sum}
use Rattle.sp_trees.specs.declared.refusal.ModelKind.TheVariants as kind
use Rattle.sp_trees.specs.declared.refusal.Refusal.{Refusal}
use Rattle.sp_trees.specs.declared.env.Env.{Env}
use Rattle.sp_trees.specs.declared.nodes.Place.TheVariants.{Variable, Sight}
use Rattle.sp_trees.specs.Slots.{has}
use Rattle.sp_trees.specs.Words.{text}
use Rattle.sp_trees.specs.Nodes.{place_of}
use Rattle.sp_trees.specs.Conditions.{HasOutside}
use Rattle.sp_trees.specs.Told.{func_of, mentions_of}
use Rattle.sp_trees.specs.Rows.{Among, IsRefusalAt, TreeRow}
use Rattle.sp_declarations.specs.Rows.{PartRow, DeclaredRow}
use Rattle.sp_checks.specs.Told.{env_of, env_after, actions_in}
use Rattle.sp_checks.specs.declared.roles.Role.{Role}
use Rattle.sp_checks.specs.declared.roles.Role.TheVariants as role
use Rattle.sp_checks.specs.Roles.{start_of, allowed_slots}
use Rattle.sp_checks.specs.Accepted.{variable_number}
use Rattle.sp_checks.specs.Sections.{number_kind}
use Rattle.sp_checks.specs.Initial.{factor_trees, own_of}
use Rattle.sp_checks.specs.Standing.{IsSame, words_of, IsObserve, IsCost, IsActionSection, IsActionNamed, IsDdNamed, IsInit, IsRewardSection, IsDiscount, action_count}
use Rattle.sp_checks.specs.RefusalTable.{IsUnobserved, IsTooMuch}

-- ---- rows of trees by what they are for
abbrev pub RoleRow : Env → List ℕ → Role → Tree → Refusal → Type 0
RoleRow env source for t r = TreeRow env source (allowed_slots env.scope for) t r

abbrev pub HasNoRow : Env → List ℕ → Role → Tree → Type 0
HasNoRow env source for t = (r : Refusal) → ¬ RoleRow env source for t r

-- the values of a table: a value outside of 0 and one, or else the first row that doesn't sum to one
abbrev pub TableValueRow : ℕ → ℕ → Table → ℕ → Func → Refusal → Type 0
TableValueRow n action t at f r =
    (HasOutside (pos 0) (pos ticks) f × IsRefusalAt at kind.BadProbability r)
    ⊎ ((¬ HasOutside (pos 0) (pos ticks) f) × ((bad : BadRow) × (bad_row f t ≡ Some bad) × IsRefusalAt at (kind.RowSum action (variable_number n t) bad.row bad.sum) r))

-- a row of a table of an action
abbrev pub TableRow : Env → List ℕ → ℕ → Table → Tree → Refusal → Type 0
TableRow env source action t tree r =
    RoleRow env source (role.Table t) tree r
    ⊎ (HasNoRow env source (role.Table t) tree × TableValueRow env.scope.variables action t (start_of tree) (func_of env source tree) r)

-- ---- items
-- a word that names nothing, or that the action listed before
abbrev pub ListedRow : Env → List ℕ → List Span → Span → Refusal → Type 0
ListedRow env source words w r =
    ((place_of env (text source w) ≡ None) × IsRefusalAt w.start kind.UnknownName r) ⊎ (Among (IsSame source w) words × IsRefusalAt w.start kind.RepeatedName r)

-- NAME tree: of a state variable
abbrev pub VariableRow : Env → List ℕ → ℕ → List Span → Span → Tree → Refusal → Type 0
VariableRow env source action words w t r =
    ListedRow env source words w r
    ⊎ (((j : ℕ) × (place_of env (text source w) ≡ Some (Sight j)) × IsRefusalAt w.start kind.BadScope r)
    ⊎ ((i : ℕ) × (place_of env (text source w) ≡ Some (Variable i)) × TableRow env source action (table.Move i) t r))

-- NAME tree in observe: of an observation variable
abbrev pub ObservedRow : Env → List ℕ → ℕ → List Span → List Observed → Observed → Refusal → Type 0
ObservedRow env source action words before o r =
    ListedRow env source (words ++ map (λ o. o.name) before) o.name r
    ⊎ (((i : ℕ) × (place_of env (text source o.name) ≡ Some (Variable i)) × IsRefusalAt o.name.start kind.BadScope r)
    ⊎ ((j : ℕ) × (place_of env (text source o.name) ≡ Some (Sight j)) × TableRow env source action (table.Sight j) o.tree r))

abbrev pub ItemRow : Env → List ℕ → ℕ → List Item → Item → Refusal → Type 0
ItemRow env source action before (item_of.Variable name t) r = VariableRow env source action (words_of before) name t r
ItemRow env source action before (item_of.Observe keyword list end) r =
    (Among IsObserve before × IsRefusalAt keyword.start kind.RepeatedName r) ⊎ PartRow (ObservedRow env source action (words_of before)) [] list r
ItemRow env source action before (item_of.Cost keyword t) r = (Among IsCost before × IsRefusalAt keyword.start kind.RepeatedName r) ⊎ RoleRow env source role.Reward t r

-- ---- sections
abbrev pub ActionRow : Env → List ℕ → List Section → Span → List Item → Span → Refusal → Type 0
ActionRow env source before name items end r =
    ((Among (IsActionNamed source name) before × IsRefusalAt name.start kind.RepeatedName r) ⊎ ((action_count before ≡ 256) × IsRefusalAt name.start (kind.TooMany 256) r))
    ⊎ (PartRow (ItemRow env source (action_count before)) [] items r ⊎ (IsUnobserved env source items × IsRefusalAt end.start kind.MissingPart r))

-- a factor that shares a variable with one before, or a row of its tree, or else of its values
abbrev pub FactorRow : Env → List ℕ → List Tree → Tree → Refusal → Type 0
FactorRow env source before t r =
    (((i : ℕ) × (i < env.scope.variables) × (has (mentions_of env source t) (2 * i) ≡ true) × Among (λ u. has (mentions_of env source u) (2 * i) ≡ true) before) × IsRefusalAt (start_of t) kind.BadScope r)
    ⊎ (RoleRow env source role.Init t r
    ⊎ (HasNoRow env source role.Init t
    × ((HasOutside (pos 0) (pos ticks) (func_of env source t) × IsRefusalAt (start_of t) kind.BadProbability r)
    ⊎ ((¬ HasOutside (pos 0) (pos ticks) (func_of env source t))
    × ((sum : ℤ) × (bad_sum (func_of env source t) (own_of env.scope.variables (mentions_of env source t)) ≡ Some sum) × IsRefusalAt (start_of t) (kind.InitSum sum) r)))))

abbrev pub InitRow : Env → List ℕ → List Section → Span → Tree → Refusal → Type 0
InitRow env source before keyword t r =
    (Among IsInit before × IsRefusalAt keyword.start kind.RepeatedName r)
    ⊎ ((((i : ℕ) × (i < env.scope.variables) × (¬ Among (λ u. has (mentions_of env source u) (2 * i) ≡ true) (factor_trees t))) × IsRefusalAt keyword.start kind.BadScope r)
    ⊎ PartRow (FactorRow env source) [] (factor_trees t) r)

abbrev pub NumberRow : ℕ → Result ℤ NumError → Refusal → Type 0
NumberRow at read r =
    ((e : NumError) × (read ≡ Err e) × IsRefusalAt at (number_kind e) r) ⊎ ((v : ℤ) × (read ≡ Ok v) × (¬ ((pos 0 ≤ℤ v) × (v ≤ℤ pos 999000000))) × IsRefusalAt at kind.DiscountRange r)

-- a row of a section, given those before it
abbrev pub SectionRow : List ℕ → Env → List Section → Section → Refusal → Type 0
SectionRow source env before (section_of.Init keyword t) r = InitRow (env_after source env before) source before keyword t r
SectionRow source env before (section_of.Dd keyword name t end) r =
    (Among (IsDdNamed source name) before × IsRefusalAt name.start kind.RepeatedName r) ⊎ RoleRow (env_after source env before) source role.Dd t r
SectionRow source env before (section_of.Action keyword name items end) r = ActionRow (env_after source env before) source before name items end r
SectionRow source env before (section_of.Reward keyword t) r =
    (Among IsRewardSection before × IsRefusalAt keyword.start kind.RepeatedName r) ⊎ RoleRow (env_after source env before) source role.Reward t r
SectionRow source env before (section_of.Discount keyword word) r =
    (Among IsDiscount before × IsRefusalAt keyword.start kind.RepeatedName r) ⊎ NumberRow word.start (ticks_of (text source word)) r
SectionRow source env before (section_of.Horizon keyword word) r = ⊥
SectionRow source env before (section_of.Tolerance keyword word) r = ⊥

-- ---- the end
-- a part that a model needs is missing, or an action's reward is too large
abbrev pub EndRow : List ℕ → Env → List Section → ℕ → Refusal → Type 0
EndRow source env sections end r =
    (((¬ Among IsInit sections) ⊎ ((¬ Among IsDiscount sections) ⊎ (¬ Among IsActionSection sections))) × IsRefusalAt end kind.MissingPart r)
    ⊎ (Among IsTooMuch (actions_in source env sections) × IsRefusalAt end kind.RewardRange r)

-- a row of a text
abbrev pub TextRow : List ℕ → Text → Refusal → Type 0
TextRow source t r = DeclaredRow source t r ⊎ (PartRow (SectionRow source (env_of source t)) [] t.sections r ⊎ EndRow source (env_of source t) t.sections (length source) r)
