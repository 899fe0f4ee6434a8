-- Trees that aren't refused, and tables of probabilities.
use Rattle.std.specs.Prelude.{ℕ, ◌+◌, Bool, true, false, List, Option, Some, None, Result, Ok, Err}
use Rattle.std.specs.Borrow.{Bor}
use Rattle.sp_dd.specs.Func.{Func}
use Rattle.sp_syntax.specs.declared.text.Tree.{Tree}
use Rattle.sp_rows.specs.declared.tables.Table.{Table}
use Rattle.sp_rows.specs.declared.tables.Table.TheVariants as table
use Rattle.sp_rows.specs.declared.tables.BadRow.{BadRow}
use Rattle.sp_rows.specs.Tables.{is_probability, bad_row}
use Rattle.sp_trees.specs.declared.refusal.Refusal.{Refusal}
use Rattle.sp_trees.specs.declared.refusal.ModelKind.TheVariants as kind
use Rattle.sp_trees.specs.declared.slots.Slots.{Slots}
use Rattle.sp_trees.specs.declared.env.Env.{Env}
use Rattle.sp_trees.specs.Judge.{judgement}
use Rattle.sp_declarations.specs.Steps.{◌>>=◌, unless_refused}
use Rattle.sp_declarations.specs.Declarations.{refusal_at}
use Rattle.sp_checks.specs.declared.roles.Role.{Role}
use Rattle.sp_checks.specs.declared.roles.Role.TheVariants as role
use Rattle.sp_checks.specs.declared.accepted.Accepted.{Accepted}
use Rattle.sp_checks.specs.Roles.{start_of, allowed_slots}

-- an answer that lends a value, as the value
abbrev pub lent_answer : {X E : Type 0} → Result (Bor X) E → Result X E
lent_answer (Ok x) = Ok x.now
lent_answer (Err e) = Err e

abbrev pub accepted_by : Slots → Result Func Refusal → Result Accepted Refusal
accepted_by mentions (Ok f) = Ok (record { mentions = mentions; func = f })
accepted_by mentions (Err r) = Err r

-- what a tree means in a role, unless it is refused
unfoldable pub accepted : Env → List ℕ → Role → Tree → Result Accepted Refusal
accepted env source role tree = let j = judgement env source (allowed_slots env.scope role) tree in accepted_by j.mentions j.outcome

-- the number of a table's variable, with the observation variables behind the n state variables
abbrev pub variable_number : ℕ → Table → ℕ
variable_number n (table.Move i) = i
variable_number n (table.Sight j) = n + j

abbrev pub row_refusal : ℕ → ℕ → Table → ℕ → Option BadRow → Option Refusal
row_refusal n action t at None = None
row_refusal n action t at (Some bad) = refusal_at at (kind.RowSum action (variable_number n t) bad.row bad.sum)

abbrev pub table_refusal_by : ℕ → ℕ → Table → ℕ → Func → Bool → Option Refusal
table_refusal_by n action t at f true = row_refusal n action t at (bad_row f t)
table_refusal_by n action t at f false = refusal_at at kind.BadProbability

-- a table with a value that is no probability, or with a row that doesn't sum to one
unfoldable pub table_refusal : ℕ → ℕ → Table → ℕ → Func → Option Refusal
table_refusal n action t at f = table_refusal_by n action t at f (is_probability f)

-- nothing, unless a table is refused by its values
abbrev pub checked_table : ℕ → ℕ → Table → ℕ → Func → Result (Unit {0}) Refusal
checked_table n action t at f = unless_refused (table_refusal n action t at f)

-- the table of a tree in an action
unfoldable pub table_of : Env → List ℕ → ℕ → Table → Tree → Result Func Refusal
table_of env source action t tree =
    accepted env source (role.Table t) tree >>= λ a. (checked_table env.scope.variables action t (start_of tree) a.func >>= λ _. Ok a.func)
