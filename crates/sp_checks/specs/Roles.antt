-- What the trees of a text are for, and which slots each may mention.
use Rattle.std.specs.Prelude.{ℕ, zero, suc, ◌≤◌, ◌+◌, ◌*◌, ◌%◌, ◌==◌, ◌&&◌, ◌||◌, nat_lt, nat_le, Bool, true, length, if◌then◌else◌}
use Rattle.sp_dd.specs.Func.{Shape}
use Rattle.sp_syntax.specs.declared.text.Tree.{Tree, out-Tree}
use Rattle.sp_syntax.specs.declared.text.Tree.TheOpen.{Tree-F}
use Rattle.sp_syntax.specs.declared.text.Branch.{Branch}
use Rattle.sp_rows.specs.declared.tables.Table.TheVariants as table
use Rattle.sp_trees.specs.declared.slots.Slots.{Slots}
use Rattle.sp_trees.specs.Slots.{none, one, union}
use Rattle.sp_checks.specs.declared.roles.Role.{Role}
use Rattle.sp_checks.specs.declared.roles.Role.TheVariants as role

abbrev pub start_by : Tree-F Tree Branch → ℕ
start_by (Tree-F.Number left number right) = left.start
start_by (Tree-F.Reference left name right) = left.start
start_by (Tree-F.Node left variable branches right) = left.start
start_by (Tree-F.PrimedNode left variable branches right) = left.start
start_by (Tree-F.Sum left plus trees right) = left.start
start_by (Tree-F.Product left star trees right) = left.start

-- the first byte of a tree
abbrev pub start_of : Tree → ℕ
start_of t = start_by (out-Tree t)

-- the table of state variable i may mention a slot: unprimed variables, and primed ones up to its own
abbrev pub move_mentions : ℕ → ℕ → ℕ → Bool
move_mentions n i slot = nat_lt slot (2 * n) && (slot % 2 == 0 || nat_le slot (2 * i + 1))

-- that of observation variable j: primed variables, and its own slot
abbrev pub sight_mentions : ℕ → ℕ → ℕ → Bool
sight_mentions n j slot = (nat_lt slot (2 * n) && slot % 2 == 1) || slot == 2 * n + j

-- a tree may mention a slot, where there are n state variables: a dd any; the initial belief unprimed variables; rewards and costs unprimed and primed ones
abbrev pub may_mention : ℕ → Role → ℕ → Bool
may_mention n role.Dd slot = true
may_mention n role.Init slot = nat_lt slot (2 * n) && slot % 2 == 0
may_mention n role.Reward slot = nat_lt slot (2 * n)
may_mention n (role.Table (table.Move i)) slot = move_mentions n i slot
may_mention n (role.Table (table.Sight j)) slot = sight_mentions n j slot

-- the variable of a table has a number of a scope
abbrev pub IsSmallRole : Role → Type 0
IsSmallRole (role.Table (table.Move i)) = i ≤ 28
IsSmallRole (role.Table (table.Sight j)) = j ≤ 56
IsSmallRole _ = Unit {0}

-- those of the first k slots that pass
unfoldable pub slots_where : (ℕ → Bool) → ℕ → Slots
slots_where test zero = none
slots_where test (suc k) = if test k then union (slots_where test k) (one k) else slots_where test k

-- the slots that a tree may mention
abbrev pub allowed_slots : Shape → Role → Slots
allowed_slots s role = slots_where (may_mention s.variables role) (length s.sizes)
