-- The members' tables.
use Rattle.std.specs.Prelude.{◌≡◌, ℕ, ◌^◌, ◌<◌, ◌≤◌, ◌≤ℤ◌, List, Option, None, Some, pos, length, slice_index_or, unsigned_abs}
use Rattle.sp_dd.specs.Func.{Shape, Func, Everywhere}
use Rattle.sp_model.specs.Problem.{no_func}
use Rattle.sp_value.specs.Editions.{EditionParts, no_member}
use Rattle.sp_backup.specs.declared.values.MemberTable.{MemberTable}

-- what stands past the end of a list of tables
abbrev pub no_table : MemberTable
no_table = record { vector = no_func; table = None; low = pos 0; high = pos 0 }

-- nothing, or that function
abbrev pub IsNothingOr : Option Func → Func → Type 0
IsNothingOr o f = (g : Func) → o ≡ Some g → g ≡ f

-- its values are the vector's, which lie between these bounds
pub record IsTabled (x : MemberTable) : Type 0 where
  pub values : IsNothingOr x.table x.vector
  pub low : Everywhere x.vector (λ v. x.low ≤ℤ v)
  pub high : Everywhere x.vector (λ v. v ≤ℤ x.high)
  pub small_low : unsigned_abs x.low ≤ 10 ^ 18
  pub small_high : unsigned_abs x.high ≤ 10 ^ 18

-- such a table, whose vector has that shape
pub record IsTableOfMember (s : Shape) (x : MemberTable) : Type 0 where
  pub shape : x.vector.shape ≡ s
  pub tabled : IsTabled x

abbrev pub AreTables : Shape → List MemberTable → Type 0
AreTables s tables = (k : ℕ) → k < length tables → IsTableOfMember s (slice_index_or tables k no_table)

-- the table of the member at a place
pub record IsMemberTable (e : EditionParts) (place : ℕ) (x : MemberTable) : Type 0 where
  pub vector : x.vector ≡ (slice_index_or e.members place no_member).vector
  pub tabled : IsTabled x

-- the tables of the first n members
pub record AreMemberTables (e : EditionParts) (n : ℕ) (tables : List MemberTable) : Type 0 where
  pub count : length tables ≡ n
  pub each : (k : ℕ) → k < n → IsMemberTable e k (slice_index_or tables k no_table)
