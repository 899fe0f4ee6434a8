-- Refusals with their places, and the one that is answered.
use Rattle.std.specs.Prelude.{ℕ, ◌==◌, nat_lt, Bool, Option, Some, None, if◌then◌else◌}
use Rattle.sp_trees.specs.declared.refusal.ModelKind.{ModelKind}
use Rattle.sp_trees.specs.declared.refusal.ModelKind.TheVariants.{UnknownName, RepeatedName, MissingValue, MissingPart, BadScope, BadNumber, TooFine, TooLarge, BadProbability, RowSum, InitSum, DiscountRange, RewardRange, TooMany}
use Rattle.sp_trees.specs.declared.refusal.Refusal.{Refusal}

-- the order of the kinds at one place
abbrev pub rank : ModelKind → ℕ
rank UnknownName = 0
rank RepeatedName = 1
rank MissingValue = 2
rank MissingPart = 3
rank BadScope = 4
rank BadNumber = 5
rank TooFine = 6
rank TooLarge = 7
rank BadProbability = 8
rank (RowSum action variable row sum) = 9
rank (InitSum sum) = 10
rank DiscountRange = 11
rank RewardRange = 12
rank (TooMany limit) = 13

-- it has the lesser place, or at one place the kind that comes first
abbrev pub is_before : Refusal → Refusal → Bool
is_before a b = if a.at == b.at then nat_lt (rank a.kind) (rank b.kind) else nat_lt a.at b.at

-- the one that comes first
abbrev pub lesser : Option Refusal → Option Refusal → Option Refusal
lesser None b = b
lesser (Some x) None = Some x
lesser (Some x) (Some y) = if is_before y x then Some y else Some x

-- a refusal where the test says so
abbrev pub refused_if : Bool → ℕ → ModelKind → Option Refusal
refused_if test at kind = if test then Some (record { at = at; kind = kind }) else None
