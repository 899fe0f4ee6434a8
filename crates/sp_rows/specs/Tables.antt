-- Tables of probabilities: whether they are some, and the first row that doesn't sum to one.
use Rattle.std.specs.Prelude.{ℕ, ◌+◌, ◌*◌, ◌==◌, ◌&&◌, ◌||◌, ◌%◌, not, nat_lt, int_le, Bool, List, [], ◌∷◌, map, position, slice_index, Option, option_map, ℤ, pos, negsuc, neg_ℤ, if◌then◌else◌}
use Rattle.std.specs.List.{list_all, range_with_len}
use Rattle.std.specs.Ordering.{int_eq}
use Rattle.sp_dd.specs.Floors.{ticks}
use Rattle.sp_dd.specs.Points.{place, point_at}
use Rattle.sp_dd.specs.Func.{Shape, Func, value_of, function_of, leaves_of, size_of}
use Rattle.sp_dd.specs.Operations.{summed_out, plus, scalar_multiple, leaf_chosen}
use Rattle.sp_model.specs.Kept.{summed_out_own, most_reward}
use Rattle.sp_rows.specs.declared.tables.Table.{Table}
use Rattle.sp_rows.specs.declared.tables.Table.TheVariants as table
use Rattle.sp_rows.specs.declared.tables.BadRow.{BadRow}

-- the value at each point, in slot order
abbrev pub values_of : Func → List ℤ
values_of f = leaves_of f.shape.sizes (value_of f)

-- each value is between these
abbrev pub is_within : ℤ → ℤ → Func → Bool
is_within lo hi f = list_all (λ v. int_le lo v && int_le v hi) (values_of f)

-- each value is a probability in ticks
abbrev pub is_probability : Func → Bool
is_probability f = is_within (pos 0) (pos ticks) f

-- each value is within a million
abbrev pub is_reward : Func → Bool
is_reward f = is_within (neg_ℤ (pos most_reward)) (pos most_reward) f

-- the first point in slot order at which f isn't v
abbrev pub first_apart : Func → ℤ → Option (List ℕ)
first_apart f v = option_map (point_at f.shape.sizes) (position (λ u. not (int_eq u v)) (values_of f))

-- the slot over which the rows of a table sum to one, where there are n state variables
abbrev pub slot_of : ℕ → Table → ℕ
slot_of n (table.Move i) = 2 * i + 1
slot_of n (table.Sight j) = 2 * n + j

-- the state slots that number the rows of a table: those that it may mention, without the slot that is summed over
abbrev pub numbers_rows : ℕ → Table → ℕ → Bool
numbers_rows n (table.Move i) slot = nat_lt slot (2 * n) && (slot % 2 == 0 || nat_lt slot (2 * i + 1))
numbers_rows n (table.Sight j) slot = nat_lt slot (2 * n) && slot % 2 == 1

-- the sizes of the slots of a kind, and 1 for each other slot; the number is that of the first slot
abbrev pub widths_from : (ℕ → Bool) → ℕ → List ℕ → List ℕ
widths_from counts k [] = []
widths_from counts k (w ∷ ws) = (if counts k then w else 1) ∷ widths_from counts (k + 1) ws

abbrev pub row_widths : Shape → Table → List ℕ
row_widths s t = widths_from (numbers_rows s.variables t) 0 s.sizes

-- the number of a point's row, and the row's sum
abbrev pub row_at : Shape → Table → Func → List ℕ → BadRow
row_at s t sums x = record { row = place (row_widths s t) x; sum = value_of sums x }

-- the first row in slot order that doesn't sum to one
abbrev pub bad_row : Func → Table → Option BadRow
bad_row f t = let sums = summed_out f (slot_of f.shape.variables t) in option_map (row_at f.shape t sums) (first_apart sums (pos ticks))

-- the sum over the own variables, where it isn't one
abbrev pub bad_sum : Func → List ℕ → Option ℤ
bad_sum f own = let sums = summed_out_own f own in option_map (value_of sums) (first_apart sums (pos ticks))

-- the table of a variable that keeps its value
abbrev pub identity : Shape → ℕ → Func
identity s i = function_of s (λ x. if slice_index x (2 * i) == slice_index x (2 * i + 1) then pos ticks else pos 0)

abbrev pub leaf_at : ℕ → ℕ → ℤ
leaf_at value other = if value == other then pos ticks else pos 0

abbrev pub leaves_at : ℕ → ℕ → List ℤ
leaves_at values value = map (leaf_at value) (range_with_len 0 values)

-- the table that leads to a value
abbrev pub table_to : Shape → ℕ → ℕ → Func
table_to s slot value = leaf_chosen s slot (leaves_at (size_of s slot) value)

-- a reward less a cost
abbrev pub less : Func → Func → Func
less reward cost = plus reward (scalar_multiple cost (negsuc 0))

-- how many choices of values of these variables there are
abbrev pub own_count : Shape → List ℕ → ℕ
own_count s [] = 1
own_count s (i ∷ own) = size_of s (2 * i) * own_count s own
