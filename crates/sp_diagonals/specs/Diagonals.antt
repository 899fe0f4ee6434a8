-- Functions where state variables have one value in both their slots.
use Rattle.std.specs.Prelude.{ℕ, zero, suc, ◌+◌, ◌-◌, ◌*◌, List, slice_index, slice_set}
use Rattle.sp_dd.specs.Func.{Func, value_of, function_of}
use Rattle.sp_diagonals.specs.declared.diagonals.Side.{Side}
use Rattle.sp_diagonals.specs.declared.diagonals.Side.TheVariants.{State, Next}

-- the place of the slot that is read, among the two of a variable
abbrev pub offset : Side → ℕ
offset State = 0
offset Next = 1

-- the slot of a variable that is read, and the one that takes its value
abbrev pub read_slot : Side → ℕ → ℕ
read_slot side v = 2 * v + offset side

abbrev pub filled_slot : Side → ℕ → ℕ
filled_slot side v = 2 * v + (1 - offset side)

-- a point where n variables from v on have one value in both their slots
unfoldable pub filled : Side → ℕ → ℕ → List ℕ → List ℕ
filled side v zero x = x
filled side v (suc n) x = filled side (suc v) n (slice_set x (filled_slot side v) (slice_index x (read_slot side v)))

-- f where n variables from v on have one value in both their slots
abbrev pub on_diagonals : Side → ℕ → ℕ → Func → Func
on_diagonals side v n f = function_of f.shape (λ x. value_of f (filled side v n x))
