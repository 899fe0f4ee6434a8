-- Marks on the numbers of sampled beliefs.
use Rattle.std.specs.Prelude.{ℕ, List, length, get_or, Bool, false, not, ◌||◌, ◌==◌, ◌%◌, cond, filter}
use Rattle.std.specs.List.{range_with_len}
use Rattle.sp_theory.specs.OneThread.{Marks}

-- the marks that a list holds
abbrev pub marks_of : List Bool → Marks
marks_of marks k = get_or marks k false

-- whether a number has neither mark
abbrev pub is_free : List Bool → List Bool → ℕ → Bool
is_free marks others k = not (get_or marks k false || get_or others k false)

-- the numbers below n that have neither mark, in order
abbrev pub neither_below : ℕ → List Bool → List Bool → List ℕ
neither_below n marks others = filter (is_free marks others) (range_with_len 0 n)

-- the numbers that have neither mark
abbrev pub neither : List Bool → List Bool → List ℕ
neither marks others = neither_below (length marks) marks others

-- the numbers to pick from: those that have neither mark; where there is none, those without the first
abbrev pub open_numbers : List Bool → List Bool → List ℕ
open_numbers marks others = cond (length (neither marks others) == 0) (neither marks marks) (neither marks others)

-- the one at the word modulo their count
abbrev pub picked_from : List Bool → List Bool → ℕ → ℕ
picked_from marks others word = get_or (open_numbers marks others) (word % length (open_numbers marks others)) 0
