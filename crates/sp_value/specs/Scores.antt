-- Scores with numbers, of which the greatest counts, and the least number at a tie.
use Rattle.std.specs.Prelude.{ℕ, ℤ, Bool, not, ◌&&◌, ◌||◌, int_lt, nat_lt}

-- whether a score with a number is better than another
abbrev pub outdoes : ℤ → ℕ → ℤ → ℕ → Bool
outdoes score id than than_id = int_lt than score || (not (int_lt score than) && nat_lt id than_id)
