-- Decimals of ticks.
use Rattle.std.specs.Prelude.{ℕ, ◌-◌, ◌/◌, ◌%◌, ℤ, pos, List, [], ◌++◌, length, replicate, cond, int_lt, unsigned_abs, codes}
use Rattle.std.specs.Fmt.{decimal}

-- the digits of a number, with zeros before them where there are fewer than nine
abbrev pub nine_digits : ℕ → List ℕ
nine_digits n = replicate (9 - length (decimal n)) 48 ++ decimal n

-- `-` before the digits of a negative number
abbrev pub sign_text : ℤ → List ℕ
sign_text z = cond (int_lt z (pos 0)) (codes "-") []

-- the sign, the whole part without leading zeros, a point, and nine digits
unfoldable pub decimal_of : ℤ → List ℕ
decimal_of z = sign_text z ++ (decimal (unsigned_abs z / 1000000000) ++ (codes "." ++ nine_digits (unsigned_abs z % 1000000000)))
