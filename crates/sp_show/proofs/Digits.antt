-- What the formatter writes is the decimal.
use Rattle.std.proofs.Common.{◌≡◌, ℕ, ◌/◌, ◌%◌, ℤ, List, ◌∷◌, ◌++◌, ◌-◌, length, replicate, unsigned_abs, ap, ◌∙◌, [], arith}
use Rattle.std.proofs.lemmas.List.{append-nil}
use Rattle.std.specs.Fmt.{decimal, styled_decimal, format_spec, padded_integral, char_count}
use Rattle.sp_show.specs.Decimals.{decimal_of, nine_digits, sign_text}

-- a number laid out in nine digits with zeros before it
laid_out : (n : ℕ) → styled_decimal (format_spec 32 0 4 9 18446744073709551615) n ≡ nine_digits n
unfolding padded_integral char_count
laid_out n =
    let short : 9 - length (decimal n) - 0 - 0 ≡ 9 - length (decimal n) = omega arith in
    ap (λ k. replicate k 48 ++ (decimal n ++ [])) short ∙ ap (λ digits. replicate (9 - length (decimal n)) 48 ++ digits) (append-nil (decimal n))

pub written : (z : ℤ) → sign_text z ++ (decimal (unsigned_abs z / 1000000000) ++ (46 ∷ styled_decimal (format_spec 32 0 4 9 18446744073709551615) (unsigned_abs z % 1000000000))) ≡ decimal_of z
unfolding decimal_of
written z = ap (λ digits. sign_text z ++ (decimal (unsigned_abs z / 1000000000) ++ (46 ∷ digits))) (laid_out (unsigned_abs z % 1000000000))
