-- The decimals of numbers of ticks are read as these numbers.
use Rattle.std.proofs.Common.{◌≡◌, ℕ, zero, suc, ◌+◌, ◌-◌, ◌*◌, ◌/◌, ◌%◌, ◌^◌, ◌<◌, ◌≤◌, ◌==◌, ◌&&◌, Bool, true, false, cond, List, [], ◌∷◌, ◌++◌, length, take, drop, replicate, get_or, Ok, Err, inl, refl, sym, ap, ◌∙◌, arith, drop_of_length-le, take_all}
use Rattle.std.specs.Prelude.{ℤ, pos, negsuc, unsigned_abs, int_lt, nat_lt, codes, unwrap_or, slice_get, if◌then◌else◌}
use Rattle.std.specs.List.{list_all}
use Rattle.std.specs.Char.{is_ascii_digit, digit_value}
use Rattle.std.proofs.lemmas.Str.{digit_value_digit}
use Rattle.std.proofs.lemmas.Str.Parse.{digit_from_value}
use Rattle.sp_lex.specs.declared.decimal.NumError.TheVariants.{TooFine, TooLarge}
use Rattle.std.specs.Fmt.{decimal}
use Rattle.std.specs.Str.Parse.{AllDigits, digits_value_after}
use Rattle.std.proofs.lemmas.Fmt.{decimal_is_IsNumeral, length-decimal-le}
use Rattle.std.proofs.lemmas.List.{take_more}
use Rattle.std.proofs.lemmas.Bool.Decides.{nat_tests}
use Rattle.sp_lex.specs.Decimal.{Decimal, Spells, number_from, number_of_first, digit_at, ticks_of, ticks_of_decimal, number_within_limit, signed_number, magnitude_of, sign_of}
use Rattle.sp_lex.proofs.Spelling.{decimal_spelled}
use Rattle.sp_show.specs.Decimals as show
use Rattle.sp_show.specs.Decimals.{sign_text, nine_digits}

-- digits as std tells them and as the lexer tells them
pub digits_are : (ds : List ℕ) → AllDigits 10 ds → list_all is_ascii_digit ds ≡ true
digits_are [] h = refl
digits_are (d ∷ ds) h =
    let r = digit_from_value d h.0 in
    let low : 48 ≤ d = r.0 in
    let high : d ≤ 57 = r.1 in
    let first : is_ascii_digit d ≡ true = grind (arith, nat_tests) in
    ap (λ b. b && list_all is_ascii_digit ds) first ∙ digits_are ds h.1

value_is : (n : ℕ) (ds : List ℕ) → AllDigits 10 ds → digits_value_after 10 n ds ≡ number_from n ds
value_is n [] h = refl
value_is n (d ∷ ds) h =
    let e = digit_value_digit d (digit_from_value d h.0) in
    let same : digit_value d ≡ d - 48 = omega arith in
    ap (λ v. digits_value_after 10 (n * 10 + v) ds) same ∙ value_is (n * 10 + (d - 48)) ds h.1

-- the first digits
number_push : (n : ℕ) (ds : List ℕ) (d : ℕ) → number_from n (ds ++ d ∷ []) ≡ number_from n ds * 10 + (d - 48)
number_push n [] d = refl
number_push n (c ∷ ds) d = number_push (n * 10 + (c - 48)) ds d

digit_is : (ds : List ℕ) (n : ℕ) → unwrap_or (slice_get ds n) 48 ≡ get_or ds n 48
digit_is [] n = refl
digit_is (d ∷ ds) zero = refl
digit_is (d ∷ ds) (suc n) = digit_is ds n

first_is : (n : ℕ) (ds : List ℕ) → n ≤ length ds → number_of_first n ds ≡ number_from 0 (take n ds)
unfolding number_of_first
first_is zero ds l = refl
first_is (suc n) ds l =
    let next : suc n ≡ n + 1 = omega arith in
    ap (λ v. v * 10 + digit_at ds n) (first_is n ds (omega arith)) ∙ ap (λ v. number_from 0 (take n ds) * 10 + (v - 48)) (digit_is ds n)
    ∙ sym (number_push 0 (take n ds) (get_or ds n 48)) ∙ ap (number_from 0) (sym (take_more ds n 48 (omega arith))) ∙ ap (λ k. number_from 0 (take k ds)) (sym next)

pub sign_is : (b : Bool) → cond b (codes "-") [] ≡ sign_of b
sign_is true = refl
sign_is false = refl

pub zeros_digits : (k : ℕ) (ds : List ℕ) → list_all is_ascii_digit ds ≡ true → list_all is_ascii_digit (replicate k 48 ++ ds) ≡ true
zeros_digits zero ds h = h
zeros_digits (suc k) ds h = zeros_digits k ds h

zeros_length : (k : ℕ) (ds : List ℕ) → length (replicate k 48 ++ ds) ≡ k + length ds
zeros_length zero ds = omega arith
zeros_length (suc k) ds = let e = zeros_length k ds in omega arith

signed_is : (z : ℤ) → signed_number (int_lt z (pos 0)) (unsigned_abs z) ≡ z
signed_is (pos n) = let no : nat_lt n 0 ≡ false = grind (arith, nat_tests) in ap (λ b. signed_number b n) no
signed_is (negsuc n) = refl

zeros_before : (k : ℕ) (ds : List ℕ) → number_from 0 (replicate k 48 ++ ds) ≡ number_from 0 ds
zeros_before zero ds = refl
zeros_before (suc k) ds = zeros_before k ds

told : (z : ℤ) (w f : ℕ) → w * 1000000000 + f ≡ unsigned_abs z → unsigned_abs z ≤ 10 ^ 18 → w < 2 ^ 64 → f < 10 ^ 9 → f < 2 ^ 64 → w ≡ unsigned_abs z / 1000000000 → f ≡ unsigned_abs z % 1000000000
    → ticks_of (show.decimal_of z) ≡ Ok z
unfolding ticks_of show.decimal_of
told z w f sum l lw l9 lf ew ef =
    let nw = decimal_is_IsNumeral w lw in
    let nf = decimal_is_IsNumeral f lf in
    let whole : number_from 0 (decimal w) ≡ w = sym (value_is 0 (decimal w) nw.0.1) ∙ nw.1 in
    let rest : number_from 0 (decimal f) ≡ f = sym (value_is 0 (decimal f) nf.0.1) ∙ nf.1 in
    let short = length-decimal-le 9 f (omega arith) l9 lf in
    let zeros = zeros_length (9 - length (decimal f)) (decimal f) in
    let nine : length (nine_digits f) ≡ 9 = omega arith in
    let d : Decimal = record { negative = int_lt z (pos 0); whole = decimal w; places = nine_digits f } in
    let some = nw.0.0 in
    let text : show.decimal_of z ≡ sign_of (int_lt z (pos 0)) ++ (decimal w ++ 46 ∷ nine_digits f) =
    ap (λ a. sign_text z ++ (decimal a ++ 46 ∷ nine_digits (unsigned_abs z % 1000000000))) (sym ew) ∙ ap (λ a. sign_text z ++ (decimal w ++ 46 ∷ nine_digits a)) (sym ef)
    ∙ ap (λ a. a ++ (decimal w ++ 46 ∷ nine_digits f)) (sign_is (int_lt z (pos 0))) in
    let spelled : Spells (show.decimal_of z) (record { negative = int_lt z (pos 0); whole = decimal w; places = nine_digits f }) = record {
      whole = digits_are (decimal w) nw.0.1;
      places = zeros_digits (9 - length (decimal f)) (decimal f) (digits_are (decimal f) nf.0.1);
      some = omega arith;
      text = inl text;
    } in
    let first : number_of_first 9 (nine_digits f) ≡ f =
    first_is 9 (nine_digits f) (omega arith) ∙ ap (number_from 0) (take_all 9 (nine_digits f) (omega arith)) ∙ zeros_before (9 - length (decimal f)) (decimal f) ∙ rest in
    let magnitude : number_from 0 (decimal w) * 1000000000 + number_of_first 9 (nine_digits f) ≡ unsigned_abs z = (λ i. whole i * 1000000000 + first i) ∙ sum in
    let fine : list_all (λ b. b == 48) (drop 9 (nine_digits f)) ≡ true = ap (list_all (λ b. b == 48)) (let few : length (nine_digits f) ≤ 9 = omega arith in let none : drop 9 (nine_digits f) ≡ [] = drop_of_length-le (nine_digits f) few in none) in
    let limit : nat_lt 1000000000000000000 (unsigned_abs z) ≡ false = grind (arith, nat_tests) in
    ap ticks_of_decimal ((decimal_spelled (show.decimal_of z) d).1 spelled)
    ∙ ap (λ b. if b then number_within_limit (int_lt z (pos 0)) (magnitude_of d) else Err TooFine) fine
    ∙ ap (number_within_limit (int_lt z (pos 0))) magnitude
    ∙ ap (λ b. if b then Err TooLarge else Ok (signed_number (int_lt z (pos 0)) (unsigned_abs z))) limit
    ∙ ap Ok (signed_is z)

pub ticks_are : (z : ℤ) → unsigned_abs z ≤ 10 ^ 18 → ticks_of (show.decimal_of z) ≡ Ok z
ticks_are z l =
    let w : ℕ = unsigned_abs z / 1000000000 in
    let f : ℕ = unsigned_abs z % 1000000000 in
    let small_w : unsigned_abs z / 1000000000 < 2 ^ 64 = omega arith in
    let small_f : unsigned_abs z % 1000000000 < 2 ^ 64 = omega arith in
    let less_f : unsigned_abs z % 1000000000 < 10 ^ 9 = omega arith in
    told z (unsigned_abs z / 1000000000) (unsigned_abs z % 1000000000) (omega arith) l small_w less_f small_f refl refl
