-- Steps of reading digits.
use Rattle.std.proofs.Common.{◌≡◌, ℕ, zero, suc, ◌+◌, ◌-◌, ◌*◌, ◌<◌, ◌≤◌, min, Bool, true, List, [], ◌∷◌, Ok, Err, length, drop, get_or, refl, sym, ap, ◌∙◌, add-one, drop-cons, ⊎_elim, arith}
use Rattle.std.specs.Prelude.{nat_lt, if◌then◌else◌}
use Rattle.std.proofs.lemmas.Bool.{cases_lt}
use Rattle.std.proofs.lemmas.Bool.Decides.{nat_tests}
use Rattle.sp_lex.specs.declared.decimal.NumError.TheVariants.{TooLarge}
use Rattle.sp_lex.specs.Decimal.{number_from, number_of_first, digit_at, signed_number, number_within_limit}

grows : (v c : ℕ) (digits : List ℕ) → c ≤ v → c ≤ number_from v digits
grows v c [] h = h
grows v c (d ∷ digits) h = grows (v * 10 + (d - 48)) c digits (omega arith)

-- a number that was cut to the cap gives the same cut number with further digits
number_from-min : (c v : ℕ) (digits : List ℕ) → min c (number_from (min v c) digits) ≡ min c (number_from v digits)
number_from-min c v digits =
    ⊎_elim (λ less. let e : min v c ≡ v = omega arith in ap (λ v. min c (number_from v digits)) e)
    (λ more.
    let e : min v c ≡ c = omega arith in
    let capped = grows c c digits (omega arith) in
    let large = grows v c digits more in
    ap (λ v. min c (number_from v digits)) e ∙ omega (arith, capped, large)) (cases_lt v c)

pub number_step : (c v i : ℕ) (digits : List ℕ) → i < length digits
    → min c (number_from (min (v * 10 + (get_or digits i 0 - 48)) c) (drop (i + 1) digits)) ≡ min c (number_from v (drop i digits))
number_step c v i digits h =
    number_from-min c (v * 10 + (get_or digits i 0 - 48)) (drop (i + 1) digits) ∙ rw (add-one, drop-cons digits i 0) refl

-- 23 times a power of ten, which is above n places of any bytes
pub tens : ℕ → ℕ
tens zero = 23
tens (suc n) = 10 * tens n

pub tens_more : (n : ℕ) → tens (n + 1) ≡ 10 * tens n
unfolding tens
tens_more n = rw add-one refl

tens_up : (n k : ℕ) → tens n ≤ tens (n + k)
unfolding tens
tens_up n zero = let e : n ≡ n + 0 = omega arith in omega (arith, ap tens e)
tens_up n (suc k) = let e : n + suc k ≡ suc (n + k) = omega arith in omega (arith, ap tens e, tens_up n k)

pub tens_most : (n : ℕ) → n ≤ 9 → tens n ≤ 23000000000
unfolding tens
tens_most n h = let e : n + (9 - n) ≡ 9 = omega arith in omega (arith, tens_up n (9 - n), ap tens e)

pub tens_start : tens 0 ≡ 23
unfolding tens
tens_start = refl

pub first_more : (n : ℕ) (digits : List ℕ) → number_of_first (n + 1) digits ≡ number_of_first n digits * 10 + digit_at digits n
unfolding number_of_first
first_more n digits = rw add-one refl

-- within the limit nothing was cut, and a number past it stays past it when it is cut
pub limited_same : (negative : Bool) (v n : ℕ) → number_within_limit negative (min 2000000000 v * 1000000000 + n) ≡ number_within_limit negative (v * 1000000000 + n)
limited_same negative v n =
    ⊎_elim (λ less. let e : min 2000000000 v ≡ v = omega arith in ap (λ v. number_within_limit negative (v * 1000000000 + n)) e)
    (λ more.
    (λ i. if (too_large (min 2000000000 v) (omega arith) i) then Err TooLarge else Ok (signed_number negative (min 2000000000 v * 1000000000 + n)))
    ∙ sym (λ i. if (too_large v more i) then Err TooLarge else Ok (signed_number negative (v * 1000000000 + n)))) (cases_lt v 2000000000)
  where
    too_large : (v : ℕ) → 2000000000 ≤ v → nat_lt 1000000000000000000 (v * 1000000000 + n) ≡ true
    too_large v h = let lt : 1000000000000000000 < v * 1000000000 + n = omega arith in grind (arith, nat_tests)
