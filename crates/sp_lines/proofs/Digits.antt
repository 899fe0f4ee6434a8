-- Digits and the numbers that they write.
use Rattle.std.proofs.Common.{◌≡◌, ◌≢◌, ℕ, zero, suc, ◌+◌, ◌-◌, ◌*◌, ◌^◌, ◌<◌, ◌≤◌, List, [], ◌∷◌, ◌++◌, length, take, get_or, refl, ap, sym, ◌∙◌, subst, arith}
use Rattle.std.specs.Fmt.{decimal}
use Rattle.std.specs.Int.{IsInRange}
use Rattle.std.specs.Char.{digit_value}
use Rattle.std.specs.Str.Parse.{AllDigits, digits_value}
use Rattle.std.proofs.lemmas.Str.{digit_value_digit}
use Rattle.std.proofs.lemmas.Str.Parse.{numerals_by_value, tells_digits, tells_by_index, IsNumeralModel, digit_at, digit_from_value, digits_value-take-le}
use Rattle.std.proofs.lemmas.Int.Digits.{digits_value_more}
use Rattle.std.proofs.lemmas.Fmt.{decimal-digits_value, decimal_is_IsNumeral, first_decimal, decimal_digit, decimal_injective, decimal_nonempty, digits_value-decimal}
use Rattle.std.proofs.lemmas.List.{get_or-take, length-take}
use Rattle.sp_lines.specs.Lines.{IsSmall, BeginsNoDigit, BeginsNumber, Lacks}

own : IsNumeralModel (AllDigits 10) (digits_value 10)
own = numerals_by_value (AllDigits 10) tells_digits

by_index : IsNumeralModel (λ ds. (i : ℕ) → i < length ds → IsInRange 48 57 (get_or ds i 0)) (digits_value 10)
by_index = numerals_by_value (λ ds. (i : ℕ) → i < length ds → IsInRange 48 57 (get_or ds i 0)) tells_by_index

pub digits_below : (text : List ℕ) (i : ℕ) → i ≤ length text → ((k : ℕ) → k < i → IsInRange 48 57 (get_or text k 0)) → AllDigits 10 (take i text)
digits_below text i within all = by_index.to (take i text) (λ k h.
    let less : k < i = omega (arith, length-take i text, h) in
    rw (get_or-take i text k 0 less) (all k less))

pub decimal_digits : (n : ℕ) → IsSmall n → AllDigits 10 (decimal n)
decimal_digits n small = (decimal_is_IsNumeral n small).0.1

pub value_step : (ds : List ℕ) (i : ℕ) → AllDigits 10 ds → i < length ds → digits_value 10 (take (i + 1) ds) ≡ digits_value 10 (take i ds) * 10 + (get_or ds i 0 - 48)
value_step ds i all h =
    let range = digit_at ds i all h in
    let digit : digit_value (get_or ds i 0) ≡ get_or ds i 0 - 48 = omega (arith, digit_value_digit (get_or ds i 0) range) in
    digits_value_more 10 ds i h ∙ ap (λ d. digits_value 10 (take i ds) * 10 + d) digit

pub too_great : (ds : List ℕ) (i value : ℕ) → AllDigits 10 ds → i < length ds → value ≡ digits_value 10 (take i ds) → 2 ^ 64 ≤ value * 10 + (get_or ds i 0 - 48) → 2 ^ 64 ≤ digits_value 10 ds
too_great ds i value all h is great =
    let step = value_step ds i all h in
    let le = digits_value-take-le 10 ds (i + 1) (omega arith) in
    omega (arith, step, le, is, great)

-- the first byte of a decimal is a digit
first_digit : (n : ℕ) → IsSmall n → IsInRange 48 57 (get_or (decimal n) 0 0)
first_digit n small = digit_at (decimal n) 0 (decimal_digits n small) (decimal_nonempty n small)

pub not_empty : (ds : List ℕ) (n : ℕ) → length ds ≡ 0 → IsSmall n → ds ≢ decimal n
not_empty ds n none small e = omega (arith, decimal_nonempty n small, ap length e, none)

pub not_padded : (ds : List ℕ) (n : ℕ) → get_or ds 0 0 ≡ 48 → 1 < length ds → IsSmall n → ds ≢ decimal n
not_padded ds zero first more small e =
    let one : length ds ≡ 1 = ap length (e ∙ decimal_digit 0 (omega arith)) in
    omega (arith, one, more)
not_padded ds (suc n) first more small e =
    let high = first_decimal (suc n) (omega arith) small in
    let same : get_or ds 0 0 ≡ get_or (decimal (suc n)) 0 0 = ap (λ l. get_or l 0 0) e in
    omega (arith, high, same, first)

pub not_great : (ds : List ℕ) (n : ℕ) → 2 ^ 64 ≤ digits_value 10 ds → IsSmall n → ds ≢ decimal n
not_great ds n great small e =
    let value : digits_value 10 ds ≡ n = ap (digits_value 10) e ∙ digits_value-decimal own n small in
    omega (arith, great, value, small)

pub is_decimal : (ds : List ℕ) (n : ℕ) → AllDigits 10 ds → 0 < length ds → (get_or ds 0 0 ≡ 48 → length ds ≡ 1) → n ≡ digits_value 10 ds → IsSmall n → ds ≡ decimal n
is_decimal ds n all some lone is small = sym (decimal-digits_value own ds all some lone (omega (arith, is, small))) ∙ ap decimal (sym is)

-- digits before what is no digit are told
pub digits_told : (xs ys us vs : List ℕ) → AllDigits 10 xs → AllDigits 10 ys → BeginsNoDigit us → BeginsNoDigit vs → xs ++ us ≡ ys ++ vs → (xs ≡ ys) × (us ≡ vs)
digits_told [] [] us vs a b f g e = (refl, e)
digits_told [] (y ∷ ys) [] vs a b f g e = cc
digits_told [] (y ∷ ys) (u ∷ us) vs a b f g e = let same : u ≡ y = cc in absurd (f (subst (IsInRange 48 57) (sym same) (digit_from_value y b.0)))
digits_told (x ∷ xs) [] us [] a b f g e = cc
digits_told (x ∷ xs) [] us (v ∷ vs) a b f g e = let same : x ≡ v = cc in absurd (g (subst (IsInRange 48 57) same (digit_from_value x a.0)))
digits_told (x ∷ xs) (y ∷ ys) us vs a b f g e =
    let first : x ≡ y = cc in
    let rest : xs ++ us ≡ ys ++ vs = cc in
    let more = digits_told xs ys us vs a.1 b.1 f g rest in
    (cc (first, more.0), more.1)

-- a number before what is no digit is told
pub number_told : (m n : ℕ) (us vs : List ℕ) → IsSmall m → IsSmall n → BeginsNoDigit us → BeginsNoDigit vs → decimal m ++ us ≡ decimal n ++ vs → (m ≡ n) × (us ≡ vs)
number_told m n us vs a b f g e =
    let digits = digits_told (decimal m) (decimal n) us vs (decimal_digits m a) (decimal_digits n b) f g e in
    (decimal_injective m n a b digits.0, digits.1)

pub no_number : (text front back : List ℕ) (n : ℕ) (rest : List ℕ) → text ≡ front ++ back → AllDigits 10 front → BeginsNoDigit back → ((m : ℕ) → IsSmall m → front ≢ decimal m) → ¬ (BeginsNumber text n rest)
no_number text front back n rest whole digits ends none begins =
    let told = digits_told front (decimal n) back rest digits (decimal_digits n begins.small) ends begins.ends (sym whole ∙ begins.is) in
    none n begins.small told.0

-- digits are none of the bytes below them
pub digits_lack : (c : ℕ) (ds : List ℕ) → c < 48 → AllDigits 10 ds → Lacks c ds
digits_lack c [] low all = tt
digits_lack c (d ∷ ds) low all = ((λ e. let range = digit_from_value d all.0 in omega (arith, range, e)), digits_lack c ds low all.1)

pub decimal_lacks : (c n : ℕ) → c < 48 → IsSmall n → Lacks c (decimal n)
decimal_lacks c n low small = digits_lack c (decimal n) low (decimal_digits n small)
