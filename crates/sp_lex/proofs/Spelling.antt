-- The spelling of decimals.
use Rattle.std.proofs.Common.{◌≡◌, ◌↔◌, ℕ, suc, ◌+◌, ◌<◌, ◌==◌, ◌&&◌, ◌||◌, inl, inr, Bool, true, false, List, [], ◌∷◌, ◌++◌, length, take, drop, Some, None, refl, sym, ap, ◌∙◌, subst, ⊎_elim, append-nil, arith}
use Rattle.std.specs.Prelude.{cond, nat_lt, take_while, if◌then◌else◌}
use Rattle.std.specs.Char.{is_ascii_digit}
use Rattle.std.specs.List.{list_all, prefix_len}
use Rattle.std.proofs.Math.Seq.{take-append_seam, drop-append_seam}
use Rattle.std.proofs.lemmas.List.{take-append-drop}
use Rattle.std.proofs.lemmas.List.Folds.{length-prefix_len}
use Rattle.std.proofs.lemmas.Bool.Decides.{nat_tests}
use Rattle.sp_lex.specs.Decimal.{Decimal, Spells, sign_of, with_tail, unsigned_decimal_of, decimal_of}

-- the digits at the front are digits
front_more : (b n : ℕ) (bytes : List ℕ) → list_all is_ascii_digit (take n bytes) ≡ true → (test : Bool) → is_ascii_digit b ≡ test
    → list_all is_ascii_digit (take (cond test (1 + n) 0) (b ∷ bytes)) ≡ true
front_more b n bytes more true e =
    let next : suc n ≡ 1 + n = omega arith in
    subst (λ n. list_all is_ascii_digit (take n (b ∷ bytes)) ≡ true) next (ap (λ test. test && list_all is_ascii_digit (take n bytes)) e ∙ more)
front_more b n bytes more false e = refl

front_digits : (bytes : List ℕ) → list_all is_ascii_digit (take (prefix_len is_ascii_digit bytes) bytes) ≡ true
front_digits [] = refl
front_digits (b ∷ bytes) = front_more b (prefix_len is_ascii_digit bytes) bytes (front_digits bytes) (is_ascii_digit b) refl

tests : (b : ℕ) (all : Bool) (n m : ℕ) → (b == 46 && all && (nat_lt 0 n || nat_lt 0 m)) ≡ true → (b ≡ 46) × (all ≡ true) × (0 < n + m)
tests b true n m e = (grind (arith, nat_tests), refl, grind (arith, nat_tests))
tests b false n m e = grind (arith, nat_tests)

tail_spells : (negative : Bool) (whole tail : List ℕ) (d : Decimal) → list_all is_ascii_digit whole ≡ true → with_tail negative whole tail ≡ Some d → Spells (sign_of negative ++ (whole ++ tail)) d
tail_spells negative whole [] d digits e = by_some (nat_lt 0 (length whole)) refl e
  where
    by_some : (test : Bool) → nat_lt 0 (length whole) ≡ test → (if test then Some (record { negative = negative; whole = whole; places = [] }) else None) ≡ Some d → Spells (sign_of negative ++ (whole ++ [])) d
    by_some false t e = cc
    by_some true t e =
        let same : record { negative = negative; whole = whole; places = [] } ≡ d = cc in
        subst (λ d. Spells (sign_of negative ++ (whole ++ [])) d) same
        (record { whole = digits; places = refl; some = grind (arith, nat_tests); text = inr (ap (λ z. sign_of negative ++ z) (append-nil whole), refl) })
tail_spells negative whole (b ∷ places) d digits e = by_test (b == 46 && list_all is_ascii_digit places && (nat_lt 0 (length whole) || nat_lt 0 (length places))) refl e
  where
    by_test : (test : Bool) → (b == 46 && list_all is_ascii_digit places && (nat_lt 0 (length whole) || nat_lt 0 (length places))) ≡ test
        → (if test then Some (record { negative = negative; whole = whole; places = places }) else None) ≡ Some d → Spells (sign_of negative ++ (whole ++ b ∷ places)) d
    by_test false t e = cc
    by_test true t e =
        let parts = tests b (list_all is_ascii_digit places) (length whole) (length places) t in
        let same : record { negative = negative; whole = whole; places = places } ≡ d = cc in
        subst (λ d. Spells (sign_of negative ++ (whole ++ b ∷ places)) d) same
        (record { whole = digits; places = parts.1; some = parts.2; text = inl (ap (λ b. sign_of negative ++ (whole ++ b ∷ places)) parts.0) })

unsigned_spells : (negative : Bool) (bytes : List ℕ) (d : Decimal) → unsigned_decimal_of negative bytes ≡ Some d → Spells (sign_of negative ++ bytes) d
unsigned_spells negative bytes d e =
    let n : ℕ = length (take_while is_ascii_digit bytes) in
    let digits : list_all is_ascii_digit (take (length (take_while is_ascii_digit bytes)) bytes) ≡ true =
    ap (λ n. list_all is_ascii_digit (take n bytes)) (length-prefix_len is_ascii_digit bytes) ∙ front_digits bytes in
    subst (λ z. Spells (sign_of negative ++ z) d) (take-append-drop (length (take_while is_ascii_digit bytes)) bytes)
    (tail_spells negative (take (length (take_while is_ascii_digit bytes)) bytes) (drop (length (take_while is_ascii_digit bytes)) bytes) d digits e)

spells : (word : List ℕ) (d : Decimal) → decimal_of word ≡ Some d → Spells word d
unfolding decimal_of
spells [] d e = cc
spells (b ∷ bytes) d e = by_sign (b == 45) refl e
  where
    by_sign : (test : Bool) → (b == 45) ≡ test → (if test then unsigned_decimal_of true bytes else unsigned_decimal_of false (b ∷ bytes)) ≡ Some d → Spells (b ∷ bytes) d
    by_sign true t e = let minus : 45 ≡ b = grind (arith, nat_tests) in subst (λ b. Spells (b ∷ bytes) d) minus (unsigned_spells true bytes d e)
    by_sign false t e = unsigned_spells false (b ∷ bytes) d e

both_true : (x y : Bool) → (x && y) ≡ true → (x ≡ true) × (y ≡ true)
both_true true y e = (refl, e)
both_true false y e = cc

-- how many digits stand at the front of digits with something else behind
digits_at_front : (whole tail : List ℕ) → list_all is_ascii_digit whole ≡ true → prefix_len is_ascii_digit tail ≡ 0 → prefix_len is_ascii_digit (whole ++ tail) ≡ length whole
digits_at_front [] tail digits e = e
digits_at_front (b ∷ whole) tail digits e =
    let both = both_true (is_ascii_digit b) (list_all is_ascii_digit whole) digits in
    let more = digits_at_front whole tail both.1 e in
    ap (λ test. cond test (1 + prefix_len is_ascii_digit (whole ++ tail)) 0) both.0 ∙ omega (arith, more)

split_at_tail : (negative : Bool) (whole tail : List ℕ) → list_all is_ascii_digit whole ≡ true → prefix_len is_ascii_digit tail ≡ 0 → unsigned_decimal_of negative (whole ++ tail) ≡ with_tail negative whole tail
split_at_tail negative whole tail digits e =
    let count : length (take_while is_ascii_digit (whole ++ tail)) ≡ length whole = length-prefix_len is_ascii_digit (whole ++ tail) ∙ digits_at_front whole tail digits e in
    ap (λ n. with_tail negative (take n (whole ++ tail)) (drop n (whole ++ tail))) count
    ∙ ap (λ z. with_tail negative z (drop (length whole) (whole ++ tail))) (take-append_seam whole tail) ∙ ap (λ z. with_tail negative whole z) (drop-append_seam whole tail)

abbrev HasNoSign : List ℕ → Type 0
HasNoSign [] = Unit {0}
HasNoSign (b ∷ bytes) = (b == 45) ≡ false

behind_sign : (negative : Bool) (bytes : List ℕ) → HasNoSign bytes → decimal_of (sign_of negative ++ bytes) ≡ unsigned_decimal_of negative bytes
unfolding decimal_of
behind_sign true bytes e = refl
behind_sign false [] e = refl
behind_sign false (b ∷ bytes) e = ap (λ test. if test then unsigned_decimal_of true bytes else unsigned_decimal_of false (b ∷ bytes)) e

digit_no_sign : (b : ℕ) → is_ascii_digit b ≡ true → (b == 45) ≡ false
digit_no_sign b h = grind (arith, nat_tests)

digits_no_sign : (whole tail : List ℕ) → list_all is_ascii_digit whole ≡ true → HasNoSign tail → HasNoSign (whole ++ tail)
digits_no_sign [] tail digits e = e
digits_no_sign (b ∷ whole) tail digits e = digit_no_sign b (both_true (is_ascii_digit b) (list_all is_ascii_digit whole) digits).0

tests_true : (all : Bool) (n m : ℕ) → all ≡ true → 0 < n + m → (46 == 46 && all && (nat_lt 0 n || nat_lt 0 m)) ≡ true
tests_true true n m e some = grind (arith, nat_tests)
tests_true false n m e some = cc

module _ (d : Decimal) (whole : list_all is_ascii_digit d.whole ≡ true) (places : list_all is_ascii_digit d.places ≡ true) (some : 0 < length d.whole + length d.places) where
  with_point : decimal_of (sign_of d.negative ++ (d.whole ++ 46 ∷ d.places)) ≡ Some d
  with_point =
      behind_sign d.negative (d.whole ++ 46 ∷ d.places) (digits_no_sign d.whole (46 ∷ d.places) whole refl)
      ∙ split_at_tail d.negative d.whole (46 ∷ d.places) whole refl
      ∙ ap (λ test. if test then Some d else None) (tests_true (list_all is_ascii_digit d.places) (length d.whole) (length d.places) places some)

  with_no_point : d.places ≡ [] → decimal_of (sign_of d.negative ++ d.whole) ≡ Some d
  with_no_point none =
      let count = ap length none in
      let digit : nat_lt 0 (length d.whole) ≡ true = let h : 0 < length d.whole = omega arith in grind (arith, nat_tests) in
      ap (λ z. decimal_of (sign_of d.negative ++ z)) (sym (append-nil d.whole))
      ∙ behind_sign d.negative (d.whole ++ []) (digits_no_sign d.whole [] whole tt)
      ∙ split_at_tail d.negative d.whole [] whole refl
      ∙ ap (λ test. if test then Some (record { negative = d.negative; whole = d.whole; places = [] }) else None) digit
      ∙ ap (λ z. Some (record { negative = d.negative; whole = d.whole; places = z })) (sym none)

spelled : (word : List ℕ) (d : Decimal) → Spells word d → decimal_of word ≡ Some d
spelled word d s =
    ⊎_elim (λ (text : word ≡ sign_of d.negative ++ (d.whole ++ 46 ∷ d.places)). ap decimal_of text ∙ with_point d s.whole s.places s.some)
    (λ (text : (word ≡ sign_of d.negative ++ d.whole) × (d.places ≡ [])). ap decimal_of text.0 ∙ with_no_point d s.whole s.places s.some text.1) s.text

pub decimal_spelled : (word : List ℕ) (d : Decimal) → (decimal_of word ≡ Some d) ↔ Spells word d
decimal_spelled word d = (spells word d, spelled word d)
