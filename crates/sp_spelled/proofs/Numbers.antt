-- The words of numbers and of numbered names.
use Rattle.std.proofs.Common.{◌≡◌, ℕ, zero, suc, ◌+◌, ◌-◌, ◌/◌, ◌%◌, ◌^◌, ◌<◌, ◌≤◌, ◌&&◌, Bool, true, false, cond, List, [], ◌∷◌, ◌++◌, length, refl, sym, ap, ◌∙◌, subst, arith, length-append}
use Rattle.std.specs.Prelude.{ℤ, pos, unsigned_abs, int_lt, IsTrue, codes}
use Rattle.std.specs.List.{list_all}
use Rattle.std.specs.Char.{is_ascii_digit}
use Rattle.std.specs.Fmt.{decimal}
use Rattle.std.proofs.lemmas.Fmt.{decimal_is_IsNumeral}
use Rattle.std.proofs.lemmas.Bool.Decides.{nat_tests}
use Rattle.sp_lex.specs.Bytes.{is_word_byte}
use Rattle.sp_syntax.specs.declared.class.WordClass.TheVariants as the_word
use Rattle.sp_syntax.specs.declared.class.TokenClass.TheVariants as class
use Rattle.sp_syntax.specs.Classes.{word_class, section_keyword, inner_keyword}
use Rattle.sp_syntax.specs.Grammar.{is_number}
use Rattle.sp_show.specs.Decimals.{decimal_of, sign_text, nine_digits}
use Rattle.sp_spelled.specs.Signs.{IsWordText}
use Rattle.sp_spelled.specs.Words.{SpellsTicks, dd_name}
use Rattle.sp_spelled.specs.Written.{IsNameWord}
use Rattle.sp_spelled.proofs.Keywords.{word_bytes}
use Rattle.sp_spelled.proofs.Digits.{digits_are, zeros_digits, ticks_are}

word_byte : (b : ℕ) → is_ascii_digit b ≡ true → is_word_byte b ≡ true
word_byte b h = grind (arith, nat_tests)

all_word : (ds : List ℕ) → list_all is_ascii_digit ds ≡ true → list_all is_word_byte ds ≡ true
all_word [] h = refl
all_word (d ∷ ds) h = let p = both (is_ascii_digit d) (list_all is_ascii_digit ds) h in ap (λ b. b && list_all is_word_byte ds) (word_byte d p.0) ∙ all_word ds p.1
  where
    both : (x y : Bool) → (x && y) ≡ true → (x ≡ true) × (y ≡ true)
    both true y e = (refl, e)
    both false y e = cc

all_both : (p : ℕ → Bool) (xs ys : List ℕ) → list_all p xs ≡ true → list_all p ys ≡ true → list_all p (xs ++ ys) ≡ true
all_both p [] ys h k = k
all_both p (x ∷ xs) ys h k = go (p x) h (λ e. all_both p xs ys e k)
  where
    go : (b : Bool) → (b && list_all p xs) ≡ true → (list_all p xs ≡ true → list_all p (xs ++ ys) ≡ true) → (b && list_all p (xs ++ ys)) ≡ true
    go true e more = more e
    go false e more = cc

-- the digits of a number
pub number_digits : (n : ℕ) → n < 2 ^ 64 → list_all is_ascii_digit (decimal n) ≡ true
number_digits n l = let is = decimal_is_IsNumeral n l in digits_are (decimal n) is.0.1

-- a letter and the digits of a number
pub numbered_word : (letter n : ℕ) → is_word_byte letter ≡ true → n < 2 ^ 64 → IsWordText (letter ∷ decimal n)
numbered_word letter n h l = record { some = omega arith; bytes = word_bytes (letter ∷ decimal n) (ap (λ b. b && list_all is_word_byte (decimal n)) h ∙ all_word (decimal n) (number_digits n l)) }

dd_class : (k : ℕ) → word_class (dd_name k) ≡ the_word.Name
unfolding word_class section_keyword inner_keyword
dd_class k = refl

pub dd_name_word : (k : ℕ) → k < 2 ^ 64 → IsNameWord (dd_name k)
dd_name_word k l = record { text = numbered_word 110 k refl l; name = dd_class k }

-- a word that begins with a digit is a number
class_at : (j : ℕ) (bs : List ℕ) → j < 10 → word_class ((48 + j) ∷ bs) ≡ the_word.Number
unfolding word_class section_keyword inner_keyword
class_at zero bs l = refl
class_at (suc zero) bs l = refl
class_at (suc (suc zero)) bs l = refl
class_at (suc (suc (suc zero))) bs l = refl
class_at (suc (suc (suc (suc zero)))) bs l = refl
class_at (suc (suc (suc (suc (suc zero))))) bs l = refl
class_at (suc (suc (suc (suc (suc (suc zero)))))) bs l = refl
class_at (suc (suc (suc (suc (suc (suc (suc zero))))))) bs l = refl
class_at (suc (suc (suc (suc (suc (suc (suc (suc zero)))))))) bs l = refl
class_at (suc (suc (suc (suc (suc (suc (suc (suc (suc zero))))))))) bs l = refl
class_at (suc (suc (suc (suc (suc (suc (suc (suc (suc (suc j)))))))))) bs l = absurd (omega arith)

number_class : (b : ℕ) (bs : List ℕ) → is_ascii_digit b ≡ true → word_class (b ∷ bs) ≡ the_word.Number
number_class b bs h =
    let low : 48 ≤ b = grind (arith, nat_tests) in
    let high : b ≤ 57 = grind (arith, nat_tests) in
    let same : 48 + (b - 48) ≡ b = omega arith in
    ap (λ c. word_class (c ∷ bs)) (sym same) ∙ class_at (b - 48) bs (omega arith)

minus_class : (b : ℕ) (bs : List ℕ) → word_class (45 ∷ b ∷ bs) ≡ the_word.Number
unfolding word_class section_keyword inner_keyword
minus_class b bs = refl

-- a number's word, with its sign or without
shown_class : (negative : Bool) (ds rest : List ℕ) → 0 < length ds → list_all is_ascii_digit ds ≡ true → word_class (cond negative (codes "-") [] ++ (ds ++ rest)) ≡ the_word.Number
shown_class negative [] rest some h = absurd (omega arith)
shown_class true (d ∷ ds) rest some h = minus_class d (ds ++ rest)
shown_class false (d ∷ ds) rest some h = number_class d (ds ++ rest) (first (is_ascii_digit d) (list_all is_ascii_digit ds) h)
  where
    first : (x y : Bool) → (x && y) ≡ true → x ≡ true
    first true y e = refl
    first false y e = cc

sign_word : (negative : Bool) → list_all is_word_byte (cond negative (codes "-") []) ≡ true
sign_word true = refl
sign_word false = refl

told_word : (z : ℤ) (w f : ℕ) → w < 2 ^ 64 → f < 2 ^ 64 → list_all is_word_byte (sign_text z ++ (decimal w ++ (codes "." ++ nine_digits f))) ≡ true
told_word z w f lw lf =
    let places : list_all is_ascii_digit (nine_digits f) ≡ true = zeros_digits (9 - length (decimal f)) (decimal f) (number_digits f lf) in
    all_both is_word_byte (sign_text z) (decimal w ++ (codes "." ++ nine_digits f)) (sign_word (int_lt z (pos 0)))
    (all_both is_word_byte (decimal w) (codes "." ++ nine_digits f) (all_word (decimal w) (number_digits w lw)) (all_word (nine_digits f) places))

-- the decimal of a number of ticks is a word for it
pub decimal_spells : (z : ℤ) → unsigned_abs z ≤ 10 ^ 18 → SpellsTicks (decimal_of z) z
unfolding decimal_of
decimal_spells z l =
    let lw : unsigned_abs z / 1000000000 < 2 ^ 64 = omega arith in
    let lf : unsigned_abs z % 1000000000 < 2 ^ 64 = omega arith in
    let some : 0 < length (decimal (unsigned_abs z / 1000000000)) = (decimal_is_IsNumeral (unsigned_abs z / 1000000000) lw).0.0 in
    let long = length-append (sign_text z) (decimal (unsigned_abs z / 1000000000) ++ (codes "." ++ nine_digits (unsigned_abs z % 1000000000))) in
    let more = length-append (decimal (unsigned_abs z / 1000000000)) (codes "." ++ nine_digits (unsigned_abs z % 1000000000)) in
    record {
      text = record { some = omega arith; bytes = word_bytes (decimal_of z) (told_word z (unsigned_abs z / 1000000000) (unsigned_abs z % 1000000000) lw lf) };
      number = subst (λ c. IsTrue (is_number (class.Word c))) (sym (shown_class (int_lt z (pos 0)) (decimal (unsigned_abs z / 1000000000)) (codes "." ++ nine_digits (unsigned_abs z % 1000000000)) some (number_digits (unsigned_abs z / 1000000000) lw))) refl;
      ticks = ticks_are z l;
    }
