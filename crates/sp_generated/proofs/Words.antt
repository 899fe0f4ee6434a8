-- The words of a generated text.
use Rattle.std.proofs.Common.{◌≡◌, ℕ, zero, suc, ◌^◌, ◌<◌, true, List, ◌∷◌, length, get_or, Ok, refl, arith}
use Rattle.std.specs.Fmt.{decimal}
use Rattle.std.specs.Prelude.{ℤ, pos, IsTrue, codes}
use Rattle.std.specs.List.{list_all}
use Rattle.sp_lex.specs.Bytes.{is_word_byte}
use Rattle.sp_lex.specs.Decimal.{ticks_of, decimal_of, number_of_first}
use Rattle.sp_syntax.specs.declared.class.TokenClass.TheVariants as class
use Rattle.sp_syntax.specs.Classes.{word_class, section_keyword, inner_keyword}
use Rattle.sp_syntax.specs.Grammar.{is_number}
use Rattle.sp_spelled.specs.Signs.{IsWordText}
use Rattle.sp_spelled.specs.Words.{SpellsTicks}
use Rattle.sp_spelled.specs.Written.{IsNameWord}
use Rattle.sp_spelled.proofs.Keywords.{word_bytes}
use Rattle.sp_spelled.proofs.Numbers.{numbered_word}
use Rattle.sp_written.specs.Meanings.{AreNamesFrom}
use Rattle.sp_generated.specs.Signs.{variable_name, set_name, two_values}

pub word_text : (w : List ℕ) → 0 < length w → list_all is_word_byte w ≡ true → IsWordText w
word_text w some bytes = record { some = some; bytes = word_bytes w bytes }

-- ---- names
pub variable_word : (i : ℕ) → i < 2 ^ 64 → IsNameWord (variable_name i)
unfolding word_class section_keyword inner_keyword
variable_word i l = record { text = numbered_word 120 i refl l; name = refl }

pub two_numbered : AreNamesFrom two_values 0 two_values
two_numbered = (word_text (codes "off") (omega arith) refl, refl, (word_text (codes "on") (omega arith) refl, refl, tt))

pub hint_word : IsNameWord (codes "hint")
unfolding word_class section_keyword inner_keyword
hint_word = record { text = word_text (codes "hint") (omega arith) refl; name = refl }

pub blind_word : IsNameWord (codes "blind")
unfolding word_class section_keyword inner_keyword
blind_word = record { text = word_text (codes "blind") (omega arith) refl; name = refl }

pub look_word : IsNameWord (codes "look")
unfolding word_class section_keyword inner_keyword
look_word = record { text = word_text (codes "look") (omega arith) refl; name = refl }

pub fix_word : IsNameWord (codes "fix")
unfolding word_class section_keyword inner_keyword
fix_word = record { text = word_text (codes "fix") (omega arith) refl; name = refl }

longer : (b : ℕ) (w : List ℕ) → is_word_byte b ≡ true → IsWordText w → IsWordText (b ∷ w)
longer b w h t = record { some = omega arith; bytes = λ k d l. go k d l }
  where
    go : (k : ℕ) (d : ℕ) → k < length (b ∷ w) → IsTrue (is_word_byte (get_or (b ∷ w) k d))
    go zero d l = h
    go (suc k) d l = t.bytes k d (omega arith)

pub set_word : (i : ℕ) → i < 2 ^ 64 → IsNameWord (set_name i)
unfolding word_class section_keyword inner_keyword
set_word i l = record { text = longer 115 (101 ∷ 116 ∷ decimal i) refl (longer 101 (116 ∷ decimal i) refl (numbered_word 116 i refl l)); name = refl }

-- ---- numbers
spelled : (w : List ℕ) (z : ℤ) → 0 < length w → list_all is_word_byte w ≡ true → IsTrue (is_number (class.Word (word_class w))) → ticks_of w ≡ Ok z → SpellsTicks w z
spelled w z some bytes number ticks = record { text = word_text w some bytes; number = number; ticks = ticks }

pub spells_zero : SpellsTicks (codes "0.0") (pos 0)
unfolding word_class section_keyword inner_keyword ticks_of decimal_of number_of_first
spells_zero = spelled (codes "0.0") (pos 0) (omega arith) refl refl refl

pub spells_one : SpellsTicks (codes "1.0") (pos 1000000000)
unfolding word_class section_keyword inner_keyword ticks_of decimal_of number_of_first
spells_one = spelled (codes "1.0") (pos 1000000000) (omega arith) refl refl refl

pub spells_five : SpellsTicks (codes "5.0") (pos 5000000000)
unfolding word_class section_keyword inner_keyword ticks_of decimal_of number_of_first
spells_five = spelled (codes "5.0") (pos 5000000000) (omega arith) refl refl refl

pub spells_half : SpellsTicks (codes "0.5") (pos 500000000)
unfolding word_class section_keyword inner_keyword ticks_of decimal_of number_of_first
spells_half = spelled (codes "0.5") (pos 500000000) (omega arith) refl refl refl

pub spells_tenth : SpellsTicks (codes "0.1") (pos 100000000)
unfolding word_class section_keyword inner_keyword ticks_of decimal_of number_of_first
spells_tenth = spelled (codes "0.1") (pos 100000000) (omega arith) refl refl refl

pub spells_nine_tenths : SpellsTicks (codes "0.9") (pos 900000000)
unfolding word_class section_keyword inner_keyword ticks_of decimal_of number_of_first
spells_nine_tenths = spelled (codes "0.9") (pos 900000000) (omega arith) refl refl refl

pub spells_right : SpellsTicks (codes "0.85") (pos 850000000)
unfolding word_class section_keyword inner_keyword ticks_of decimal_of number_of_first
spells_right = spelled (codes "0.85") (pos 850000000) (omega arith) refl refl refl

pub spells_wrong : SpellsTicks (codes "0.15") (pos 150000000)
unfolding word_class section_keyword inner_keyword ticks_of decimal_of number_of_first
spells_wrong = spelled (codes "0.15") (pos 150000000) (omega arith) refl refl refl

pub spells_discount : SpellsTicks (codes "0.95") (pos 950000000)
unfolding word_class section_keyword inner_keyword ticks_of decimal_of number_of_first
spells_discount = spelled (codes "0.95") (pos 950000000) (omega arith) refl refl refl
