-- Facts on the bytes of a model text.
use Rattle.std.proofs.Common.{◌≡◌, ◌≢◌, ℕ, ◌==◌, ◌&&◌, Bool, true, false, refl, arith}
use Rattle.std.specs.Prelude.{if◌then◌else◌, nat_le}
use Rattle.std.proofs.lemmas.Bool.Decides.{nat_tests}
use Rattle.sp_lex.specs.declared.lexeme.TokenKind.{TokenKind}
use Rattle.sp_lex.specs.declared.lexeme.TokenKind.TheVariants.{LeftRound, RightRound, LeftSquare, RightSquare, Word, Primed, Mark}
use Rattle.sp_lex.specs.declared.lexer.ByteClass.{ByteClass}
use Rattle.sp_lex.specs.declared.lexer.ByteClass.TheVariants.{InWord, Slash, White, Single, Forbidden}
use Rattle.sp_lex.specs.Bytes.{is_word_byte, is_white, class_of}
use Rattle.sp_lex.specs.Places.{is_allowed, is_mark}

-- bytes that a test tells apart are not equal
pub differ : (test : ℕ → Bool) (b c : ℕ) → test b ≡ true → test c ≡ false → b ≢ c
differ test b c holds fails e = cc

pub word_byte_allowed : (b : ℕ) → is_word_byte b ≡ true → is_allowed b ≡ true
word_byte_allowed b h = grind (arith, nat_tests)

pub white_allowed : (b : ℕ) → is_white b ≡ true → is_allowed b ≡ true
white_allowed b h = grind (arith, nat_tests)

pub white_not_word : (b : ℕ) → is_white b ≡ true → is_word_byte b ≡ false
white_not_word b h = grind (arith, nat_tests)

pub mark_allowed : (b : ℕ) → is_mark b ≡ true → is_allowed b ≡ true
mark_allowed b h = grind (arith, nat_tests)

pub mark_not_word : (b : ℕ) → is_mark b ≡ true → is_word_byte b ≡ false
mark_not_word b h = grind (arith, nat_tests)

pub mark_not_white : (b : ℕ) → is_mark b ≡ true → is_white b ≡ false
mark_not_white b h = grind (arith, nat_tests)

pub word_byte_not_white : (b : ℕ) → is_word_byte b ≡ true → is_white b ≡ false
word_byte_not_white b h = grind (arith, nat_tests)

-- the kind of a token of one byte
abbrev pub kind_of_byte : ℕ → TokenKind
kind_of_byte b = if b == 40 then LeftRound else (if b == 41 then RightRound else (if b == 91 then LeftSquare else (if b == 93 then RightSquare else Mark)))

pub mark_kind : (b : ℕ) → is_mark b ≡ true → kind_of_byte b ≡ Mark
mark_kind b h = grind (arith, nat_tests)

-- what the byte of a token of one byte is; a slash has a class of its own
abbrev pub SingleFacts : TokenKind → ℕ → Type 0
SingleFacts LeftRound b = b ≡ 40
SingleFacts RightRound b = b ≡ 41
SingleFacts LeftSquare b = b ≡ 91
SingleFacts RightSquare b = b ≡ 93
SingleFacts Word b = ⊥
SingleFacts Primed b = ⊥
SingleFacts Mark b = (is_mark b ≡ true) × (b ≢ 47)

abbrev pub ClassFacts : ByteClass → ℕ → Type 0
ClassFacts InWord b = is_word_byte b ≡ true
ClassFacts Slash b = b ≡ 47
ClassFacts White b = is_white b ≡ true
ClassFacts (Single kind) b = SingleFacts kind b
ClassFacts Forbidden b = is_allowed b ≡ false

by_test : (test : Bool) (b : ℕ) (x y : ByteClass) → (test ≡ true → ClassFacts x b) → (test ≡ false → ClassFacts y b) → ClassFacts (if test then x else y) b
by_test true b x y then_x else_y = then_x refl
by_test false b x y then_x else_y = else_y refl

pub class_facts : (b : ℕ) → ClassFacts (class_of b) b
unfolding class_of
class_facts b =
    by_test (is_word_byte b) b _ _ (λ h. h) (λ word.
    by_test (b == 47) b _ _ (λ h. grind (arith, nat_tests)) (λ slash.
    by_test (is_white b) b _ _ (λ h. h) (λ white.
    by_test (b == 40) b _ _ (λ h. grind (arith, nat_tests)) (λ left_round.
    by_test (b == 41) b _ _ (λ h. grind (arith, nat_tests)) (λ right_round.
    by_test (b == 91) b _ _ (λ h. grind (arith, nat_tests)) (λ left_square.
    by_test (b == 93) b _ _ (λ h. grind (arith, nat_tests)) (λ right_square.
    by_test (nat_le 33 b && nat_le b 126) b _ _
    (λ h. (grind (arith, nat_tests), λ e. grind (arith, nat_tests)))
    (λ h. grind (arith, nat_tests)))))))))
