-- The bytes of a model text.
use Rattle.std.specs.Prelude.{ℕ, ◌==◌, ◌&&◌, ◌||◌, not, Bool, false, List, Option, Some, None, if◌then◌else◌, nat_le, slice_get}
use Rattle.std.specs.Char.{is_ascii_alphanumeric}
use Rattle.sp_lex.specs.declared.lexeme.TokenKind.TheVariants.{LeftRound, RightRound, LeftSquare, RightSquare, Mark}
use Rattle.sp_lex.specs.declared.lexer.ByteClass.{ByteClass}
use Rattle.sp_lex.specs.declared.lexer.ByteClass.TheVariants.{InWord, Slash, White, Single, Forbidden}

-- an ASCII letter or digit, '_', '-' or '.'
abbrev pub is_word_byte : ℕ → Bool
is_word_byte b = is_ascii_alphanumeric b || b == 95 || b == 45 || b == 46

-- a space, a tab, LF or CR
abbrev pub is_white : ℕ → Bool
is_white b = b == 32 || b == 9 || b == 10 || b == 13

-- any byte but LF
abbrev pub is_not_line_feed : ℕ → Bool
is_not_line_feed b = not (b == 10)

-- what a byte begins outside of comments
unfoldable pub class_of : ℕ → ByteClass
class_of b =
    if is_word_byte b then InWord
    else (if b == 47 then Slash
    else (if is_white b then White
    else (if b == 40 then Single LeftRound
    else (if b == 41 then Single RightRound
    else (if b == 91 then Single LeftSquare
    else (if b == 93 then Single RightSquare
    else (if nat_le 33 b && nat_le b 126 then Single Mark
    else Forbidden)))))))

-- there is a byte, and it is that one
abbrev pub is_byte : ℕ → Option ℕ → Bool
is_byte b None = false
is_byte b (Some c) = c == b

-- the byte at a place is that one
abbrev pub has_byte : List ℕ → ℕ → ℕ → Bool
has_byte bytes place b = is_byte b (slice_get bytes place)
