-- The tokens of a text.
use Rattle.std.specs.Prelude.{◌≡◌, ⊤, ℕ, zero, suc, ◌+◌, ◌-◌, List, [], ◌∷◌, ◌++◌, length, drop, take_while, Option, Some, None, Result, Ok, Err, if◌then◌else◌, slice_index}
use Rattle.sp_lex.specs.declared.lexeme.TokenKind.{TokenKind}
use Rattle.sp_lex.specs.declared.lexeme.TokenKind.TheVariants.{Word, Primed, Mark}
use Rattle.sp_lex.specs.declared.lexeme.Token.{Token}
use Rattle.sp_lex.specs.declared.lexer.Piece.{Piece}
use Rattle.sp_lex.specs.declared.lexer.ByteClass.{ByteClass}
use Rattle.sp_lex.specs.declared.lexer.ByteClass.TheVariants.{InWord, Slash, White, Single, Forbidden}
use Rattle.sp_lex.specs.declared.lexer.LexError.{LexError}
use Rattle.sp_lex.specs.declared.lexer.LexError.TheVariants.{NotAscii, NoMemory}
use Rattle.sp_lex.specs.Bytes.{is_word_byte, is_not_line_feed, class_of, has_byte}

-- so many bytes that are a token
abbrev pub token_piece : ℕ → TokenKind → Option Piece
token_piece n kind = Some (record { len = n; kind = Some kind })

-- so many bytes between tokens
abbrev pub gap_piece : ℕ → Option Piece
gap_piece n = Some (record { len = n; kind = None })

-- a word of so many bytes, with the quote where one follows
abbrev pub word_piece : List ℕ → ℕ → Option Piece
word_piece bytes n = if has_byte bytes n 39 then token_piece (n + 1) Primed else token_piece n Word

-- what stands at the front, whose first byte is of that class: a longest word, primed or not, a comment up to its line's end, or a single byte; none where that byte is not allowed
abbrev pub piece_by : ByteClass → List ℕ → Option Piece
piece_by InWord bytes = word_piece bytes (1 + length (take_while is_word_byte (drop 1 bytes)))
piece_by Slash bytes =
    if has_byte bytes 1 47 then gap_piece (2 + length (take_while is_not_line_feed (drop 2 bytes))) else token_piece 1 Mark
piece_by White bytes = gap_piece 1
piece_by (Single kind) bytes = token_piece 1 kind
piece_by Forbidden bytes = None

-- what stands at the front
unfoldable pub piece_of : List ℕ → Option Piece
piece_of bytes = piece_by (class_of (slice_index bytes 0)) bytes

-- the token of a piece between two places, if it is one
abbrev pub token_of : Option TokenKind → ℕ → ℕ → List Token
token_of None start end = []
token_of (Some kind) start end = record { kind = kind; span = record { start = start; end = end } } ∷ []

-- tokens in front of those that were read
abbrev pub behind : List Token → Result (List Token) ℕ → Result (List Token) ℕ
behind front (Ok tokens) = Ok (front ++ tokens)
behind front (Err place) = Err place

-- the piece at a place, and what is read behind its first byte, which is told how many more bytes the piece has
abbrev pub from_piece : ℕ → Option Piece → (ℕ → Result (List Token) ℕ) → Result (List Token) ℕ
from_piece at None more = Err at
from_piece at (Some piece) more = behind (token_of piece.kind at (at + piece.len)) (more (piece.len - 1))

-- The tokens of the bytes from a place on, or the place of the first byte that is not allowed. The second number says how many of the bytes belong to the piece before.
unfoldable pub tokens_from : ℕ → ℕ → List ℕ → Result (List Token) ℕ
tokens_from at skip [] = Ok []
tokens_from at zero (b ∷ bytes) = from_piece at (piece_of (b ∷ bytes)) (λ more. tokens_from (at + 1) more bytes)
tokens_from at (suc skip) (b ∷ bytes) = tokens_from (at + 1) skip bytes

-- the tokens of a text, or the place of the first byte outside comments that is not allowed
abbrev pub tokens_of : List ℕ → Result (List Token) ℕ
tokens_of source = tokens_from 0 0 source

-- an error says why the text has no tokens, or that memory is out
abbrev pub RefusesBytes : Result (List Token) ℕ → LexError → Type 0
RefusesBytes read (NotAscii at) = read ≡ Err at
RefusesBytes read NoMemory = ⊤
