-- What the tokens of a text are, told place by place.
use Rattle.std.specs.Prelude.{◌≡◌, ◌≢◌, ⊤, ℕ, ◌+◌, ◌-◌, ◌<◌, ◌≤◌, ◌==◌, ◌&&◌, ◌||◌, ◌⊎◌, not, nat_le, Bool, true, false, List, [], ◌∷◌, length, All, Any, slice_index}
use Rattle.sp_lex.specs.declared.lexeme.TokenKind.{TokenKind}
use Rattle.sp_lex.specs.declared.lexeme.TokenKind.TheVariants.{LeftRound, RightRound, LeftSquare, RightSquare, Word, Primed, Mark}
use Rattle.sp_lex.specs.declared.lexeme.Token.{Token}
use Rattle.sp_lex.specs.Bytes.{is_word_byte, is_white}

-- a place in a comment: at it or before it in its line two slashes begin
pub record IsInComment (source : List ℕ) (place : ℕ) : Type 0 where
  pub start : ℕ
  pub before : start ≤ place
  pub slash : slice_index source start ≡ 47
  pub second_slash : slice_index source (start + 1) ≡ 47
  pub same_line : (k : ℕ) → start ≤ k → k ≤ place → slice_index source k ≢ 10

-- tab, LF, CR or 32 to 126
abbrev pub is_allowed : ℕ → Bool
is_allowed b = b == 9 || b == 10 || b == 13 || (nat_le 32 b && nat_le b 126)

-- a byte outside comments that is not allowed
pub record IsForbiddenByte (source : List ℕ) (place : ℕ) : Type 0 where
  pub within : place < length source
  pub byte : is_allowed (slice_index source place) ≡ false
  pub outside : ¬ IsInComment source place

-- the first such byte
pub record IsFirstForbidden (source : List ℕ) (place : ℕ) : Type 0 where
  pub here : IsForbiddenByte source place
  pub first : (k : ℕ) → k < place → ¬ IsForbiddenByte source k

-- white space or a comment
abbrev pub IsBetweenTokens : List ℕ → ℕ → Type 0
IsBetweenTokens source place = (is_white (slice_index source place) ≡ true) ⊎ IsInComment source place

-- a longest run of word bytes
pub record IsWordRun (source : List ℕ) (start end : ℕ) : Type 0 where
  pub some : start < end
  pub bytes : (k : ℕ) → start ≤ k → k < end → is_word_byte (slice_index source k) ≡ true
  pub starts : 0 < start → is_word_byte (slice_index source (start - 1)) ≡ false
  pub ends : is_word_byte (slice_index source end) ≡ false

-- a byte of 33 to 126 that is neither a word byte nor a bracket
abbrev pub is_mark : ℕ → Bool
is_mark b = nat_le 33 b && nat_le b 126 && not (is_word_byte b || b == 40 || b == 41 || b == 91 || b == 93)

-- what stands between two places is a token of that kind
abbrev pub IsOfKind : List ℕ → TokenKind → ℕ → ℕ → Type 0
IsOfKind source LeftRound start end = (slice_index source start ≡ 40) × (end ≡ start + 1)
IsOfKind source RightRound start end = (slice_index source start ≡ 41) × (end ≡ start + 1)
IsOfKind source LeftSquare start end = (slice_index source start ≡ 91) × (end ≡ start + 1)
IsOfKind source RightSquare start end = (slice_index source start ≡ 93) × (end ≡ start + 1)
IsOfKind source Word start end = IsWordRun source start end × (slice_index source end ≢ 39)
IsOfKind source Primed start end = IsWordRun source start (end - 1) × (slice_index source (end - 1) ≡ 39)
IsOfKind source Mark start end = (is_mark (slice_index source start) ≡ true) × (end ≡ start + 1)

-- a token of the text: its span is not empty, lies within the text and outside comments, and its bytes are of its kind
pub record IsTokenOf (source : List ℕ) (token : Token) : Type 0 where
  pub some : token.span.start < token.span.end
  pub within : token.span.end ≤ length source
  pub kind : IsOfKind source token.kind token.span.start token.span.end
  pub outside : (k : ℕ) → token.span.start ≤ k → k < token.span.end → ¬ IsInComment source k

-- the place lies in the token's span
abbrev pub IsInSpan : ℕ → Token → Type 0
IsInSpan place token = (token.span.start ≤ place) × (place < token.span.end)

-- spans rise and do not overlap: each begins at the end of the one before, or behind it
abbrev pub AreSpansRising : ℕ → List Token → Type 0
AreSpansRising end [] = ⊤
AreSpansRising end (token ∷ tokens) = (end ≤ token.span.start) × AreSpansRising token.span.end tokens

-- the tokens of a text: they rise, and what lies in none of their spans is white space or a comment
pub record IsCut (source : List ℕ) (tokens : List Token) : Type 0 where
  pub each : All (IsTokenOf source) tokens
  pub rising : AreSpansRising 0 tokens
  pub rest : (k : ℕ) → k < length source → Any (IsInSpan k) tokens ⊎ IsBetweenTokens source k
