-- A text as its tokens are spelled, without places.
use Rattle.std.specs.Prelude.{◌≡◌, ℕ, ◌-◌, ◌<◌, List, [], ◌∷◌, ◌++◌, length, All, IsTrue, Ok}
use Rattle.sp_lex.specs.declared.lexeme.Span.{Span}
use Rattle.sp_lex.specs.declared.lexeme.Token.{Token}
use Rattle.sp_lex.specs.Bytes.{is_word_byte}
use Rattle.sp_lex.specs.Tokens.{tokens_of}
use Rattle.sp_syntax.specs.declared.class.TokenClass.{TokenClass}
use Rattle.sp_syntax.specs.declared.class.TokenClass.TheVariants as class
use Rattle.sp_syntax.specs.declared.class.Classed.{Classed}
use Rattle.sp_syntax.specs.Classes.{text_of, word_class, primed_class, classes}

-- a token: a bracket, a mark of a list, or a word, primed or not
pub data Sign : Type 0 where
  opens : Sign
  closes : Sign
  left_square : Sign
  right_square : Sign
  plus : Sign
  star : Sign
  word : List ℕ → Sign
  primed : List ℕ → Sign

-- what stands behind it: nothing, a space, or a line's end
pub data Gap : Type 0 where
  tight : Gap
  space : Gap
  line : Gap

-- white space
abbrev pub IsWhite : Gap → Type 0
IsWhite tight = ⊥
IsWhite space = Unit {0}
IsWhite line = Unit {0}

pub record Spelled : Type 0 where
  pub sign : Sign
  pub gap : Gap

abbrev pub sign_bytes : Sign → List ℕ
sign_bytes opens = 40 ∷ []
sign_bytes closes = 41 ∷ []
sign_bytes left_square = 91 ∷ []
sign_bytes right_square = 93 ∷ []
sign_bytes plus = 43 ∷ []
sign_bytes star = 42 ∷ []
sign_bytes (word w) = w
sign_bytes (primed w) = w ++ 39 ∷ []

abbrev pub gap_bytes : Gap → List ℕ
gap_bytes tight = []
gap_bytes space = 32 ∷ []
gap_bytes line = 10 ∷ []

-- the text
abbrev pub text_of_signs : List Spelled → List ℕ
text_of_signs [] = []
text_of_signs (s ∷ ss) = sign_bytes s.sign ++ (gap_bytes s.gap ++ text_of_signs ss)

-- some word bytes
pub record IsWordText (w : List ℕ) : Type 0 where
  pub some : 0 < length w
  pub bytes : All (λ b. IsTrue (is_word_byte b)) w

abbrev pub IsSign : Sign → Type 0
IsSign (word w) = IsWordText w
IsSign (primed w) = IsWordText w
IsSign _ = Unit {0}

-- what may stand directly behind a word: a bracket or a mark
abbrev pub IsNoWord : Sign → Type 0
IsNoWord (word w) = ⊥
IsNoWord (primed w) = ⊥
IsNoWord _ = Unit {0}

abbrev pub IsWordEnd : List Spelled → Type 0
IsWordEnd [] = ⊥
IsWordEnd (s ∷ ss) = IsNoWord s.sign

-- a word without a gap ends where no word begins
abbrev pub IsApart : Sign → Gap → List Spelled → Type 0
IsApart (word w) tight ss = IsWordEnd ss
IsApart _ _ ss = Unit {0}

-- each token ends where the next one begins
abbrev pub IsSpaced : List Spelled → Type 0
IsSpaced [] = Unit {0}
IsSpaced (s ∷ ss) = IsSign s.sign × IsApart s.sign s.gap ss × IsSpaced ss

-- ---- what is read
abbrev pub sign_class : Sign → TokenClass
sign_class opens = class.Open
sign_class closes = class.Close
sign_class left_square = class.LeftSquare
sign_class right_square = class.RightSquare
sign_class plus = class.Plus
sign_class star = class.Star
sign_class (word w) = class.Word (word_class w)
sign_class (primed w) = primed_class w

-- a span without its last byte
abbrev pub span_without_last : Span → Span
span_without_last span = record { start = span.start; end = span.end - 1 }

-- the span's word is that of the sign
abbrev pub SpanSays : List ℕ → Span → Sign → Type 0
SpanSays source span (word w) = text_of source span ≡ w
SpanSays source span (primed w) = text_of source (span_without_last span) ≡ w
SpanSays source span _ = Unit {0}

-- the token is that sign in the source
pub record IsSpelled (source : List ℕ) (t : Classed) (s : Sign) : Type 0 where
  pub class : t.class ≡ sign_class s
  pub says : SpanSays source t.span s

-- the tokens are those signs
abbrev pub AreSpelled : List ℕ → List Classed → List Spelled → Type 0
AreSpelled source [] [] = Unit {0}
AreSpelled source [] (s ∷ ss) = ⊥
AreSpelled source (t ∷ ts) [] = ⊥
AreSpelled source (t ∷ ts) (s ∷ ss) = IsSpelled source t s.sign × AreSpelled source ts ss

-- the source has tokens, which are those signs
pub record Lexes (source : List ℕ) (ss : List Spelled) : Type 0 where
  pub tokens : List Token
  pub lexed : tokens_of source ≡ Ok tokens
  pub spelled : AreSpelled source (classes source tokens) ss
