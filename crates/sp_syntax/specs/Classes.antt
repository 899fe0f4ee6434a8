-- What each token is to the grammar.
use Rattle.std.specs.Prelude.{◌≤◌, ℕ, ◌-◌, ◌==◌, ◌||◌, List, [], ◌∷◌, length, map, Option, Some, None, if◌then◌else◌, slice_range, codes}
use Rattle.std.specs.Char.{is_ascii_alphabetic}
use Rattle.std.specs.Str.{bytes_eq}
use Rattle.sp_lex.specs.declared.lexeme.Span.{Span}
use Rattle.sp_lex.specs.declared.lexeme.Token.{Token}
use Rattle.sp_lex.specs.declared.lexeme.TokenKind.{TokenKind}
use Rattle.sp_lex.specs.declared.lexeme.TokenKind.TheVariants as kind
use Rattle.sp_syntax.specs.declared.class.WordClass.{WordClass}
use Rattle.sp_syntax.specs.declared.class.WordClass.TheVariants as word
use Rattle.sp_syntax.specs.declared.class.TokenClass.{TokenClass}
use Rattle.sp_syntax.specs.declared.class.TokenClass.TheVariants as class
use Rattle.sp_syntax.specs.declared.class.Classed.{Classed}

-- the span lies in a source of so many bytes
pub record IsSpanWithin (len : ℕ) (span : Span) : Type 0 where
  pub rises : span.start ≤ span.end
  pub fits : span.end ≤ len

-- the bytes of a span
abbrev pub text_of : List ℕ → Span → List ℕ
text_of source span = slice_range source span.start span.end

-- the keyword that begins a section, where the word is one
unfoldable pub section_keyword : List ℕ → Option WordClass
section_keyword w =
    if bytes_eq w (codes "init") then Some word.Init
    else (if bytes_eq w (codes "dd") then Some word.Dd
    else (if bytes_eq w (codes "action") then Some word.Action
    else (if bytes_eq w (codes "reward") then Some word.Reward
    else (if bytes_eq w (codes "discount") then Some word.Discount
    else (if bytes_eq w (codes "horizon") then Some word.Horizon
    else (if bytes_eq w (codes "tolerance") then Some word.Tolerance
    else (if bytes_eq w (codes "unnormalized") then Some word.Unnormalized
    else None)))))))

-- any other keyword, where the word is one
unfoldable pub inner_keyword : List ℕ → Option WordClass
inner_keyword w =
    if bytes_eq w (codes "variables") then Some word.Variables
    else (if bytes_eq w (codes "observations") then Some word.Observations
    else (if bytes_eq w (codes "enddd") then Some word.EndDd
    else (if bytes_eq w (codes "endaction") then Some word.EndAction
    else (if bytes_eq w (codes "observe") then Some word.Observe
    else (if bytes_eq w (codes "endobserve") then Some word.EndObserve
    else (if bytes_eq w (codes "cost") then Some word.Cost
    else None))))))

abbrev pub or_else : Option WordClass → WordClass → WordClass
or_else (Some k) other = k
or_else None other = other

-- a word that is no keyword: a name where it begins with a letter or '_', else a number
abbrev pub plain_class : List ℕ → WordClass
plain_class [] = word.Number
plain_class (b ∷ bs) =
    if is_ascii_alphabetic b || b == 95 then word.Name
    else (if bytes_eq (b ∷ bs) (codes "-") then word.Minus
    else word.Number)

-- the class of a word
unfoldable pub word_class : List ℕ → WordClass
word_class w = or_else (section_keyword w) (or_else (inner_keyword w) (plain_class w))

abbrev pub primed_by : WordClass → TokenClass
primed_by word.Name = class.Primed
primed_by _ = class.Other

-- the class of a primed word, given without its quote: only names are primed
unfoldable pub primed_class : List ℕ → TokenClass
primed_class w = primed_by (word_class w)

abbrev pub mark_by : ℕ → TokenClass
mark_by b =
    if b == 43 then class.Plus
    else (if b == 42 then class.Star
    else (if b == 35 then class.Hash
    else (if b == 47 then class.Slash
    else class.Other)))

-- the class of a mark: '+', '*', '#', '/' or another
unfoldable pub mark_class : List ℕ → TokenClass
mark_class (b ∷ []) = mark_by b
mark_class _ = class.Other

-- a text without its last byte
abbrev pub without_last : List ℕ → List ℕ
without_last text = slice_range text 0 (length text - 1)

abbrev pub class_by : TokenKind → List ℕ → TokenClass
class_by kind.LeftRound text = class.Open
class_by kind.RightRound text = class.Close
class_by kind.LeftSquare text = class.LeftSquare
class_by kind.RightSquare text = class.RightSquare
class_by kind.Word text = class.Word (word_class text)
class_by kind.Primed text = primed_class (without_last text)
class_by kind.Mark text = mark_class text

-- the class of a token of the source
unfoldable pub class_of : List ℕ → Token → TokenClass
class_of source token = class_by token.kind (text_of source token.span)

abbrev pub with_class : List ℕ → Token → Classed
with_class source token = record { class = class_of source token; span = token.span }

-- the tokens of the source, each with its class
abbrev pub classes : List ℕ → List Token → List Classed
classes source tokens = map (with_class source) tokens
