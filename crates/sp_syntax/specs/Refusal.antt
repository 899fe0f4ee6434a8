-- Where a text first goes wrong, in the grammar's words.
use Rattle.std.specs.Prelude.{◌≡◌, ⊤, ℕ, zero, suc, List, [], ◌∷◌, ◌++◌, ◌⊎◌, Bool, true, false, IsTrue, Option, Some, None, Result, Ok, Err}
use Rattle.sp_syntax.specs.declared.class.WordClass.TheVariants as word
use Rattle.sp_syntax.specs.declared.class.TokenClass.{TokenClass}
use Rattle.sp_syntax.specs.declared.class.TokenClass.TheVariants as class
use Rattle.sp_syntax.specs.declared.class.Classed.{Classed}
use Rattle.sp_syntax.specs.declared.error.SyntaxKind.{SyntaxKind}
use Rattle.sp_syntax.specs.declared.error.SyntaxKind.TheVariants as kind
use Rattle.sp_syntax.specs.declared.error.SyntaxError.{SyntaxError}
use Rattle.sp_syntax.specs.declared.error.SyntaxError.TheVariants as error
use Rattle.sp_syntax.specs.declared.text.Text.{Text}
use Rattle.sp_syntax.specs.Fault.{Fault}
use Rattle.sp_syntax.specs.Grammar.{IsText, InGrammar, IsViable, IsA, IsKeyword}

abbrev pub fewer : ℕ → Option ℕ
fewer zero = None
fewer (suc n) = Some n

abbrev pub leave_by : TokenClass → ℕ → Option ℕ
leave_by class.Open n = fewer n
leave_by class.LeftSquare n = fewer n
leave_by class.Close n = Some (suc n)
leave_by class.RightSquare n = Some (suc n)
leave_by _ n = Some n

-- how many brackets may still be opened once a token of the class is read; None where it opens one too many
abbrev pub leave : ℕ → TokenClass → Option ℕ
leave n c = leave_by c n

abbrev pub room_then : (ℕ → Option ℕ) → Option ℕ → Option ℕ
room_then k None = None
room_then k (Some n) = k n

-- how many brackets may still be opened behind the tokens, where n may be before them; None where one too many is opened
abbrev pub room : ℕ → List Classed → Option ℕ
room n [] = Some n
room n (t ∷ ts) = room_then (λ m. room m ts) (leave n t.class)

-- no bracket is the 129th open one
abbrev pub IsShallow : List Classed → Type 0
IsShallow ts = (n : ℕ) × (room 128 ts ≡ Some n)

abbrev pub is_unsupported_mark : TokenClass → Bool
is_unsupported_mark class.Hash = true
is_unsupported_mark class.Slash = true
is_unsupported_mark (class.Word word.Minus) = true
is_unsupported_mark _ = false

-- the last of the tokens is "["
abbrev pub EndsInSquare : List Classed → Type 0
EndsInSquare front = (before : List Classed) × (b : Classed) × IsA class.LeftSquare b × (front ≡ before ++ (b ∷ []))

-- behind these tokens, the token is refused by its name: "unnormalized" in a section's place, or "#", "-" or "/" directly behind "["
abbrev pub IsUnsupported : List Classed → Classed → Type 0
IsUnsupported front t = (IsKeyword word.Unnormalized t × InGrammar front) ⊎ (IsTrue (is_unsupported_mark t.class) × EndsInSquare front)

-- the kind of a fault at the end of the source
abbrev pub end_kind : List Classed → SyntaxKind
end_kind [] = kind.Unexpected
end_kind (t ∷ ts) = kind.Unclosed

-- What stops reading behind a front, with the tokens that are left. At the end: the front is no text. At a token: nothing that goes on with it is a text, or it opens one bracket too many.
abbrev pub StopsAt : ℕ → List Classed → List Classed → Fault → Type 0
StopsAt end front [] f = (InGrammar front → ⊥) × (f.at ≡ end) × (f.kind ≡ end_kind front)
StopsAt end front (t ∷ back) f =
    ((IsViable (front ++ (t ∷ [])) → ⊥) × (f.at ≡ t.span.start)
    × ((IsUnsupported front t × (f.kind ≡ kind.Unsupported)) ⊎ ((IsUnsupported front t → ⊥) × (f.kind ≡ kind.Unexpected))))
    ⊎ (IsViable (front ++ (t ∷ [])) × (room 128 (front ++ (t ∷ [])) ≡ None) × (f.at ≡ t.span.start) × (f.kind ≡ kind.TooDeep))

-- the first token behind which nothing is a text, or that opens one bracket too many, or the source's end
pub record RefusesTokens (end : ℕ) (ts : List Classed) (f : Fault) : Type 0 where
  pub front : List Classed
  pub back : List Classed
  pub whole : ts ≡ front ++ back
  pub viable : IsViable front
  pub shallow : IsShallow front
  pub stops : StopsAt end front back f

-- what is answered for some tokens: their tree, or what is wrong with them
abbrev pub AnswersTokens : ℕ → List Classed → Result Text SyntaxError → Type 0
AnswersTokens end ts (Ok f) = IsText f ts × IsShallow ts
AnswersTokens end ts (Err (error.Fault at kind)) = RefusesTokens end ts (record { at = at; kind = kind })
AnswersTokens end ts (Err error.NoMemory) = ⊤
