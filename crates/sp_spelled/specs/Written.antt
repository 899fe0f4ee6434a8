-- Parts of a text as they are spelled, with what is read of them in each source.
use Rattle.std.specs.Prelude.{◌≡◌, ℕ, ◌≤◌, List, [], ◌∷◌, Option, Some, Ok, length}
use Rattle.sp_lex.specs.declared.lexeme.Token.{Token}
use Rattle.sp_lex.specs.Tokens.{tokens_of}
use Rattle.sp_syntax.specs.declared.class.WordClass.{WordClass}
use Rattle.sp_syntax.specs.declared.class.WordClass.TheVariants as the_word
use Rattle.sp_syntax.specs.declared.text.Text.{Text}
use Rattle.sp_syntax.specs.Classes.{word_class, classes}
use Rattle.sp_syntax.specs.declared.class.Classed.{Classed}
use Rattle.sp_syntax.specs.Refusal.{leave, room_then, AnswersTokens}
use Rattle.sp_spelled.specs.Signs.{Spelled, IsSpaced, AreSpelled, IsWordText, sign_class}

-- how many brackets may still be opened behind the signs
abbrev pub sign_room : ℕ → List Spelled → Option ℕ
sign_room n [] = Some n
sign_room n (s ∷ ss) = room_then (λ m. sign_room m ss) (leave n (sign_class s.sign))

-- the signs close what they open, and open so many at once at most
abbrev pub IsBalanced : ℕ → List Spelled → Type 0
IsBalanced depth ss = (n : ℕ) → depth ≤ n → sign_room n ss ≡ Some n

-- a part of the text: tokens that are these signs in a source are such a part, of which that holds
pub record Written {X : Type 0} (IsX : X → List Classed → Type 0) (P : List ℕ → X → Type 0) (depth : ℕ) (ss : List Spelled) : Type 0 where
  pub spaced : IsSpaced ss
  pub balanced : IsBalanced depth ss
  pub reads : (source : List ℕ) (ts : List Classed) → AreSpelled source ts ss → (x : X) × IsX x ts × P source x

-- a keyword's word
pub record IsKey (w : List ℕ) (k : WordClass) : Type 0 where
  pub text : IsWordText w
  pub class : word_class w ≡ k

-- a name's word
pub record IsNameWord (w : List ℕ) : Type 0 where
  pub text : IsWordText w
  pub name : word_class w ≡ the_word.Name

-- the source has tokens and a tree, of which that holds
pub record HasTree (source : List ℕ) (IsMeant : List ℕ → Text → Type 0) : Type 0 where
  pub tree : Text
  pub tokens : List Token
  pub lexed : tokens_of source ≡ Ok tokens
  pub answers : AnswersTokens (length source) (classes source tokens) (Ok tree)
  pub holds : IsMeant source tree
