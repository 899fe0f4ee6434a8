-- The words that name things in a model text.
use Rattle.std.specs.Prelude.{◌≢◌, ℕ, ◌<◌, ◌==◌, ◌||◌, Bool, List, [], ◌∷◌, length, codes, IsTrue, All}
use Rattle.std.specs.Char.{is_ascii_alphabetic, is_ascii_alphanumeric}

-- an ASCII letter or digit, '_', '-' or '.'
abbrev pub is_word_byte : ℕ → Bool
is_word_byte b = is_ascii_alphanumeric b || b == 95 || b == 45 || b == 46

-- an ASCII letter or '_'
abbrev pub is_first_byte : ℕ → Bool
is_first_byte b = is_ascii_alphabetic b || b == 95

-- the words that mean something by themselves
abbrev pub keywords : List (List ℕ)
keywords =
    codes "variables" ∷ codes "observations" ∷ codes "init" ∷ codes "dd" ∷ codes "enddd" ∷ codes "action" ∷ codes "endaction"
    ∷ codes "observe" ∷ codes "endobserve" ∷ codes "cost" ∷ codes "reward" ∷ codes "discount" ∷ codes "horizon"
    ∷ codes "tolerance" ∷ codes "unnormalized" ∷ []

-- the name of a value: a word
pub record IsValueName (word : List ℕ) : Type 0 where
  pub some : 0 < length word
  pub bytes : All (λ b. IsTrue (is_word_byte b)) word

-- a word begins so that it is no number
abbrev pub BeginsName : List ℕ → Type 0
BeginsName [] = ⊥
BeginsName (b ∷ bytes) = IsTrue (is_first_byte b)

-- the name of a variable or an action: a word that begins with a letter or '_' and isn't a keyword
pub record IsModelName (word : List ℕ) : Type 0 where
  pub value : IsValueName word
  pub begins : BeginsName word
  pub free : All (λ keyword. word ≢ keyword) keywords
