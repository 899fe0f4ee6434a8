-- Lines of words and numbers.
use Rattle.std.specs.List.{AllByRecursion}
use Rattle.std.specs.Prelude.{◌≡◌, ◌≢◌, ℕ, ◌<◌, ◌^◌, ◌++◌, List, [], ◌∷◌, length}
use Rattle.std.specs.Fmt.{decimal}
use Rattle.std.specs.Int.{IsInRange}

-- a number of 64 bits
abbrev pub IsSmall : ℕ → Type 0
IsSmall n = n < 2 ^ 64

-- both numbers of a pair are of 64 bits
abbrev pub IsSmallPair : ℕ × ℕ → Type 0
IsSmallPair pair = IsSmall pair.0 × IsSmall pair.1

-- each number behind a space
abbrev pub numbers_behind_spaces : List ℕ → List ℕ
numbers_behind_spaces [] = []
numbers_behind_spaces (n ∷ numbers) = 32 ∷ (decimal n ++ numbers_behind_spaces numbers)

-- each number of the pairs behind a space
abbrev pub spaced_pairs : List (ℕ × ℕ) → List ℕ
spaced_pairs [] = []
spaced_pairs ((x, y) ∷ pairs) = 32 ∷ (decimal x ++ (32 ∷ (decimal y ++ spaced_pairs pairs)))

-- the lines of things, each with its end
abbrev pub lines_of : {X : Type 0} → (X → List ℕ) → List X → List ℕ
lines_of line [] = []
lines_of line (x ∷ xs) = line x ++ (10 ∷ lines_of line xs)

-- the bytes have none of that kind
abbrev pub Lacks : ℕ → List ℕ → Type 0
Lacks c bytes = AllByRecursion (λ x. x ≢ c) bytes

-- no digit stands first
abbrev pub BeginsNoDigit : List ℕ → Type 0
BeginsNoDigit [] = Unit {0}
BeginsNoDigit (x ∷ xs) = ¬ (IsInRange 48 57 x)

-- a text begins with the decimal of a number of 64 bits, and no digit comes after it
pub record BeginsNumber (text : List ℕ) (n : ℕ) (rest : List ℕ) : Type 0 where
  pub is : text ≡ decimal n ++ rest
  pub small : IsSmall n
  pub ends : BeginsNoDigit rest

-- the same behind a space
pub record BeginsSpaced (text : List ℕ) (n : ℕ) (rest : List ℕ) : Type 0 where
  pub is : text ≡ 32 ∷ (decimal n ++ rest)
  pub small : IsSmall n
  pub ends : BeginsNoDigit rest

-- a text begins with two numbers, each behind a space
pub record BeginsPair (text : List ℕ) (x y : ℕ) (rest : List ℕ) : Type 0 where
  pub is : text ≡ 32 ∷ (decimal x ++ (32 ∷ (decimal y ++ rest)))
  pub small : IsSmallPair (x, y)
  pub ends : BeginsNoDigit rest

-- a text begins with a line and its end
pub record BeginsLine (text line rest : List ℕ) : Type 0 where
  pub is : text ≡ line ++ (10 ∷ rest)
  pub ends : Lacks 10 line

-- a text begins with the line of something good, and its end
abbrev pub BeginsLineOf : {X : Type 0} → (X → List ℕ) → (X → Type 0) → List ℕ → Type 0
BeginsLineOf {X} line Good text = (x : X) × (rest : List ℕ) × Good x × (text ≡ line x ++ (10 ∷ rest))

-- of the lines of a count of good things some are there, and the text goes on with no such line; so many bytes are left there
pub record EndsEarly {X : Type 0} (line : X → List ℕ) (Good : X → Type 0) (count : ℕ) (text : List ℕ) (left : ℕ) : Type 0 where
  pub read : List X
  pub rest : List ℕ
  pub is : text ≡ lines_of line read ++ rest
  pub good : AllByRecursion Good read
  pub fewer : length read < count
  pub none : ¬ (BeginsLineOf line Good rest)
  pub bytes : left ≡ length rest
