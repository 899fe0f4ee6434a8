-- What the form of lines depends on.
use Rattle.std.specs.Prelude.{ℕ, ◌<◌, List, [], ◌∷◌, length, Bool, true, ◌&&◌, nat_lt}
use Rattle.std.specs.List.{AllByRecursion}
use Rattle.sp_lines.specs.Lines.{BeginsPair, BeginsSpaced, IsSmallPair}
use Rattle.sp_theory.specs.Book.{Event}
use Rattle.sp_theory.specs.Logs.{Entry}
use Rattle.sp_filed.specs.declared.sizes.Sizes.{Sizes}
use Rattle.sp_planfile.specs.RunText.{HasSmall}
use Rattle.sp_planfile.specs.Form.{IsParentMove, IsEventInForm, IsEntryInForm, HasSmallNumbers}

-- what the form demands of each, with numbers of 64 bits
abbrev pub IsMoveOf : Sizes → ℕ × ℕ → Type 0
IsMoveOf s move = IsParentMove s.actions s.joint move × IsSmallPair move

abbrev pub IsEventOf : Sizes → Event → Type 0
IsEventOf s event = IsEventInForm s.beliefs s.actions s.joint event × HasSmall event

abbrev pub IsEntryWithin : Sizes → Entry → Type 0
IsEntryWithin s entry = IsEntryInForm s.actions s.joint entry × HasSmallNumbers entry

-- the pairs of a prune
abbrev pub IsPrune : List (ℕ × ℕ) → Type 0
IsPrune pairs = (0 < length pairs) × AllByRecursion IsSmallPair pairs

-- a text begins with three numbers, each behind a space
pub record BeginsThree (text : List ℕ) (k e a : ℕ) (rest : List ℕ) : Type 0 where
  pub middle : List ℕ
  pub pair : BeginsPair text k e middle
  pub third : BeginsSpaced middle a rest

-- the word is of printed bytes alone
abbrev pub is_plain : List ℕ → Bool
is_plain [] = true
is_plain (b ∷ bytes) = nat_lt 10 b && is_plain bytes
