-- The rule of the log, which exists in proofs alone, and what a step of it tells.
use Rattle.std.specs.Prelude.{ℕ, ◌≡◌, ◌==◌, true, List, [], ◌∷◌, ◌++◌, length, MatchBool}
use Rattle.logbook.specs.Pages.{Cell, Step, View, Book, Named}
use Rattle.sp_publish.specs.declared.item.Item.{Item}
use Rattle.sp_publish.specs.Logs.{IsLegalLog}

-- the first word is the number of entries, which are legal; the second one isn't used
pub record IsKeptLog (cells : List Cell) (log : List Item) : Type 0 where
  pub words : cells ≡ (length log, true) ∷ (0, true) ∷ []
  pub legal : IsLegalLog log

abbrev pub head_of : Book → Named
head_of b = record { tracked = true; key = 0; book = b }

-- the item was added to all that had been seen; or the log was another, and was seen
abbrev pub Adds : Step Item → View Item ℕ → ℕ → View Item ℕ → Type 0
Adds s v found w = MatchBool (found == s.old) ((w.0 ≡ v.0 ++ s.ask ∷ []) × IsLegalLog w.0) ((length w.0 ≡ found) × IsLegalLog w.0)
