-- The lines of events.
use Rattle.std.specs.List.{AllByRecursion}
use Rattle.std.specs.Prelude.{ℕ, ◌++◌, List, ◌∷◌, length, codes}
use Rattle.sp_lines.specs.Lines.{numbers_behind_spaces, spaced_pairs, IsSmall, IsSmallPair}
use Rattle.sp_theory.specs.Book.{Event, settle, publish, prune, end}

-- the line of an event, without its end
abbrev pub event_line : Event → List ℕ
event_line (settle k e a links) = codes "settle" ++ numbers_behind_spaces (k ∷ e ∷ a ∷ links)
event_line publish = codes "publish"
event_line (prune pairs) = codes "prune" ++ spaced_pairs pairs
event_line end = codes "end"

-- the numbers of an event are of 64 bits
abbrev pub HasSmall : Event → Type 0
HasSmall (settle k e a links) = AllByRecursion IsSmall (k ∷ e ∷ a ∷ links)
HasSmall publish = Unit {0}
HasSmall (prune pairs) = AllByRecursion IsSmallPair pairs
HasSmall end = Unit {0}

-- the count of the events and all their numbers are of 64 bits
abbrev pub FitInWords : List Event → Type 0
FitInWords events = IsSmall (length events) × AllByRecursion HasSmall events
