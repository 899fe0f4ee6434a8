-- Runs: events one after another, legal runs and prompt runs.
use Rattle.std.proofs.Common.{◌≡◌, ℕ, suc, List, [], ◌∷◌, true}
use Rattle.sp_theory.specs.Book.{Task, Book, Event, settle, publish, prune, end, opening, AllImproved, Allowed, after_event}

-- each event is allowed by the book before it
unfoldable pub IsHistory : Task → Book → List Event → Type 0
IsHistory t b [] = Unit {0}
IsHistory t b (e ∷ es) = Allowed t b e × IsHistory t (after_event t b e) es

-- the book after the events
unfoldable pub replay : Task → Book → List Event → Book
replay t b [] = b
replay t b (e ∷ es) = replay t (after_event t b e) es

-- a legal run: each event is allowed by the book before it, and the last is the end
abbrev pub IsLegal : Task → List Event → Type 0
IsLegal t es = IsHistory t (opening t) es × ((replay t (opening t) es).done ≡ true)

-- prompt events, of those so far: where all flags are up the next event is a publish, and where no stage is left it is the end
unfoldable pub IsPrompt : Task → Book → List Event → Type 0
IsPrompt t b [] = Unit {0}
IsPrompt t b (e ∷ es) =
    (AllImproved t b → e ≡ publish)
    × (b.stages_left ≡ 0 → e ≡ end)
    × IsPrompt t (after_event t b e) es

-- how many of the events are publications
abbrev pub publications : List Event → ℕ
publications [] = 0
publications (publish ∷ es) = suc (publications es)
publications (settle k e a links ∷ es) = publications es
publications (prune pairs ∷ es) = publications es
publications (end ∷ es) = publications es
