-- The rule of the snapshot: each view is a beginning of the list that is shown, or knows nothing yet.
use Rattle.std.specs.Prelude.{◌≡◌, ◌⊎◌, ℕ, ◌+◌, Bool, false, Option, Some, None, List, length}
use mathlib.Core.Option.{some}
use lib.ListN.{get_elem?}
use Rattle.logbook.specs.Pages.{Book}
use Rattle.sp_value.specs.Editions.{EditionParts}
use Rattle.sp_publish.specs.Published.{PublishedList, ListGoesOn, IsList, newest_in, with_edition, with_end}

-- what was seen, if anything, is a beginning of the list
abbrev pub IsSeenBeginning : PublishedList → Option PublishedList → Type 0
IsSeenBeginning x None = Unit {0}
IsSeenBeginning x (Some s) = ListGoesOn s x

-- each view is a beginning of the list that is shown
abbrev pub Keeps : PublishedList → List (Option PublishedList) → Type 0
Keeps x views = (seat : ℕ) (v : Option PublishedList) → get_elem? views seat ≡ some v → IsSeenBeginning x v

-- what a step sees is the list that is shown then, which goes on from what was seen
abbrev pub Seeing : Option PublishedList → PublishedList → PublishedList → Option PublishedList → Type 0
Seeing v x y w = (w ≡ Some y) × IsSeenBeginning y v

-- something of this list was seen
abbrev pub IsOfList : Book → Option PublishedList → Type 0
IsOfList list None = ⊥
IsOfList list (Some s) = s.list ≡ list

-- the list with its newest edition, and whether it has ended
pub record IsNewestOf (p : PublishedList) (e : EditionParts) (ended : Bool) : Type 0 where
  pub newest : newest_in p ≡ Some e
  pub count : length p.editions ≡ e.number + 1
  pub ended_is : p.ended ≡ ended
  pub known : IsList p

-- a published list, and the same list with the item that waits to be published, if one does
pub record Drafted : Type 0 where
  pub published : PublishedList
  pub waiting : Option PublishedList

-- the list has one item more
abbrev pub HasOneMore : PublishedList → PublishedList → Type 0
HasOneMore p w = (w ≡ with_end p) ⊎ ((e : EditionParts) × (p.ended ≡ false) × (w ≡ with_edition p e))
