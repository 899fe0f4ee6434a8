-- Published lists of editions, as contracts see them.
use Rattle.std.specs.Prelude.{◌≡◌, ℕ, ◌+◌, ◌-◌, ◌<◌, ◌++◌, ◌∷◌, [], Bool, true, Option, Some, List, length, slice_get, if◌then◌else◌}
use mathlib.Core.List.{IsPrefix}
use Rattle.logbook.specs.Pages.{Book}
use Rattle.sp_value.specs.Tasks.{TaskParts}
use Rattle.sp_value.specs.Editions.{EditionParts}

-- what is known of a published list: which list it is, its editions in order, and whether it has ended
pub record PublishedList : Type 0 where
  pub list : Book
  pub editions : List EditionParts
  pub ended : Bool

-- the list with one edition more
abbrev pub with_edition : PublishedList → EditionParts → PublishedList
with_edition p e = record p { editions = p.editions ++ e ∷ [] }

-- the list with its end mark
abbrev pub with_end : PublishedList → PublishedList
with_end p = record p { ended = true }

-- the last edition
abbrev pub newest_in : PublishedList → Option EditionParts
newest_in p = slice_get p.editions (length p.editions - 1)

-- the list begins with this edition
abbrev pub Opens : EditionParts → PublishedList → Type 0
Opens e p = slice_get p.editions 0 ≡ Some e

-- the list's edition 0 is of this task
abbrev pub IsOfTask : PublishedList → TaskParts → Type 0
IsOfTask p t = (e : EditionParts) → Opens e p → e.task ≡ t

-- it is the list of this number, with this edition 0
abbrev pub IsOf : Book → EditionParts → PublishedList → Type 0
IsOf list first p = (p.list ≡ list) × Opens first p

-- each edition has the number of its place
abbrev pub AreAtTheirPlaces : List EditionParts → Type 0
AreAtTheirPlaces es = (k : ℕ) (e : EditionParts) → slice_get es k ≡ Some e → e.number ≡ k

-- each edition is of edition 0's task
abbrev pub AreOfOneTask : List EditionParts → Type 0
AreOfOneTask es = (k : ℕ) (e f : EditionParts) → slice_get es 0 ≡ Some e → slice_get es k ≡ Some f → f.task ≡ e.task

-- what each published list keeps
pub record IsList (p : PublishedList) : Type 0 where
  pub some : 0 < length p.editions
  pub numbered : AreAtTheirPlaces p.editions
  pub of_one_task : AreOfOneTask p.editions

-- how many items the list has, its end mark with them
abbrev pub size_of : PublishedList → ℕ
size_of p = length p.editions + (if p.ended then 1 else 0)

-- the second is the same list, which begins with the first's editions; nothing follows an end mark
pub record ListGoesOn (x y : PublishedList) : Type 0 where
  pub list : y.list ≡ x.list
  pub editions : IsPrefix x.editions y.editions
  pub ended : x.ended ≡ true → y ≡ x
