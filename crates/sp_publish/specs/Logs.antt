-- The log of a published list: an entry for each edition, and an end mark that comes last.
use Rattle.std.specs.Prelude.{◌≡◌, ◌<◌, Bool, true, false, List, [], ◌∷◌, length}
use Rattle.logbook.specs.Pages.{Book}
use Rattle.sp_value.specs.Editions.{EditionParts}
use Rattle.sp_publish.specs.declared.item.Item.{Item}
use Rattle.sp_publish.specs.declared.item.Item.TheVariants.{Made, End}
use Rattle.sp_publish.specs.Published.{PublishedList, AreAtTheirPlaces, AreOfOneTask, IsOfTask, with_edition, with_end}

-- the editions of a log
abbrev pub editions_in : List Item → List EditionParts
editions_in [] = []
editions_in (Made e ∷ xs) = e ∷ editions_in xs
editions_in (End ∷ xs) = editions_in xs

-- the end mark is there
abbrev pub has_end : List Item → Bool
has_end [] = false
has_end (Made e ∷ xs) = has_end xs
has_end (End ∷ xs) = true

abbrev pub NothingFollowsEnd : List Item → Type 0
NothingFollowsEnd [] = Unit {0}
NothingFollowsEnd (Made e ∷ xs) = NothingFollowsEnd xs
NothingFollowsEnd (End ∷ xs) = xs ≡ []

-- the rule of the log
pub record IsLegalLog (log : List Item) : Type 0 where
  pub numbered : AreAtTheirPlaces (editions_in log)
  pub of_one_task : AreOfOneTask (editions_in log)
  pub closed : NothingFollowsEnd log

-- the published list that a log tells
abbrev pub published_by : Book → List Item → PublishedList
published_by list log = record { list = list; editions = editions_in log; ended = has_end log }

-- the item may come next
abbrev pub MayFollow : PublishedList → Item → Type 0
MayFollow p (Made e) = (p.ended ≡ false) × (e.number ≡ length p.editions) × IsOfTask p e.task
MayFollow p End = (p.ended ≡ false) × (0 < length p.editions)

-- the list with one item more
abbrev pub with_item : PublishedList → Item → PublishedList
with_item p (Made e) = with_edition p e
with_item p End = with_end p
