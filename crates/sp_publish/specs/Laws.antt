-- The law of viewers, as the function of this crate states it.
use Rattle.std.specs.Prelude.{◌≡◌, ◌≤◌, Some}
use Rattle.sp_value.specs.Editions.{EditionParts}
use Rattle.sp_publish.specs.Published.{PublishedList, IsList, ListGoesOn, newest_in}

-- as a list goes on, its newest edition never becomes an older one, and stays of one task
abbrev pub ListsNeverGoBack : Type 0
ListsNeverGoBack = (x y : PublishedList) (e f : EditionParts) → ListGoesOn x y → IsList y → newest_in x ≡ Some e → newest_in y ≡ Some f → (e.number ≤ f.number) × (f.task ≡ e.task)
