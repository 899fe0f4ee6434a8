-- What the words of a call hold, as the code keeps it.
use Rattle.std.specs.Prelude.{ℕ, List, [], ◌∷◌, Option, Some, None, map}
use Rattle.std.specs.Borrow.{Bor}
use Rattle.sp_words.specs.Items.{Item, placed, flagged, valued, OptionNames}
use Rattle.sp_words.specs.declared.pieces.Piece.{Piece}
use Rattle.sp_words.specs.declared.pieces.Piece.TheVariants.{Placed, Flagged, Valued}

-- the item that a piece stands for
abbrev pub item_of : Piece → Item
item_of (Placed word) = placed word.now
item_of (Flagged name) = flagged name.now
item_of (Valued name value) = valued name.now value.now

-- the names that are lent
abbrev pub names_of : List (Bor (List ℕ)) → List (Bor (List ℕ)) → OptionNames
names_of options flags = record { options = map (λ o. o.now) options; flags = map (λ f. f.now) flags }

-- what was found, as a list
abbrev pub found_words : Option (Bor (List ℕ)) → List (List ℕ)
found_words None = []
found_words (Some word) = word.now ∷ []
