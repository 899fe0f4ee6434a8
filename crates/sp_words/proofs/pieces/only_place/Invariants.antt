use Rattle.std.proofs.Common.{◌≡◌, map, drop, ◌++◌}
use Rattle.sp_words.specs.Items.{places}
use Rattle.sp_words.specs.Pieces.{item_of, found_words}
use Rattle.sp_words.proofs.pieces.only_place.Given as goal

abbrev pub invariant-loop-piece : goal.invariant-loop-piece
invariant-loop-piece l = places (map item_of l.pieces) ≡ found_words l.found ++ places (map item_of (drop l.piece-index l.pieces))
