use Rattle.std.proofs.Common.{◌≡◌, map, drop}
use Rattle.sp_words.specs.Items.{values}
use Rattle.sp_words.specs.Pieces.{item_of}
use Rattle.sp_words.proofs.pieces.lacks.Given as goal

abbrev pub invariant-loop-piece : goal.invariant-loop-piece
invariant-loop-piece l = values l.option (map item_of l.pieces) ≡ values l.option (map item_of (drop l.piece-index l.pieces))
