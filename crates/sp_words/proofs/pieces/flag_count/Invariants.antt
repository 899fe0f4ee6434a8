use Rattle.std.proofs.Common.{◌≡◌, ◌+◌, ◌≤◌, map, drop}
use Rattle.sp_words.specs.Items.{times_flagged}
use Rattle.sp_words.specs.Pieces.{item_of}
use Rattle.sp_words.proofs.pieces.flag_count.Given as goal

abbrev pub invariant-loop-piece : goal.invariant-loop-piece
invariant-loop-piece l = (times_flagged l.flag (map item_of l.pieces) ≡ l.count + times_flagged l.flag (map item_of (drop l.piece-index l.pieces))) × (l.count ≤ l.piece-index)
