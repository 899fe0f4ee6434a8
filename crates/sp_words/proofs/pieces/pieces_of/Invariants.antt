use Rattle.std.proofs.Common.{◌≡◌, map, drop, [], None, string_bytes}
use Rattle.std.specs.Option.{option_copied}
use Rattle.sp_words.specs.Items.{items_on}
use Rattle.sp_words.specs.Pieces.{item_of, names_of}
use Rattle.sp_words.proofs.pieces.pieces_of.Given as goal

abbrev pub invariant-loop-word : goal.invariant-loop-word
invariant-loop-word l =
    items_on (names_of l.options l.flags) [] None (map string_bytes l.words)
    ≡ items_on (names_of l.options l.flags) (map item_of l.pieces.items) (option_copied l.pending) (map string_bytes (drop l.word-index l.words))
