use Rattle.std.proofs.Common.{◌≡◌, map, drop, bytes_eq}
use Rattle.std.specs.List.{list_any}
use Rattle.sp_words.proofs.pieces.is_one_of.Given as goal

abbrev pub invariant-loop-name : goal.invariant-loop-name
invariant-loop-name l = list_any (bytes_eq l.word) (map (λ o. o.now) l.names) ≡ list_any (bytes_eq l.word) (map (λ o. o.now) (drop l.name-index l.names))
