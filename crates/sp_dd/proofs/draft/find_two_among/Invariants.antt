use Rattle.std.proofs.Common.{ℕ, ◌<◌, ◌≢◌, ◌∷◌, []}
use Rattle.sp_dd.specs.NodeLists.{made_node}
use Rattle.sp_dd.specs.Ordered.{node_at}
use Rattle.sp_dd.specs.Wording.{word_part}
use Rattle.sp_dd.proofs.draft.find_two_among.Given as goal

abbrev pub invariant-loop-at : goal.invariant-loop-at
invariant-loop-at l = (j : ℕ) → j < l.at → node_at l.nodes j ≢ made_node l.slot (word_part [] l.left ∷ word_part [] l.right ∷ [])
