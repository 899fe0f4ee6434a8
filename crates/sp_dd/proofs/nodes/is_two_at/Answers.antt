use Rattle.std.proofs.Common.{sym, ◌∷◌, []}
use Rattle.sp_dd.specs.Wording.{word_part}
use Rattle.sp_dd.proofs.Flattened.{other_slot, other_count, all_same}
use Rattle.sp_dd.proofs.nodes.is_two_at.Goals as goal

pub returns-then-head-slot : goal.returns-then-head-slot
returns-then-head-slot c = other_slot _ _ _ _ _ _ _ c.nodes.view_is c.requires.at c.index-head.ensures c.if-head-slot.true

pub returns-then-head-ne2 : goal.returns-then-head-ne2
returns-then-head-ne2 c = other_count _ _ _ _ _ _ (word_part [] c.args.left ∷ word_part [] c.args.right ∷ []) c.nodes.view_is c.nodes.invariant c.requires.at c.index-head.ensures (λ e. c.if-head-ne2.true (sym e))

pub returns : goal.returns
returns c = all_same _ _ _ _ _ _ _ _ _ c.nodes.view_is c.requires.at c.index-head.ensures c.if-head-slot.false c.if-head-ne2.false c.same_two.ensures
