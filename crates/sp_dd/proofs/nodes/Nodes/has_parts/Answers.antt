use Rattle.std.proofs.Common.{sym}
use Rattle.sp_dd.proofs.Flattened.{other_slot, other_count, all_same}
use Rattle.sp_dd.proofs.nodes.Nodes.has_parts.Goals as goal

pub returns-then-head-slot : goal.returns-then-head-slot
returns-then-head-slot c = other_slot _ _ _ _ _ _ _ c.self.view_is c.requires.at c.index-head.ensures c.if-head-slot.true

pub returns-then-head-parts : goal.returns-then-head-parts
returns-then-head-parts c = other_count _ _ _ _ _ _ c.args.parts.now c.self.view_is c.self.invariant c.requires.at c.index-head.ensures (λ e. c.if-head-parts.true (sym e))

pub returns : goal.returns
returns c = all_same _ _ _ _ _ _ _ _ _ c.self.view_is c.requires.at c.index-head.ensures c.if-head-slot.false c.if-head-parts.false c.same_parts.ensures
