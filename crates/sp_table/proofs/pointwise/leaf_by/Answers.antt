use Rattle.std.proofs.Common.{refl, set}
use Rattle.sp_dd.specs.Operations.{leaf_chosen}
use Rattle.sp_table.proofs.FrameLemmas.{Means, by_leaf}
use Rattle.sp_table.proofs.pointwise.leaf_by.Goals as goal

-- what the result means
is : (c : goal.After-result-1) → Means c.args.scope.now (set c.in_ok-widths.widths.items c.args.slot c.size.result) c.in_ok-cells.cells.items (leaf_chosen c.args.scope.now c.args.slot c.args.leaves.now)
is c = by_leaf _ _ _ _ _ _ _ _ c.slots.ensures.known c.slots.ensures.value c.requires.slot c.in_ok-widths.ensures c.size.ensures refl c.in_ok-cells.ensures c.requires.leaves

pub invariant_of-result : goal.invariant_of-result
invariant_of-result c = (is c).table

pub returns : goal.returns
returns c = (is c).is
