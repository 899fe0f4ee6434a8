use Rattle.sp_dd.specs.Operations.{part_chosen}
use Rattle.sp_table.proofs.FrameLemmas.{Means}
use Rattle.sp_table.proofs.BranchLemmas.{branched, part_widths_from}
use Rattle.sp_table.proofs.branches.branch.Goals as goal

pub part_values-requires : goal.part_values-requires
part_values-requires c =
    record { widths = part_widths_from c.args.scope.now c.args.parts.now c.args.slot _ _ _ c.in_ok-widths.ensures c.requires.scopes c.requires.slot c.requires.parts c.as_slice-to.ensures.value c.in_ok-count.ensures.value c.in_ok-count.ensures.fits }

-- what the result means
is : (c : goal.After-result-1) → Means c.args.scope.now c.in_ok-widths.widths.items c.in_ok-cells.cells.items (part_chosen c.args.scope.now c.args.slot c.args.parts.now)
is c =
    branched c.args.scope.now c.args.parts.now c.args.slot _ _ _ _ c.in_ok-widths.ensures c.requires.scopes c.requires.slot c.requires.parts
    c.as_slice-to.ensures.value c.in_ok-count.ensures.value c.in_ok-count.ensures.fits c.in_ok-cells.ensures

pub invariant_of-result : goal.invariant_of-result
invariant_of-result c = (is c).table

pub returns : goal.returns
returns c = (is c).is
