use Rattle.sp_dd.specs.Operations.{restriction}
use Rattle.sp_table.proofs.FrameLemmas.{Means, slot_restricted, are_slot_widths, scope_is}
use Rattle.sp_table.proofs.slotwise.restrict.Goals as goal

pub slot_values-requires-clause-f : goal.slot_values-requires-clause-f
slot_values-requires-clause-f c = are_slot_widths c.args.f.now c.args.slot _ _ _ c.in_ok-widths.ensures c.as_slice-to.ensures.value c.in_ok-count.ensures.value c.in_ok-count.ensures.fits

-- what the result means
is : (c : goal.After-result-1) → Means c.f.inside.scope c.in_ok-widths.widths.items c.in_ok-cells.cells.items (restriction c.args.f.now c.args.slot c.args.value)
is c =
    slot_restricted c.args.f.now c.f.inside.scope c.args.slot c.args.value _ _ _ _ (scope_is c.f.inside.scope c.f.inside.widths.items c.f.inside.cells.items c.args.f.now c.f.view_is) c.in_ok-widths.ensures c.requires.value
    c.as_slice-to.ensures.value c.in_ok-count.ensures.value c.in_ok-count.ensures.fits c.in_ok-cells.ensures

pub invariant_of-result : goal.invariant_of-result
invariant_of-result c = (is c).table

pub returns : goal.returns
returns c = (is c).is
