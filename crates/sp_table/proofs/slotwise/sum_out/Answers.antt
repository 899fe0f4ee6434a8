use Rattle.std.proofs.Common.{◌∙◌, ap}
use Rattle.sp_dd.specs.Func.{Shape, size_of}
use Rattle.sp_dd.specs.Operations.{summed_out}
use Rattle.sp_table.proofs.FrameLemmas.{Means, slot_summed, are_slot_widths, scope_is}
use Rattle.sp_table.proofs.slotwise.sum_out.Goals as goal

pub slot_sums-requires-clause-f : goal.slot_sums-requires-clause-f
slot_sums-requires-clause-f c = are_slot_widths c.args.f.now c.args.slot _ _ _ c.in_ok-widths.ensures c.as_slice-to.ensures.value c.in_ok-count.ensures.value c.in_ok-count.ensures.fits

pub slot_sums-requires-clause-size : goal.slot_sums-requires-clause-size
slot_sums-requires-clause-size c = c.size-size.ensures ∙ ap (λ (s : Shape). size_of s c.args.slot) c.scope.ensures.value

-- what the result means
is : (c : goal.After-result-1) → Means c.f.inside.scope c.in_ok-widths.widths.items c.in_ok-cells.cells.items (summed_out c.args.f.now c.args.slot)
is c =
    slot_summed c.args.f.now c.f.inside.scope c.args.slot _ _ _ _ _ (scope_is c.f.inside.scope c.f.inside.widths.items c.f.inside.cells.items c.args.f.now c.f.view_is) c.in_ok-widths.ensures (c.size-size.ensures ∙ ap (λ (s : Shape). size_of s c.args.slot) c.scope.ensures.value)
    c.as_slice-to.ensures.value c.in_ok-count.ensures.value c.in_ok-count.ensures.fits c.in_ok-cells.ensures

pub invariant_of-result : goal.invariant_of-result
invariant_of-result c = (is c).table

pub returns : goal.returns
returns c = (is c).is
