use Rattle.std.proofs.Common.{◌∙◌, ap, arith, length}
use Rattle.sp_dd.specs.Func.{Shape, size_of}
use Rattle.sp_dd.specs.Operations.{weighed_out}
use Rattle.sp_table.proofs.FrameLemmas.{Means, slot_weighed, are_slot_widths, scope_is}
use Rattle.sp_table.proofs.RowLemmas.{row_small}
use Rattle.sp_table.proofs.slotwise.weigh_out.Goals as goal

pub slot_means-requires-clause-f : goal.slot_means-requires-clause-f
slot_means-requires-clause-f c = are_slot_widths c.args.f.now c.args.slot _ _ _ c.in_ok-widths.ensures.left c.as_slice-to.ensures.value c.in_ok-count.ensures.value c.in_ok-count.ensures.fits

pub slot_means-requires-clause-p : goal.slot_means-requires-clause-p
slot_means-requires-clause-p c = are_slot_widths c.args.p.now c.args.slot _ _ _ c.in_ok-widths.ensures.right c.as_slice-to.ensures.value c.in_ok-count.ensures.value c.in_ok-count.ensures.fits

pub slot_means-requires-clause-size : goal.slot_means-requires-clause-size
slot_means-requires-clause-size c = c.size-size.ensures ∙ ap (λ (s : Shape). size_of s c.args.slot) c.scope.ensures.value

pub slot_means-requires-clause-size_p : goal.slot_means-requires-clause-size_p
slot_means-requires-clause-size_p c = c.size-size.ensures ∙ ap (λ (s : Shape). size_of s c.args.slot) (c.scope.ensures.value ∙ c.requires.scopes)

pub slot_means-requires-clause-weights : goal.slot_means-requires-clause-weights
slot_means-requires-clause-weights c =
    row_small c.args.p.now c.args.slot (omega (arith, c.requires.slot, ap (λ (s : Shape). length s.sizes) c.requires.scopes)) c.requires.row

-- what the result means
is : (c : goal.After-result-1) → Means c.f.inside.scope c.in_ok-widths.widths.items c.in_ok-cells.cells.items (weighed_out c.args.f.now c.args.slot c.args.p.now)
is c =
    slot_weighed c.args.f.now c.args.p.now c.f.inside.scope c.args.slot _ _ _ _ _ (scope_is c.f.inside.scope c.f.inside.widths.items c.f.inside.cells.items c.args.f.now c.f.view_is) c.requires.scopes c.in_ok-widths.ensures.left c.in_ok-widths.ensures.right (c.size-size.ensures ∙ ap (λ (s : Shape). size_of s c.args.slot) c.scope.ensures.value)
    c.as_slice-to.ensures.value c.in_ok-count.ensures.value c.in_ok-count.ensures.fits c.in_ok-cells.ensures

pub invariant_of-result : goal.invariant_of-result
invariant_of-result c = (is c).table

pub returns : goal.returns
returns c = (is c).is
