use Rattle.std.proofs.Common.{arith, refl, get_or, ◌-◌}
use Rattle.sp_rows.proofs.RowLemmas.{HasRoom, IsNumbered, has_room, length-point, numbered_all, numbered_first, numbered_more}
use Rattle.sp_rows.proofs.rows.row_number.Goals as goal

room : (c : goal.After-shared_slice_known-in-loop-slot-1) → HasRoom c.loop-slot.row c.loop-slot.weight (get_or c.args.point.now (c.loop-slot.slot - 1) 0) c.row_width-width.result
room c =
    has_room c.args.scope.now c.args.table c.args.point.now c.slots-slot.ensures.known c.requires.point c.requires.few (c.loop-slot.slot - 1) _ _ _ (get_or c.args.point.now (c.loop-slot.slot - 1) 0) _ c.loop-slot.invariant
    (let h = c.loop-slot-test.true in omega arith) refl c.row_width-width.ensures

pub loop-slot-init : goal.loop-slot-init
loop-slot-init c =
    numbered_first c.args.scope.now c.args.table c.args.point.now c.slots-slot.ensures.known c.requires.point c.requires.few _ c.slots-slot.ensures.value

pub bounds-point-slot : goal.bounds-point-slot
bounds-point-slot c =
    let e = length-point c.args.scope.now.sizes c.args.point.now c.requires.point in let h = c.loop-slot.invariant.within in let k = c.loop-slot-test.true in omega arith

pub nonzero_rem-row : goal.nonzero_rem-row
nonzero_rem-row c = (room c).some

pub overflow_mul-row : goal.overflow_mul-row
overflow_mul-row c = let h = (room c).digit_fits in omega arith

pub overflow_add-row : goal.overflow_add-row
overflow_add-row c = let h = (room c).row_fits in omega arith

pub overflow_mul-weight : goal.overflow_mul-weight
overflow_mul-weight c = let h = (room c).weight_fits in omega arith

pub loop-slot-preserved : goal.loop-slot-preserved
loop-slot-preserved c =
    numbered_more c.args.scope.now c.args.table c.args.point.now c.slots-slot.ensures.known c.requires.point c.requires.few (c.loop-slot.slot - 1) _ _ _ (get_or c.args.point.now (c.loop-slot.slot - 1) 0) _ c.loop-slot.invariant
    (let h = c.loop-slot-test.true in omega arith) refl c.row_width-width.ensures
