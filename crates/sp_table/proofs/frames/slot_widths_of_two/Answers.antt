use Rattle.std.proofs.Common.{arith, refl}
use Rattle.sp_table.proofs.FrameLemmas.{slot_frame, slot_in}
use Rattle.sp_table.proofs.frames.slot_widths_of_two.Goals as goal

pub index_mut-requires : goal.index_mut-requires
index_mut-requires c = omega (arith, slot_in c.args.f.now _ c.args.slot c.in_ok-widths.ensures.left c.requires.slot, c.in_ok-widths.widths.ok)

pub returns-clause-left : goal.returns-clause-left
returns-clause-left c = slot_frame c.args.f.now _ _ c.args.slot c.in_ok-widths.ensures.left refl

pub returns-clause-right : goal.returns-clause-right
returns-clause-right c = slot_frame c.args.g.now _ _ c.args.slot c.in_ok-widths.ensures.right refl
