use Rattle.std.proofs.Common.{arith, refl}
use Rattle.sp_table.proofs.FrameLemmas.{slot_frame, slot_in}
use Rattle.sp_table.proofs.frames.slot_widths.Goals as goal

pub index_mut-requires : goal.index_mut-requires
index_mut-requires c = omega (arith, slot_in c.args.f.now _ c.args.slot c.in_ok-widths.ensures c.requires, c.in_ok-widths.widths.ok)

pub returns : goal.returns
returns c = slot_frame c.args.f.now _ _ c.args.slot c.in_ok-widths.ensures refl
