use Rattle.sp_table.proofs.FrameLemmas.{frame_grown, mentions_too}
use Rattle.sp_table.proofs.frames.widths_of_two.Goals as goal

pub joined-requires : goal.joined-requires
joined-requires c = mentions_too c.args.f.now c.args.g.now _ _ c.requires c.in_ok-own.ensures c.as_slice.ensures.value

pub returns-clause-left : goal.returns-clause-left
returns-clause-left c = frame_grown c.args.f.now c.args.g.now _ _ _ c.requires c.in_ok-own.ensures c.as_slice.ensures.value c.in_ok-widths.ensures

pub returns-clause-right : goal.returns-clause-right
returns-clause-right c = c.in_ok-widths.ensures.frame
