use Rattle.sp_table.proofs.FrameLemmas.{frame_joined, holds}
use Rattle.sp_table.proofs.frames.joined.Goals as goal

pub returns : goal.returns
returns c = frame_joined _ _ _ _ _ _ (holds _ _ _ _ c.f.invariant c.f.view_is) c.requires c.as_slice.ensures.value c.in_ok-widths.ensures
