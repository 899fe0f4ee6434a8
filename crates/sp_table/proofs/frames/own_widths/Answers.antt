use Rattle.std.proofs.Common.{◌∙◌}
use Rattle.sp_table.proofs.FrameLemmas.{frame_own, holds}
use Rattle.sp_table.proofs.frames.own_widths.Goals as goal

pub returns : goal.returns
returns c = frame_own _ _ _ _ (holds _ _ _ _ c.f.invariant c.f.view_is) (c.in_ok-widths.ensures ∙ c.as_slice.ensures.value)
