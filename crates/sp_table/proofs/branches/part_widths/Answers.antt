use Rattle.std.proofs.Common.{arith}
use Rattle.sp_table.proofs.PlaceLemmas.{Mentions-length}
use Rattle.sp_table.proofs.BranchLemmas.{mentions_ones, parts_more, part_frame, fits_part}
use Rattle.sp_table.proofs.branches.part_widths.Goals as goal

pub loop-part-init : goal.loop-part-init
loop-part-init c = record { mentions = mentions_ones c.args.scope.now.sizes _ _ c.in_ok-widths.ensures c.slots.ensures.value; reads = λ j b. absurd (omega arith) }

pub joined-requires : goal.joined-requires
joined-requires c = fits_part c.args.scope.now c.args.parts.now c.loop-part.part-index c.part-item.result _ _ c.requires.scopes (omega arith) c.part-item.is c.as_slice.ensures.value c.loop-part.invariant.mentions

pub loop-part-preserved : goal.loop-part-preserved
loop-part-preserved c =
    parts_more c.args.scope.now c.args.parts.now c.loop-part.part-index c.part-item.result _ _ _ c.slots.ensures.known c.requires.scopes c.loop-part-test.true c.part-item.is c.loop-part.invariant c.as_slice.ensures.value c.in_ok-widths-2.ensures

pub index_mut-requires : goal.index_mut-requires
index_mut-requires c = omega (arith, c.requires.slot, Mentions-length _ _ c.loop-part.invariant.mentions, c.loop-part.widths.ok)

pub returns : goal.returns
returns c = part_frame c.args.scope.now c.args.parts.now c.args.slot _ c.loop-part.part-index _ c.slots.ensures.known c.requires.scopes c.requires.slot c.loop-part-test.false c.loop-part.invariant c.size.ensures
