use Rattle.std.proofs.Common.{◌≡◌, ◌∙◌, ap, arith, length, take}
use Rattle.std.proofs.Math.Seq.{take-length}
use Rattle.sp_dd.specs.Points.{point_at}
use Rattle.sp_table.proofs.PlaceLemmas.{length-point_at}
use Rattle.sp_table.proofs.TotalLemmas.{width_more}
use Rattle.sp_table.proofs.comparing.point_of.Goals as goal

pub loop-slot-preserved : goal.loop-slot-preserved
loop-slot-preserved c =
    width_more (point_at c.args.widths.now c.args.k) _ _ c.loop-slot.slot _ (omega (arith, c.loop-slot-test.true, length-point_at c.args.widths.now c.args.k)) c.loop-slot.invariant c.in_ok-push.ensures.ok c.digit_of.ensures.value

pub returns : goal.returns
returns c =
    let all : c.loop-slot.slot ≡ length (point_at c.args.widths.now c.args.k) = omega (arith, length-point_at c.args.widths.now c.args.k) in
    c.loop-slot.invariant ∙ ap (λ n. take n (point_at c.args.widths.now c.args.k)) all ∙ take-length (point_at c.args.widths.now c.args.k)
