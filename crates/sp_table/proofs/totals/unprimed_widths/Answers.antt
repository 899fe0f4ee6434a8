use Rattle.std.proofs.Common.{◌≡◌, ◌∙◌, ap, arith, length, take}
use Rattle.std.proofs.Math.Seq.{take-length}
use Rattle.sp_dd.specs.Points.{state_widths}
use Rattle.sp_table.proofs.TotalLemmas.{width_more, length-state_widths}
use Rattle.sp_table.proofs.totals.unprimed_widths.Goals as goal

pub loop-slot-preserved : goal.loop-slot-preserved
loop-slot-preserved c =
    width_more _ _ _ c.loop-slot.slot _ (omega (arith, c.slots-slots.ensures.value, length-state_widths c.args.scope.now.variables c.args.scope.now.sizes)) c.loop-slot.invariant c.in_ok-push.ensures.items c.unprimed_width.ensures

pub returns : goal.returns
returns c =
    let all : c.loop-slot.slot ≡ length (state_widths c.args.scope.now.variables c.args.scope.now.sizes) = omega (arith, c.slots-slots.ensures.value, length-state_widths c.args.scope.now.variables c.args.scope.now.sizes) in
    c.loop-slot.invariant ∙ ap (λ n. take n (state_widths c.args.scope.now.variables c.args.scope.now.sizes)) all ∙ take-length (state_widths c.args.scope.now.variables c.args.scope.now.sizes)
