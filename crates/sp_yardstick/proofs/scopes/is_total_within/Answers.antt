use Rattle.std.proofs.Common.{◌≡◌, ◌≤◌, ◌^◌, ◌∙◌, ◌*◌, ap, arith, length, take}
use Rattle.std.proofs.lemmas.Bool.{OnTrue_from, leb-true}
use Rattle.std.proofs.Math.Dec.{leb}
use Rattle.std.proofs.Math.Seq.{take-length}
use Rattle.sp_dd.specs.Points.{product, state_widths}
use Rattle.sp_table.proofs.TotalLemmas.{length-state_widths}
use Rattle.sp_yardstick.proofs.TotalGuards.{product_more}
use Rattle.sp_yardstick.proofs.scopes.is_total_within.Goals as goal

pub loop-slot-preserved : goal.loop-slot-preserved
loop-slot-preserved c =
    product_more (state_widths c.args.scope.now.variables c.args.scope.now.sizes) c.loop-slot.slot c.args.each c.loop-slot.total _ c.state_width.result
    (omega (arith, c.loop-slot-test.true, c.slots-slot-end.ensures.value, length-state_widths c.args.scope.now.variables c.args.scope.now.sizes)) c.loop-slot.invariant c.in-Some.ensures.1 c.state_width.ensures

pub returns : goal.returns
returns c =
    let ws = state_widths c.args.scope.now.variables c.args.scope.now.sizes in
    let all : c.loop-slot.slot ≡ length ws = omega (arith, c.loop-slot-test.false, c.loop-slot.auto.slot-end, c.slots-slot-end.ensures.value, length-state_widths c.args.scope.now.variables c.args.scope.now.sizes) in
    let whole : c.loop-slot.total ≡ c.args.each * product ws = c.loop-slot.invariant ∙ ap (λ l. c.args.each * product l) (ap (λ n. take n ws) all ∙ take-length ws) in
    OnTrue_from (leb c.loop-slot.total (2 ^ 62)) (c.args.each * product ws ≤ 2 ^ 62) (λ yes. omega (arith, whole, leb-true c.loop-slot.total (2 ^ 62) yes))
