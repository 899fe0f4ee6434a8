use Rattle.std.proofs.Common.{◌≡◌, ◌<◌, ◌-◌, ◌*◌, ◌∙◌, arith, sym, drop}
use Rattle.sp_dd.specs.Points.{product}
use Rattle.sp_dd.specs.Func.{state_count}
use Rattle.sp_states.specs.States.{widths_of}
use Rattle.sp_states.proofs.WidthLemmas.{as_long, product_back, product_none, product_less, widths_sizes}
use Rattle.sp_states.proofs.widths.few_states.Goals as goal

pub loop-slot-init : goal.loop-slot-init
loop-slot-init c = record {
  within = omega (arith, c.slots-slot.ensures.value);
  count = sym (product_none (widths_of c.args.scope.now) c.slots-slot.result (c.slots-slot.ensures.value ∙ sym (as_long c.args.scope.now)));
  few = omega arith;
}

pub returns-then-count-gt-MOST_STATES : goal.returns-then-count-gt-MOST_STATES
returns-then-count-gt-MOST_STATES c =
    let ws = widths_of c.args.scope.now in
    let is : c.loop-slot.count * c.state_width-count.result ≡ product (drop (c.loop-slot.slot - 1) ws) = product_back ws c.loop-slot.slot c.loop-slot.count c.state_width-count.result c.loop-slot-test.true (omega (arith, c.loop-slot.invariant.within, as_long c.args.scope.now)) c.loop-slot.invariant.count c.state_width-count.ensures.value in
    let h : 65536 < state_count c.args.scope.now = omega (arith, is, c.if-count-gt-MOST_STATES.true, product_less ws (c.loop-slot.slot - 1) (widths_sizes c.args.scope.now c.requires)) in
    h

pub loop-slot-preserved : goal.loop-slot-preserved
loop-slot-preserved c = record {
  within = omega (arith, c.loop-slot.invariant.within);
  count = product_back (widths_of c.args.scope.now) c.loop-slot.slot c.loop-slot.count c.state_width-count.result c.loop-slot-test.true (omega (arith, c.loop-slot.invariant.within, as_long c.args.scope.now)) c.loop-slot.invariant.count c.state_width-count.ensures.value;
  few = omega (arith, c.if-count-gt-MOST_STATES.false);
}
