use Rattle.std.proofs.Common.{◌∙◌}
use Rattle.sp_declarations.proofs.StepLemmas.{turn_at}
use Rattle.sp_checks.specs.Actions as spec
use Rattle.sp_checks.proofs.ListingLemmas.{item_keeps}
use Rattle.sp_checks.proofs.items.items.Goals as goal

pub loop-next-preserved : goal.loop-next-preserved
loop-next-preserved c = record {
  value = turn_at (spec.item c.args.env.now c.args.source.now) c.loop-next.listed c.args.list.now c.loop-next.next-index c.next-item.result _ c.loop-next-test.true c.next-item.is c.in_ok-item.ensures ∙ c.loop-next.invariant.value;
  listed = item_keeps c.args.env.now c.args.source.now c.requires c.loop-next.listed c.next-item.result _ c.loop-next.invariant.listed c.in_ok-item.ensures;
}
