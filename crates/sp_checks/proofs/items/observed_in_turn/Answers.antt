use Rattle.std.proofs.Common.{◌∙◌}
use Rattle.sp_declarations.proofs.StepLemmas.{turn_at}
use Rattle.sp_checks.specs.Actions as spec
use Rattle.sp_checks.proofs.ListingLemmas.{observed_keeps}
use Rattle.sp_checks.proofs.items.observed_in_turn.Goals as goal

pub loop-next-preserved : goal.loop-next-preserved
loop-next-preserved c = record {
  value = turn_at (spec.observe_entry c.args.env.now c.args.source.now) c.loop-next.listed c.args.list.now c.loop-next.next-index c.next-item.result _ c.loop-next-test.true c.next-item.is c.in_ok-observed.ensures ∙ c.loop-next.invariant.value;
  listed = observed_keeps c.args.env.now c.args.source.now c.requires.env c.loop-next.listed _ c.next-item.result c.loop-next.invariant.listed c.in_ok-observed.ensures;
}
