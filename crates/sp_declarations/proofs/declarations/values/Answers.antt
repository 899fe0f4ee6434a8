use Rattle.std.proofs.Common.{◌∙◌}
use Rattle.sp_declarations.specs.Declarations as spec
use Rattle.sp_declarations.proofs.StepLemmas.{turn_ok}
use Rattle.sp_declarations.proofs.declarations.values.Goals as goal

pub loop-span-preserved : goal.loop-span-preserved
loop-span-preserved c = turn_ok (spec.value c.args.source.now) c.loop-span.values c.args.words.now c.loop-span.span-index _ _ c.loop-span-test.true c.in_ok-value.ensures ∙ c.loop-span.invariant
