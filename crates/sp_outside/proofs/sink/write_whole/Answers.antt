use Rattle.std.proofs.Common.{arith}
use Rattle.std.proofs.lemmas.Grind.{common_steps}
use Rattle.sp_outside.proofs.ByteLemmas.{more_appended}
use Rattle.sp_outside.proofs.sink.write_whole.Goals as goal

pub loop-at-preserved : goal.loop-at-preserved
loop-at-preserved g c = record {
  within = grind (arith, common_steps, c.in_ok-at.ensures.most);
  so_far = more_appended _ _ _ c.args.bytes.now c.loop-at.at c.in_ok-at.field-0 c.loop-at.invariant.so_far c.in_ok-at.ensures.appended;
  later = omega (arith, c.loop-at.invariant.later, c.in_ok-at.ensures.cause.later);
}
