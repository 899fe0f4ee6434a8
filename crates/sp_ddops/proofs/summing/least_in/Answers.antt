use Rattle.std.proofs.Common.{◌≡◌, length, arith}
use Rattle.std.proofs.lemmas.Grind.{common_steps}
use Rattle.sp_ddops.proofs.SummingLemmas.{least_first, least_last}
use Rattle.sp_ddops.proofs.summing.least_in.Goals as goal

pub loop-i-init : goal.loop-i-init
loop-i-init c =
    let end : c.len-end.result ≡ length c.args.list.now.items = grind (arith, common_steps) in
    record { order = omega arith; within = omega (arith, c.requires.start, end); low = omega arith; least = least_first _ _ _ _; pairs = c.requires.pairs }

pub returns : goal.returns
returns c =
    let end : c.len-end.result ≡ length c.args.list.now.items = grind (arith, common_steps) in
    least_last _ _ _ _ c.args.list.now.items c.loop-i.i _ c.args.start c.slots-count.ensures.value (omega (arith, end, c.loop-i-test.false)) c.loop-i.invariant.low c.loop-i.invariant.least
