use Rattle.std.proofs.Common.{◌≡◌, length, arith, refl}
use Rattle.std.proofs.lemmas.Grind.{common_steps}
use Rattle.sp_ddops.proofs.SummingLemmas.{spread_more}
use Rattle.sp_ddops.proofs.summing.spread.Goals as goal

pub loop-value-preserved : goal.loop-value-preserved
loop-value-preserved c =
    let end : c.len-end.result ≡ length c.args.list.now.items = grind (arith, common_steps) in
    spread_more _ _ c.args.sum.now.at c.loop-value.value _ _ _ _ c.args.start c.len-end.result end refl c.loop-value.invariant c.in_ok-push_cofactors.ensures
