use Rattle.std.proofs.Common.{◌≡◌, ◌+◌, to_z, of_z, sym, subst, arith, ℤ}
use Rattle.std.proofs.lemmas.Grind.{common_steps}
use mir.Syntax.{w128}
use Rattle.sp_dd.specs.Ordered.{node_at}
use Rattle.sp_ddops.proofs.BestLemmas.{IsBestOf, best_of_more}
use Rattle.sp_ddops.proofs.bounds.best_of.Goals as goal

pub loop-value-preserved : goal.loop-value-preserved
loop-value-preserved c =
    let e : to_z w128 (of_z w128 c.better-best.result) ≡ c.better-best.result = grind (arith, common_steps) in
    let P : ℤ → Type 0 = λ x. IsBestOf c.args.is_greatest (node_at c.args.nodes.now c.args.at).parts (c.loop-value.value + 1) (to_z w128 (of_z w128 c.args.first)) x in
    subst P (sym e) (best_of_more c.args.is_greatest (node_at c.args.nodes.now c.args.at).parts c.loop-value.value _ _ _ c.part.result (omega (arith, c.loop-value-test.true, c.requires.count)) c.loop-value.invariant c.part.ensures c.better-best.ensures.kept c.better-best.ensures.leaf c.better-best.ensures.from)
