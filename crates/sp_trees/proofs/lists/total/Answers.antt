use Rattle.std.proofs.Common.{◌∙◌, ap, subst, sym}
use Rattle.sp_trees.specs.declared.judged.Judged.{Judged}
use Rattle.sp_trees.specs.Lists.{step}
use Rattle.sp_trees.specs.Good.{IfGood}
use Rattle.sp_trees.proofs.ListLemmas.{turn_ok, fit_next}
use Rattle.sp_trees.proofs.lists.total.Goals as goal

pub loop-tree-preserved : goal.loop-tree-preserved
loop-tree-preserved c =
    let here = c.in_ok-func.ensures ∙ ap (λ (j : Judged). step c.args.op c.args.at c.loop-tree.so_far j.outcome) c.tree-item.is in
    let good = subst (IfGood c.args.scope.now) (sym c.tree-item.is) (c.requires.good c.loop-tree.tree-index c.tree-item.result c.loop-tree-test.true) in
    record {
      value = turn_ok c.args.op c.args.at c.loop-tree.so_far c.args.trees.now c.loop-tree.tree-index c.tree-item.result c.in_ok-func.field-0 c.in-Ok.func c.loop-tree-test.true here c.in-Ok.is ∙ c.loop-tree.invariant.value;
      fit = fit_next c.args.scope.now c.args.op c.args.at c.loop-tree.so_far c.tree-item.result c.in_ok-func.field-0 c.in-Ok.func c.slots.ensures.known c.loop-tree.invariant.fit good c.in_ok-func.ensures c.in-Ok.is;
    }
