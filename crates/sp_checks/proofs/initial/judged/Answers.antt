use Rattle.sp_checks.proofs.OwnLemmas.{share_more}
use Rattle.sp_checks.proofs.initial.judged.Goals as goal

pub loop-tree-preserved : goal.loop-tree-preserved
loop-tree-preserved c =
    share_more c.args.env.now c.args.source.now c.args.trees.now c.loop-tree.tree-index c.loop-tree.list.items c.push_share.new.list.items c.tree-item.result c.start_of.result c.in_ok-judged.judged c.allowed.result
    c.loop-tree-test.true c.tree-item.is c.loop-tree.invariant c.allowed.ensures c.in_ok-judged.ensures.value c.start_of.ensures c.in_ok-push_share.ensures
