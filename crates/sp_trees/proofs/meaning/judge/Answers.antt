use Rattle.std.proofs.Common.{subst, sym}
use Rattle.sp_trees.specs.Good.{IfGood}
use Rattle.sp_trees.proofs.HoldLemmas.{IfAllowed, tree_holds}
use Rattle.sp_trees.proofs.meaning.judge.Goals as goal

pub returns-clause-good : goal.returns-clause-good
returns-clause-good c = subst (IfGood c.args.env.now.scope) (sym c.in_ok-judged.ensures) (tree_holds c.args.env.now c.args.source.now c.args.allowed c.requires c.args.tree.now).0

pub returns-clause-allowed : goal.returns-clause-allowed
returns-clause-allowed c = subst (IfAllowed c.args.allowed) (sym c.in_ok-judged.ensures) (tree_holds c.args.env.now c.args.source.now c.args.allowed c.requires c.args.tree.now).1
