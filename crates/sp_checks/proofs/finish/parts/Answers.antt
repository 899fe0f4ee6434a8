use Rattle.std.proofs.Common.{sym, subst}
use Rattle.sp_trees.specs.Good.{IsFit}
use Rattle.sp_checks.proofs.ModelLemmas.{or_zero_fit}
use Rattle.sp_checks.proofs.finish.parts.Goals as goal

pub actions-requires-clause-reward : goal.actions-requires-clause-reward
actions-requires-clause-reward c =
    subst (IsFit c.args.env.scope) (sym c.in_ok-reward.ensures) (or_zero_fit c.args.env.scope c.args.reward.now c.requires.scope c.requires.reward)
