use Rattle.std.proofs.Common.{◌∙◌, sym, subst}
use Rattle.sp_trees.specs.Good.{IsFit}
use Rattle.sp_checks.proofs.ModelLemmas.{or_zero_fit}
use Rattle.sp_checks.proofs.finish.reward_of.Goals as goal

pub less-requires-clause-small_cost : goal.less-requires-clause-small_cost
less-requires-clause-small_cost c =
    (subst (IsFit c.args.scope.now) (sym (c.func-2.ensures ∙ c.in_ok-cost.ensures)) (or_zero_fit c.args.scope.now c.args.draft.now.cost c.requires.scope c.requires.cost)).small
