use Rattle.sp_model.specs.Rewards.{IsGreatestReward}
use Rattle.sp_model.proofs.range.greatest_reward.Given as goal

abbrev pub invariant-loop-action : goal.invariant-loop-action
invariant-loop-action l = IsGreatestReward l.actions l.action-index l.found
