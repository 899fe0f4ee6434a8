use Rattle.sp_model.specs.Rewards.{IsLeastReward}
use Rattle.sp_model.proofs.range.least_reward.Given as goal

abbrev pub invariant-loop-action : goal.invariant-loop-action
invariant-loop-action l = IsLeastReward l.actions l.action-index l.found
