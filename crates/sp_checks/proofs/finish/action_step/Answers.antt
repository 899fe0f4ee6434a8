use Rattle.sp_checks.proofs.FinishLemmas.{step_ok}
use Rattle.sp_checks.proofs.finish.action_step.Goals as goal

pub returns : goal.returns
returns c = step_ok c.args.scope.now c.args.end c.args.reward.now c.args.draft.now c.args.actions.now c.in_ok-next.next c.push.new.self c.in_ok-next.ensures c.in_ok-push.ensures.ok
