use Rattle.sp_checks.proofs.SectionLemmas.{reward_err}
use Rattle.sp_checks.proofs.sections.reward.Goals as goal

pub returns-in_err-check_reward : goal.returns-in_err-check_reward
returns-in_err-check_reward c = reward_err c.args.source.now c.args.state.now c.args.keyword c.args.tree.now c.from_residual.result c.args.state.now c.in_err-check_reward.field-0.0 c.from_residual.ensures.1 c.in_err-check_reward.ensures
