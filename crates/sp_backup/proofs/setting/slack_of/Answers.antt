use Rattle.std.proofs.Common.{refl}
use Rattle.sp_backup.proofs.UnscaledSums.{slack_is}
use Rattle.sp_backup.proofs.setting.slack_of.Goals as goal

pub returns-clause-value : goal.returns-clause-value
returns-clause-value c = slack_is _ c.variable_count.result c.sight_count.result c.state_count-states.result _ c.variable_count.ensures.value c.sight_count.ensures.value c.state_count-states.ensures.value refl
