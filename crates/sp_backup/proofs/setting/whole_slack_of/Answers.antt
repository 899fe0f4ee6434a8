use Rattle.sp_backup.proofs.Windows.{whole_slack_is}
use Rattle.sp_backup.proofs.setting.whole_slack_of.Goals as goal

pub returns-clause-value : goal.returns-clause-value
returns-clause-value c = whole_slack_is _ c.variable_count.result c.sight_count.result c.state_count-states.result c.joint_count.result c.variable_count.ensures.value c.sight_count.ensures.value c.state_count-states.ensures.value c.joint_count.ensures.value
