use Rattle.sp_lines.proofs.Lists.{no_line, other_line}
use Rattle.sp_planfile.specs.Form.{IsSessionName}
use Rattle.sp_filed.specs.Stops.{session_line}
use Rattle.sp_filed.proofs.Sessions.{session_lacks}
use Rattle.sp_filed.proofs.logs.session_first.Goals as goal

pub returns-in_default : goal.returns-in_default
returns-in_default c = no_line session_line IsSessionName c.args.text.now c.in_default.ensures

pub returns-in-None : goal.returns-in-None
returns-in-None c = other_line session_line IsSessionName session_lacks c.args.text.now c.in-Some.line.now c.in-Some.rest.now c.in-Some.ensures c.in-None.ensures
