use Rattle.std.proofs.Common.{◌≡◌, length, sym}
use Rattle.sp_lines.proofs.Lists.{no_line, other_line}
use Rattle.sp_planfile.specs.PlanText.{options_line}
use Rattle.sp_planfile.specs.Form.{AreInRange}
use Rattle.sp_filed.proofs.Readings.{options_lacks}
use Rattle.sp_filed.proofs.tasks.options_first.Goals as goal

pub returns-in_default-clause-err : goal.returns-in_default-clause-err
returns-in_default-clause-err c = λ left e. (no_line options_line AreInRange c.args.text.now c.in_default.ensures, let same : length c.args.text.now ≡ left = cc e in sym same)

pub returns-in-None-clause-err : goal.returns-in-None-clause-err
returns-in-None-clause-err c = λ left e. (other_line options_line AreInRange options_lacks c.args.text.now c.in-Some.line.now c.in-Some.rest.now c.in-Some.ensures c.in-None.ensures, let same : length c.args.text.now ≡ left = cc e in sym same)
