use Rattle.sp_checks.proofs.SectionLemmas.{dd_err}
use Rattle.sp_checks.proofs.sections.dd.Goals as goal

pub returns-in_err-check_dd : goal.returns-in_err-check_dd
returns-in_err-check_dd c = dd_err c.args.source.now c.args.state.now c.args.word c.args.tree.now c.from_residual.result c.args.state.now c.in_err-check_dd.field-0.0 c.from_residual.ensures.1 c.in_err-check_dd.ensures.refused
