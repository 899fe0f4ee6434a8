use Rattle.sp_checks.proofs.InitialLemmas.{init_err}
use Rattle.sp_checks.proofs.initial.init.Goals as goal

pub returns-in_err-check_init : goal.returns-in_err-check_init
returns-in_err-check_init c = init_err c.args.source.now c.args.state.now c.args.keyword c.args.tree.now c.from_residual.result c.args.state.now c.in_err-check_init.field-0.0 c.from_residual.ensures.1 c.in_err-check_init.ensures
