use Rattle.sp_checks.proofs.InitialLemmas.{every_err}
use Rattle.sp_checks.proofs.initial.factors.Goals as goal

pub returns-in_err-check_every : goal.returns-in_err-check_every
returns-in_err-check_every c = every_err c.args.env.now.scope.variables c.args.at c.args.shares.now c.from_residual.result c.in_err-check_every.field-0.0 c.from_residual.ensures.1 c.in_err-check_every.ensures
