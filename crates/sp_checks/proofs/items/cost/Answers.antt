use Rattle.sp_checks.proofs.ItemLemmas.{cost_err}
use Rattle.sp_checks.proofs.items.cost.Goals as goal

pub returns-in_err-check_cost : goal.returns-in_err-check_cost
returns-in_err-check_cost c = cost_err c.args.env.now c.args.source.now c.args.listed.now c.args.keyword c.args.tree.now c.from_residual.result c.args.listed.now c.in_err-check_cost.field-0.0 c.from_residual.ensures.1 c.in_err-check_cost.ensures
