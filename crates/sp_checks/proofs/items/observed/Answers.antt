use Rattle.sp_checks.proofs.ItemLemmas.{observed_err}
use Rattle.sp_checks.proofs.items.observed.Goals as goal

pub returns-in_err-place : goal.returns-in_err-place
returns-in_err-place c = observed_err c.args.env.now c.args.source.now c.args.listed.now c.args.next.now c.from_residual.result c.args.listed.now c.in_err-place.field-0.0 c.from_residual.ensures.1 c.in_err-place.ensures.value
