use Rattle.sp_checks.proofs.SectionLemmas.{discount_err}
use Rattle.sp_checks.proofs.sections.discount.Goals as goal

pub returns-in_err-check_discount : goal.returns-in_err-check_discount
returns-in_err-check_discount c = discount_err c.args.source.now c.args.state.now c.args.keyword c.args.word c.from_residual.result c.args.state.now c.in_err-check_discount.field-0.0 c.from_residual.ensures.1 c.in_err-check_discount.ensures
