use Rattle.sp_declarations.proofs.DeclarationLemmas.{limits_err}
use Rattle.sp_declarations.proofs.declarations.declaration.Goals as goal

pub returns-in_err-within_limits : goal.returns-in_err-within_limits
returns-in_err-within_limits c =
    limits_err c.args.source.now c.args.limits c.args.read.now c.args.next.now c.from_residual.result c.args.read.now c.in_err-within_limits.field-0.0 c.from_residual.ensures.1 c.in_err-within_limits.ensures.refused
