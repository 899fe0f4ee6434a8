use Rattle.std.proofs.Common.{ℕ, subst, Err}
use Rattle.sp_declarations.specs.Steps.{GivesOrRunsOut}
use Rattle.sp_checks.specs.Actions.{checked_name}
use Rattle.sp_checks.proofs.ActionLemmas.{name_err}
use Rattle.sp_checks.proofs.actions.action.Goals as goal

pub returns-in_err-declare : goal.returns-in_err-declare
returns-in_err-declare c = name_err c.args.source.now c.args.state.now c.args.word c.args.list.now c.args.end c.from_residual.result _ c.in_err-declare.field-0.0 c.from_residual.ensures.1 (subst (λ (n : ℕ). GivesOrRunsOut (checked_name c.args.source.now c.args.state.now.names n c.args.word) (Err c.in_err-declare.field-0.0)) c.len-count.ensures c.in_err-declare.ensures.refused)
