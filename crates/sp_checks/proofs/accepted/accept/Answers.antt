use Rattle.sp_checks.proofs.AcceptedLemmas.{accepted_is, accepted_not}
use Rattle.sp_checks.proofs.accepted.accept.Goals as goal

pub returns-in-Ok-clause-value : goal.returns-in-Ok-clause-value
returns-in-Ok-clause-value c =
    accepted_is c.args.env.now c.args.source.now c.args.role c.args.tree.now c.allowed.result c.in_ok-mentions.field-0.mentions c.in_ok-mentions.field-0.outcome c.allowed.ensures c.in_ok-mentions.ensures.value c.in-Ok.func c.in-Ok.is

pub returns-in-Err-clause-value : goal.returns-in-Err-clause-value
returns-in-Err-clause-value c =
    accepted_not c.args.env.now c.args.source.now c.args.role c.args.tree.now c.allowed.result c.in_ok-mentions.field-0.mentions c.in_ok-mentions.field-0.outcome c.allowed.ensures c.in_ok-mentions.ensures.value c.in-Err.refusal c.in-Err.is
