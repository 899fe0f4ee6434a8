use Rattle.std.proofs.Common.{rules, not, eqb}
use Rattle.std.proofs.lemmas.Fn.{filter_same}
use Rattle.sp_drops.proofs.drops.apply.Goals as goal

pub returns-then-contains-2-clause-left : goal.returns-then-contains-2-clause-left
returns-then-contains-2-clause-left c = filter_same _ (λ z. not (eqb z c.args.first)) _ (λ x b f t. search rules) _ _ c.retain.ensures.filtered
