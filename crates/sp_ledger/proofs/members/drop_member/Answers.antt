use Rattle.std.proofs.Common.{rules, not, eqb}
use Rattle.std.proofs.lemmas.Fn.{filter_same}
use Rattle.sp_value.specs.declared.editions.Member.{Member}
use Rattle.sp_ledger.proofs.members.drop_member.Goals as goal

pub returns : goal.returns
returns c = filter_same _ (λ (z : Member). not (eqb z.id c.args.id)) _ (λ x b f t. search rules) _ _ c.retain.ensures.filtered
