use Rattle.std.proofs.Common.{◌∙◌, refl, subst}
use Rattle.sp_core.specs.Ledgers.{contents, parts_in}
use Rattle.sp_core.specs.Settling.{IsOurs}
use Rattle.sp_core.proofs.ledger.Ledger.settle.Goals as goal

pub settle_ours-requires-clause-ours : goal.settle_ours-requires-clause-ours
settle_ours-requires-clause-ours c = subst (IsOurs (parts_in (contents c.args.self.now))) (c.deref.ensures ∙ c.base.ensures) (c.if-not-has.ensures.0 refl)
