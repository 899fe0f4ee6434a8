use Rattle.std.proofs.Common.{refl, subst}
use Rattle.sp_core.specs.Ledgers.{contents, parts_in}
use Rattle.sp_core.specs.Settling.{IsOurs}
use Rattle.sp_core.proofs.ledger.Ledger.prune.Goals as goal

pub prune_ours-requires-clause-ours : goal.prune_ours-requires-clause-ours
prune_ours-requires-clause-ours c = subst (IsOurs (parts_in (contents c.args.self.now))) c.deref.ensures (c.if-not-has.ensures.0 refl)
