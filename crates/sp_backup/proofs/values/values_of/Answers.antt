use Rattle.sp_backup.proofs.Listed.{nothing_or}
use Rattle.sp_backup.proofs.values.values_of.Goals as goal

pub returns : goal.returns
returns c = nothing_or c.in_ok-table.table _ _ c.args.vector.now c.in_ok-table.ensures (λ g is. is.0)
