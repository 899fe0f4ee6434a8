use Rattle.sp_table.proofs.FrameLemmas.{holds}
use Rattle.sp_table.proofs.Table.scope.Goals as goal

pub returns-clause-determined : goal.returns-clause-determined
returns-clause-determined c = (holds _ _ _ _ c.self.invariant c.self.view_is).determined
