-- What an action brings to all weights alike.
use Rattle.sp_model.specs.declared.parts.Parts.{Parts}
use Rattle.sp_model.specs.Problem.{reward_of}
use Rattle.sp_belief.specs.Tables.{AreActionTables}
use Rattle.sp_backup.specs.declared.preparing.PreparedAction.{PreparedAction}
use Rattle.sp_backup.specs.Functions.{IsWeighed}

-- the tables of an action, and its reward with the next state weighed out
pub record IsPrepared (p : Parts) (x : PreparedAction) : Type 0 where
  pub tables : AreActionTables p x.tables
  pub reward : IsWeighed p x.tables.action (reward_of p x.tables.action) x.reward
