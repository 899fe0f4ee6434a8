use Rattle.std.proofs.Common.{◌<◌, ℕ, get_or}
use Rattle.sp_backup.specs.MemberTables.{IsMemberTable, no_table}
use Rattle.sp_backup.proofs.values.shared.Given as goal

abbrev pub invariant-loop-place : goal.invariant-loop-place
invariant-loop-place l = (k : ℕ) → k < l.place → IsMemberTable l.edition k (get_or l.tables k no_table)
