use Rattle.std.proofs.Common.{map, take}
use Rattle.std.specs.Arc.{arc_value}
use Rattle.sp_session.specs.Logs.{entries_of}
use Rattle.sp_audit.specs.Seats.{editions_in}
use Rattle.sp_audit.specs.Entries.{IsSeatAfter}
use Rattle.sp_audit.proofs.logs.judge_entries.Given as goal

abbrev pub invariant-loop-k : goal.invariant-loop-k
invariant-loop-k l = IsSeatAfter l.model (editions_in (map arc_value l.editions)) (take l.k (entries_of l.entries)) l.seat
