use Rattle.std.proofs.Common.{drop}
use Rattle.sp_concurrent.specs.Deals.{desk_of}
use Rattle.sp_concurrent.specs.Gathered.{logs_at}
use Rattle.sp_concurrent.proofs.Gathered.{IsGathered}
use Rattle.sp_concurrent.proofs.gathering.gather.Given as goal

abbrev pub invariant-loop-command : goal.invariant-loop-command
invariant-loop-command l =
    IsGathered (desk_of l.desks l.names) l.desks l.commands (logs_at l.fn.queues.items) (drop l.command-index l.commands) l.all l.queues.items
