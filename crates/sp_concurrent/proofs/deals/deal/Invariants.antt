use Rattle.std.proofs.Common.{take}
use Rattle.sp_concurrent.specs.Deals.{desk_of, AreHands}
use Rattle.sp_concurrent.proofs.deals.deal.Given as goal

abbrev pub invariant-loop-command : goal.invariant-loop-command
invariant-loop-command l = AreHands (desk_of l.desks l.names) l.desks (take l.command-index l.commands) l.hands.items
