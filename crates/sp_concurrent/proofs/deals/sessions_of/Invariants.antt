use Rattle.std.proofs.Common.{◌≡◌, take}
use Rattle.sp_script.specs.Served.{opened_names}
use Rattle.sp_concurrent.proofs.deals.sessions_of.Given as goal

abbrev pub invariant-loop-command : goal.invariant-loop-command
invariant-loop-command l = l.names ≡ opened_names (take l.command-index l.commands)
