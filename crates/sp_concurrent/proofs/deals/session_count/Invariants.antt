use Rattle.std.proofs.Common.{◌≡◌, ◌≤◌, take}
use Rattle.sp_script.specs.Commands.{opening_count}
use Rattle.sp_concurrent.proofs.deals.session_count.Given as goal

abbrev pub invariant-loop-command : goal.invariant-loop-command
invariant-loop-command l = record {
  counted : l.count ≡ opening_count (take l.command-index l.commands);
  few : l.count ≤ l.command-index;
}
