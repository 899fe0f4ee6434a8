use Rattle.std.proofs.Common.{◌+◌, ◌≤◌, length}
use Rattle.sp_script.specs.Ledger.{IsScriptLedger}
use Rattle.sp_script.proofs.ReadingLemmas.{IsReadTo}
use Rattle.sp_script.proofs.reading.take_lines.Given as goal

abbrev pub invariant-loop-rest : goal.invariant-loop-rest
invariant-loop-rest l = record {
  ledger : IsScriptLedger l.ledger;
  read : IsReadTo l.sights l.source l.rest l.number l.ledger.commands;
  fits : l.number + length l.rest ≤ length l.source;
}

abbrev pub decreases-loop-rest : goal.decreases-loop-rest
decreases-loop-rest l = length l.rest
