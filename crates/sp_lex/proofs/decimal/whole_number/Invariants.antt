use Rattle.std.proofs.Common.{◌≡◌, ◌≤◌, min, drop}
use Rattle.sp_lex.specs.Decimal.{number_from}
use Rattle.sp_lex.proofs.decimal.whole_number.Given as goal

abbrev pub invariant-loop-byte : goal.invariant-loop-byte
invariant-loop-byte l = record {
  capped : l.number ≤ 2000000000;
  same : min 2000000000 (number_from l.number (drop l.byte-index l.digits)) ≡ min 2000000000 (number_from 0 l.digits);
}
