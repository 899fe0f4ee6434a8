use Rattle.std.proofs.Common.{◌≡◌, ◌≤◌, ◌+◌}
use Rattle.sp_lex.specs.Decimal.{number_of_first}
use Rattle.sp_lex.proofs.Digits.{tens}
use Rattle.sp_lex.proofs.decimal.nine_places.Given as goal

abbrev pub invariant-loop-place : goal.invariant-loop-place
invariant-loop-place l = record { capped : l.number + 23 ≤ tens l.place; same : l.number ≡ number_of_first l.place l.places }
