-- What is left to read gives what all of it gives.
use Rattle.std.proofs.Common.{◌≡◌, ◌-◌}
use Rattle.sp_syntax.specs.Reading as spec
use Rattle.sp_syntax.specs.Reading.{Read}
use Rattle.sp_syntax.proofs.reader.sections.Given as goal

abbrev pub invariant-loop-turn : goal.invariant-loop-turn
invariant-loop-turn l =
    (spec.sections l.end l.left (l.turns - l.turn) l.sections l.cursor.rest.now
    ≡ spec.sections l.end l.left l.turns l.initial.sections l.initial.cursor.rest.now)
