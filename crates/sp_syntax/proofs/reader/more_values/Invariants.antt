-- What is left to read gives what all of it gives.
use Rattle.std.proofs.Common.{◌≡◌, ◌-◌}
use Rattle.sp_syntax.specs.Reading.{many, is_close, one_of, is_word}
use Rattle.sp_syntax.proofs.reader.more_values.Given as goal

abbrev pub invariant-loop-turn : goal.invariant-loop-turn
invariant-loop-turn l =
    (many is_close (one_of is_word l.end) l.end (l.turns - l.turn) l.values l.cursor.rest.now
    ≡ many is_close (one_of is_word l.end) l.end l.turns l.initial.values l.initial.cursor.rest.now)
