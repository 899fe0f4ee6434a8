-- What is left to read gives what all of it gives.
use Rattle.std.proofs.Common.{◌≡◌, ◌-◌}
use Rattle.sp_syntax.specs.Reading as spec
use Rattle.sp_syntax.specs.Reading.{many, is_end_observe}
use Rattle.sp_syntax.proofs.reader.observed_list.Given as goal

abbrev pub invariant-loop-turn : goal.invariant-loop-turn
invariant-loop-turn l =
    (many is_end_observe (spec.observe_entry l.end l.left) l.end (l.turns - l.turn) l.list l.cursor.rest.now
    ≡ many is_end_observe (spec.observe_entry l.end l.left) l.end l.turns l.initial.list l.initial.cursor.rest.now)
