use Rattle.std.proofs.Common.{length, ◌-◌, ◌≤◌, take}
use Rattle.sp_outside.specs.Bytes.{Appended}
use Rattle.sp_outside.proofs.sink.write_whole.Given as goal

abbrev pub invariant-loop-at : goal.invariant-loop-at
invariant-loop-at g l = record {
  within : l.at ≤ length l.bytes;
  so_far : Appended (g.K.Sink.written l.fn.sink).bytes (g.K.Sink.written l.sink).bytes (take l.at l.bytes);
  later : (g.K.Sink.written l.fn.sink).faults ≤ (g.K.Sink.written l.sink).faults;
}

abbrev pub decreases-loop-at : goal.decreases-loop-at
decreases-loop-at g l = length l.bytes - l.at
