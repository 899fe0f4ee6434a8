use Rattle.std.proofs.Common.{◌≡◌, ◌≤◌, ◌++◌, length, replicate, pos}
use Rattle.sp_states.specs.States.{entries_from}
use Rattle.sp_states.proofs.support.append.Given as goal

abbrev pub invariant-loop-k : goal.invariant-loop-k
invariant-loop-k l =
    record {
      entries : l.entries.items ≡ l.initial.entries.items ++ entries_from l.block.first (replicate l.k (pos l.weight));
      room : length l.entries.items ≤ l.room;
    }
