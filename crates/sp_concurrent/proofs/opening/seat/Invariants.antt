use Rattle.std.proofs.Common.{◌≡◌, ◌+◌, length, map, vec_len}
use Rattle.std.specs.Prelude.{All, Contains}
use Rattle.std.specs.Arc.{arc_value}
use Rattle.sp_desk.specs.Runs.{work_of}
use Rattle.sp_concurrent.proofs.opening.seat.Given as goal

abbrev pub invariant-loop-commands : goal.invariant-loop-commands
invariant-loop-commands l = record {
  count : vec_len l.viewers + length l.yielded ≡ vec_len l.fn.viewers;
  viewers : All (Contains l.fn.viewers.items) l.viewers.items;
  work : map work_of l.runs.items ≡ map (λ cs. (cs, arc_value l.task)) l.yielded;
  known : All (λ r. Contains l.fn.viewers.items r.desk.known) l.runs.items;
}
