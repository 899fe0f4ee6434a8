use Rattle.std.proofs.Common.{◌≡◌, drop}
use Rattle.sp_dd.specs.NodeLists.{all_are, first_part}
use Rattle.sp_dd.proofs.draft.are_one.Given as goal

abbrev pub invariant-loop-i : goal.invariant-loop-i
invariant-loop-i l = all_are (first_part (drop l.start l.list)) (drop l.i l.list) ≡ all_are (first_part (drop l.start l.list)) (drop l.start l.list)
