use Rattle.std.proofs.Common.{◌≡◌, drop, ◌++◌}
use Rattle.sp_lines.specs.Lines.{spaced_pairs}
use Rattle.sp_planfile.proofs.events.put_pairs.Given as goal

abbrev pub invariant-loop-place : goal.invariant-loop-place
invariant-loop-place l = l.fn.text.items ++ spaced_pairs l.pairs ≡ l.text.items ++ spaced_pairs (drop l.place l.pairs)
