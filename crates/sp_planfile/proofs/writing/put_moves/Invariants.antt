use Rattle.std.proofs.Common.{◌≡◌, drop, ◌++◌}
use Rattle.sp_lines.specs.Lines.{lines_of}
use Rattle.std.specs.Prelude.{map}
use Rattle.sp_planfile.specs.Contents.{moves_of, move_of}
use Rattle.sp_planfile.specs.PlanText.{belief_line}
use Rattle.sp_planfile.proofs.writing.put_moves.Given as goal

abbrev pub invariant-loop-place : goal.invariant-loop-place
invariant-loop-place l = l.fn.text.items ++ lines_of belief_line (moves_of l.samples) ≡ l.text.items ++ lines_of belief_line (map move_of (drop l.place l.samples))
