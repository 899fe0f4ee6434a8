use Rattle.std.proofs.Common.{◌≡◌, drop, ◌++◌}
use Rattle.sp_lines.specs.Lines.{lines_of}
use Rattle.sp_planfile.specs.PlanText.{value_line}
use Rattle.sp_planfile.proofs.values.put_value_lines.Given as goal

abbrev pub invariant-loop-value : goal.invariant-loop-value
invariant-loop-value l = l.fn.text.items ++ lines_of value_line l.values ≡ l.text.items ++ lines_of value_line (drop l.value-index l.values)
