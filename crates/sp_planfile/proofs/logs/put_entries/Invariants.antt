use Rattle.std.proofs.Common.{◌≡◌, drop, ◌++◌}
use Rattle.sp_lines.specs.Lines.{lines_of}
use Rattle.sp_session.specs.Logs.{entries_of}
use Rattle.sp_planfile.specs.PlanText.{entry_line}
use Rattle.sp_planfile.proofs.logs.put_entries.Given as goal

abbrev pub invariant-loop-entry : goal.invariant-loop-entry
invariant-loop-entry l = l.fn.text.items ++ lines_of entry_line (entries_of l.entries) ≡ l.text.items ++ lines_of entry_line (entries_of (drop l.entry-index l.entries))
