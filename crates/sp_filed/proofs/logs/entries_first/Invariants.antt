use Rattle.std.proofs.Common.{◌≡◌, ◌++◌, length}
use Rattle.std.specs.List.{AllByRecursion}
use Rattle.sp_lines.specs.Lines.{lines_of}
use Rattle.sp_session.specs.Logs.{entries_of}
use Rattle.sp_planfile.specs.PlanText.{entry_line}
use Rattle.sp_filed.specs.Sizes.{IsEntryWithin}
use Rattle.sp_filed.proofs.logs.entries_first.Given as goal

abbrev pub invariant-loop-line : goal.invariant-loop-line
invariant-loop-line l = record {
  read : l.text ≡ lines_of entry_line (entries_of l.entries) ++ l.rest;
  good : AllByRecursion (IsEntryWithin l.sizes) (entries_of l.entries);
}

abbrev pub decreases-loop-line : goal.decreases-loop-line
decreases-loop-line l = length l.rest
