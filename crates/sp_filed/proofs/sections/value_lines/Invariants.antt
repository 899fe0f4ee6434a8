use Rattle.std.proofs.Common.{◌≡◌, ◌++◌, length}
use Rattle.std.specs.List.{AllByRecursion}
use Rattle.sp_lines.specs.Lines.{lines_of}
use Rattle.sp_planfile.specs.PlanText.{value_line}
use Rattle.sp_planfile.specs.Form.{IsTickValue}
use Rattle.sp_filed.proofs.sections.value_lines.Given as goal

abbrev pub invariant-loop : goal.invariant-loop
invariant-loop l = record {
  count : length l.values ≡ l.counter;
  read : l.text ≡ lines_of value_line l.values ++ l.rest;
  good : AllByRecursion IsTickValue l.values;
}
