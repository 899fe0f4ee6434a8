use Rattle.std.proofs.Common.{◌≡◌, ◌++◌, length}
use Rattle.std.specs.List.{AllByRecursion}
use Rattle.sp_lines.specs.Lines.{lines_of}
use Rattle.sp_value.specs.Events.{events_of}
use Rattle.sp_planfile.specs.RunText.{event_line}
use Rattle.sp_filed.specs.Sizes.{IsEventOf}
use Rattle.sp_filed.proofs.sections.event_lines.Given as goal

abbrev pub invariant-loop : goal.invariant-loop
invariant-loop l = record {
  count : length l.events ≡ l.counter;
  read : l.text ≡ lines_of event_line (events_of l.events) ++ l.rest;
  good : AllByRecursion (IsEventOf l.sizes) (events_of l.events);
}
