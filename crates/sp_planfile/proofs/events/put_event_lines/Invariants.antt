use Rattle.std.proofs.Common.{◌≡◌, drop, ◌++◌}
use Rattle.sp_lines.specs.Lines.{lines_of}
use Rattle.sp_value.specs.Events.{events_of}
use Rattle.sp_planfile.specs.RunText.{event_line}
use Rattle.sp_planfile.proofs.events.put_event_lines.Given as goal

abbrev pub invariant-loop-event : goal.invariant-loop-event
invariant-loop-event l = l.fn.text.items ++ lines_of event_line (events_of l.events) ≡ l.text.items ++ lines_of event_line (events_of (drop l.event-index l.events))
