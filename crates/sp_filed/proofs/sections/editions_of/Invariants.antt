use Rattle.std.proofs.Common.{◌≡◌, ◌+◌, ◌≤◌, suc, drop}
use Rattle.sp_value.specs.Events.{events_of}
use Rattle.sp_planfile.specs.Form.{edition_count}
use Rattle.sp_filed.proofs.sections.editions_of.Given as goal

abbrev pub invariant-loop-event : goal.invariant-loop-event
invariant-loop-event l = record {
  count : suc (edition_count (events_of l.events)) ≡ l.editions + edition_count (events_of (drop l.event-index l.events));
  few : l.editions ≤ l.event-index + 1;
}
