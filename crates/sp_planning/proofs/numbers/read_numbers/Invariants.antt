use Rattle.std.proofs.Common.{take}
use Rattle.std.specs.Prelude.{All}
use Rattle.sp_planfile.specs.RunText.{HasSmall}
use Rattle.sp_value.specs.Events.{event_of}
use Rattle.sp_planning.proofs.numbers.read_numbers.Given as goal

abbrev pub invariant-loop-event : goal.invariant-loop-event
invariant-loop-event l = All (λ event. HasSmall (event_of event)) (take l.event-index l.events)
