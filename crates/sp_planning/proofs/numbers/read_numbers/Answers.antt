use Rattle.std.proofs.Common.{arith, subst}
use Rattle.std.specs.Prelude.{All}
use Rattle.std.proofs.lemmas.List.{take_all, length-map}
use Rattle.std.proofs.lemmas.List.Elements.{All-more, All-map, recursion_from_All}
use Rattle.sp_value.specs.Events.{event_of, events_of}
use Rattle.sp_value.specs.declared.events.Event.{Event}
use Rattle.sp_planfile.specs.RunText.{HasSmall}
use Rattle.sp_planning.proofs.numbers.read_numbers.Goals as goal

abbrev small : Event → Type 0
small event = HasSmall (event_of event)

pub loop-event-preserved : goal.loop-event-preserved
loop-event-preserved c = All-more small c.args.events.now c.loop-event.event-index c.event-item.result (omega arith) c.loop-event.invariant (subst small c.event-item.is c.read_event.ensures)

pub returns : goal.returns
returns c =
    let count = length-map c.args.events.now event_of in (
      omega (arith, count),
      recursion_from_All HasSmall (events_of c.args.events.now) (All-map HasSmall event_of c.args.events.now (subst (All small) (take_all c.loop-event.event-index c.args.events.now (omega arith)) c.loop-event.invariant)),
    )
