-- Events, as the theory has them.
use Rattle.std.specs.Prelude.{List, map}
use Rattle.sp_theory.specs.Book as theory
use Rattle.sp_value.specs.declared.events.Event.{Event}
use Rattle.sp_value.specs.declared.events.Event.TheVariants.{Settle, Publish, Prune, End}

abbrev pub event_of : Event → theory.Event
event_of (Settle belief base action links) = theory.settle belief base action links
event_of Publish = theory.publish
event_of (Prune pairs) = theory.prune pairs
event_of End = theory.end

abbrev pub events_of : List Event → List theory.Event
events_of events = map event_of events
