use Rattle.std.proofs.Common.{sym, subst}
use Rattle.std.specs.Arc.{arc_value}
use Rattle.sp_value.specs.Editions.{EditionParts}
use Rattle.sp_value.specs.Events.{events_of}
use Rattle.sp_audit.specs.Replays.{IsLastEdition}
use Rattle.sp_audit.proofs.Outcomes.{last_is}
use Rattle.sp_audit.proofs.calls.last_edition.Goals as goal

pub returns : goal.returns
returns c =
    let t = arc_value c.args.run.now.task in
    let es = events_of c.args.run.now.events in
    subst (λ (e : EditionParts). IsLastEdition t es e) (sym c.in_ok-edition.ensures)
    (last_is t es c.in_ok-replay.replay c.in_ok-replay.ensures (arc_value c.last_edition.result.now) c.last_edition.ensures)
