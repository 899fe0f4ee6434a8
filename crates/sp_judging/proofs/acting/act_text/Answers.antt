use Rattle.std.specs.Arc.{arc_value}
use Rattle.sp_value.specs.Events.{events_of}
use Rattle.sp_audit.proofs.Outcomes.{last_is}
use Rattle.sp_judging.proofs.ScriptLemmas.{act_text_is}
use Rattle.sp_judging.proofs.acting.act_text.Goals as goal

pub returns : goal.returns
returns c =
    let f = c.args.plan.now.filed in
    let t = arc_value f.run.task in
    let es = events_of f.run.events in
    let e = arc_value c.last_edition.result.now in
    act_text_is t es e (last_is t es c.args.plan.now.replay c.requires.replay e c.last_edition.ensures) c.args.commands c.as_slice.ensures.known c.requires.commands _ c.in_ok-transcript.ensures.logs _ c.in_ok-text.ensures
