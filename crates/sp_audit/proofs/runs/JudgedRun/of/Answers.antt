use Rattle.std.proofs.Common.{◌∙◌, sym, subst, refl, rules, arith, suc, ◌+◌, List, [], ◌∷◌, length, take, drop, Option, Fits, w64}
use Rattle.std.specs.Arc.{arc_value}
use Rattle.std.proofs.lemmas.List.{length-map, length-take-le, take_all}
use Rattle.sp_theory.specs.Book as theory
use Rattle.sp_value.specs.Tasks.{TaskParts, task_of}
use Rattle.sp_value.specs.Events.{event_of, events_of}
use Rattle.sp_faults.specs.RunFaults.{AreSettlesSampled}
use Rattle.sp_audit.specs.declared.clause.Clause.{Clause}
use Rattle.sp_audit.specs.States.{contents, IsStateAfter}
use Rattle.sp_audit.specs.Judging.{IsEventJudged}
use Rattle.sp_audit.proofs.Items.{found_at, more_taken, rest_from}
use Rattle.sp_audit.proofs.Single.{sampled_at}
use Rattle.sp_audit.proofs.WholeRuns.{wrong_at, unfinished}
use Rattle.sp_audit.proofs.runs.JudgedRun.of.Goals as goal

pub loop-k-init : goal.loop-k-init
loop-k-init c = record { state = c.in_ok-state.ensures.replay; task = c.in_ok-state.ensures.task }

pub judge-requires-clause-sampled : goal.judge-requires-clause-sampled
judge-requires-clause-sampled c =
    let events = c.args.events.now in
    let t = arc_value c.args.task in
    let k = c.loop-k.k in
    let event = c.index-events-k.result in
    let at = found_at events k event c.loop-k-test.true c.index-events-k.is in
    let rest = rest_from event_of events k event at in
    subst (λ (u : TaskParts). AreSettlesSampled (task_of u) (event_of event ∷ [])) (sym c.loop-k.invariant.task)
    (sampled_at (task_of t) (events_of events) k (event_of event) (drop (suc k) (events_of events)) c.requires rest.0)

pub judge-requires-clause-few : goal.judge-requires-clause-few
judge-requires-clause-few c =
    let events = c.args.events.now in
    let few = c.loop-k.invariant.state.few in
    let long = length-map events event_of in
    let read = length-take-le c.loop-k.k (events_of events) (omega (arith, c.loop-k-test.true, long)) in
    let small : Fits w64 (length events + 1) = search rules in
    omega (arith, few, read, c.loop-k-test.true, small.fits)

pub loop-k-preserved : goal.loop-k-preserved
loop-k-preserved c =
    let events = c.args.events.now in
    let t = arc_value c.args.task in
    let k = c.loop-k.k in
    let event = c.index-events-k.result in
    let at = found_at events k event c.loop-k-test.true c.index-events-k.is in
    let rest = rest_from event_of events k event at in
    let judged = subst (λ (o : Option Clause). IsEventJudged (contents c.loop-k.state) (event_of event) (contents c.judge.new.self) o) c.in_default.is c.in_ok-answer.ensures in
    record {
      state = subst (λ (es : List theory.Event). IsStateAfter es (contents c.judge.new.self)) (sym (more_taken event_of events k event at)) (judged.replay (take k (events_of events)) c.loop-k.invariant.state);
      task = judged.task ∙ c.loop-k.invariant.task;
    }

pub returns-in-Some : goal.returns-in-Some
returns-in-Some c =
    let events = c.args.events.now in
    let t = arc_value c.args.task in
    let k = c.loop-k.k in
    let event = c.index-events-k.result in
    let at = found_at events k event c.loop-k-test.true c.index-events-k.is in
    let rest = rest_from event_of events k event at in
    let judged = subst (λ (o : Option Clause). IsEventJudged (contents c.loop-k.state) (event_of event) (contents c.judge.new.self) o) c.in-Some.is c.in_ok-answer.ensures in
    (k, refl, wrong_at (contents c.loop-k.state) (events_of events) k (event_of event) (drop (suc k) (events_of events)) c.loop-k.invariant.state rest.0 rest.1 c.in-Some.clause judged t c.loop-k.invariant.task)

pub returns-then-not-state : goal.returns-then-not-state
returns-then-not-state c =
    let events = c.args.events.now in
    let t = arc_value c.args.task in
    let long = length-map events event_of in
    unfinished (contents c.loop-k.state) (events_of events) c.loop-k.k (length events + 1) (omega (arith, c.loop-k-test.false, long)) c.loop-k.invariant.state c.if-not-state.true t c.loop-k.invariant.task (omega (arith, long))

pub returns : goal.returns
returns c =
    let events = c.args.events.now in
    let whole = take_all c.loop-k.k (events_of events) (omega (arith, c.loop-k-test.false, length-map events event_of)) in
    (subst (λ (es : List theory.Event). IsStateAfter es (contents c.loop-k.state)) whole c.loop-k.invariant.state, c.loop-k.invariant.task, c.if-not-state.false)
