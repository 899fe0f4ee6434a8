use Rattle.std.proofs.Common.{◌∙◌, ap, ℕ, List}
use Rattle.std.specs.Arc.{arc_value}
use Rattle.sp_value.specs.Events.{events_of}
use Rattle.sp_value.specs.Tasks.{task_of}
use Rattle.sp_audit.specs.Clauses.{clause_of}
use Rattle.sp_judging.specs.Notes.{clause_word, entry_note}
use Rattle.sp_judging.proofs.FormLemmas.{form_is_sampled, form_is_seen, as_many, wrong_log_there}
use Rattle.sp_judging.proofs.Judgements.{event_wrong, entry_wrong, value_wrong}
use Rattle.sp_judging.proofs.judging.judged_plan.Goals as goal

pub judged-requires-clause-sampled : goal.judged-requires-clause-sampled
judged-requires-clause-sampled c =
    let f = c.in-Ok.filed in
    form_is_sampled c.args.source.now (arc_value f.run.task) f.run.events f.values f.transcript c.in-Ok.ensures.ok

pub judged-requires-clause-seen : goal.judged-requires-clause-seen
judged-requires-clause-seen c =
    let f = c.in-Ok.filed in
    form_is_seen c.args.source.now (arc_value f.run.task) f.run.events f.values f.transcript c.in-Ok.ensures.ok

pub wrong_value-requires : goal.wrong_value-requires
wrong_value-requires c =
    let f = c.in-Ok.filed in
    let legal = rw c.in-Ok-Legal.field-0-is at c.in-Ok-Legal.ensures in
    as_many c.args.source.now (arc_value f.run.task) f.run.events f.values f.transcript c.in-Ok.ensures.ok c.in-Ok-Legal.replay legal.1

pub returns-in-Ok-Legal-clause-err : goal.returns-in-Ok-Legal-clause-err
returns-in-Ok-Legal-clause-err c =
    let f = c.in-Ok.filed in
    let legal = rw c.in-Ok-Legal.field-0-is at c.in-Ok-Legal.ensures in
    value_wrong c.args.source.now (arc_value f.run.task) f.run.events f.values f.transcript c.in-Ok.ensures.ok c.in-Some.number c.in_ok-note-in-Some.note.items c.in-Ok-Legal.replay.values
    legal.0 legal.1.values c.in-Some.ensures c.in_ok-note-in-Some.ensures

pub returns-in-Ok-Wrong-None-default-default-clause-err : goal.returns-in-Ok-Wrong-None-default-default-clause-err
returns-in-Ok-Wrong-None-default-default-clause-err c =
    let f = c.in-Ok.filed in
    let w = c.in-Ok-Wrong-None-default-default in
    let judged = rw w.field-0-is at w.ensures in
    let wrong = rw w.field-0-0-is at judged in
    event_wrong c.args.source.now (arc_value f.run.task) f.run.events f.values f.transcript c.in-Ok.ensures.ok w.event w.clause c.in_ok-note-in-Ok-Wrong-None-default-default.note.items
    wrong c.in_ok-note-in-Ok-Wrong-None-default-default.ensures

pub at-requires : goal.at-requires
at-requires c =
    let f = c.in-Ok.filed in
    let w = c.in-Ok-Wrong-Some-default-default in
    let judged = rw w.field-0-is at w.ensures in
    let wrong = rw w.field-0-0-is at judged in
    wrong_log_there (task_of (arc_value f.run.task)) (events_of f.run.events) f.transcript w.place w.event (clause_of w.clause) wrong

pub returns-in-Ok-Wrong-Some-default-default-clause-err : goal.returns-in-Ok-Wrong-Some-default-default-clause-err
returns-in-Ok-Wrong-Some-default-default-clause-err c =
    let f = c.in-Ok.filed in
    let w = c.in-Ok-Wrong-Some-default-default in
    let judged = rw w.field-0-is at w.ensures in
    let wrong = rw w.field-0-0-is at judged in
    entry_wrong c.args.source.now (arc_value f.run.task) f.run.events f.values f.transcript c.in-Ok.ensures.ok w.place w.event w.clause c.at.result.now c.in_ok-note-in-Ok-Wrong-Some-default-default.note.items
    wrong c.at.ensures (c.in_ok-note-in-Ok-Wrong-Some-default-default.ensures ∙ ap (λ (name : List ℕ). entry_note name w.event (clause_word w.clause)) c.bytes-name.ensures)
