use Rattle.std.proofs.Common.{map, string_bytes, refl, subst}
use Rattle.sp_words.specs.declared.job.Job.TheVariants.{Plan}
use Rattle.sp_tool.specs.Table.{IsConcurrentPlan}
use Rattle.sp_tool.proofs.TableLemmas.{still}
use Rattle.sp_tool.proofs.concurrent.run_gated.Goals as goal

pub returns-in-Ok-Some : goal.returns-in-Ok-Some
returns-in-Ok-Some g c =
    let words = map string_bytes c.args.words.now in
    let store = g.S.Store.folder c.args.store.now in
    let later = g.S.Store.folder c.concurrent_job-text.new.store in
    let asked = subst (IsConcurrentPlan words) c.in-Ok-Some.field-0-is c.in-Ok-Some.ensures in
    let done = c.written.ensures words (Plan c.in-Ok-Some.plan) store later asked.0 c.concurrent_job-text.ensures.text c.concurrent_job-text.ensures.fault in
    c.ended.ensures (record { words = words; store = store; later = later; out = g.K.Sink.written c.args.out.now; end = g.K.Sink.written c.written.new.out }) done c.concurrent_job-text.ensures.later

pub returns-in-Err : goal.returns-in-Err
returns-in-Err g c =
    let store = g.S.Store.folder c.args.store.now in
    let out = g.K.Sink.written c.args.out.now in
    c.ended-in-Err.ensures (record { words = map string_bytes c.args.words.now; store = store; later = store; out = out; end = out }) (refl, refl) (still store)
