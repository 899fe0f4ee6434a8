use Rattle.std.proofs.Common.{ℕ, [], ◌∷◌, Vec, Global}
use Rattle.std.proofs.lemmas.Result.{IfOk-weaker}
use Rattle.sp_words.specs.declared.job.Job.TheVariants.{Show}
use Rattle.sp_tool.specs.Table.{IsTextFor}
use Rattle.sp_tool.specs.declared.fault.Fault.TheVariants.{NoMemory}
use Rattle.sp_tool.proofs.TableLemmas.{on_kept}
use Rattle.sp_tool.proofs.jobs.show_job.Goals as goal

pub returns-in-Err-clause-fault : goal.returns-in-Err-clause-fault
returns-in-Err-clause-fault g c = c.in-Err.ensures.fault

pub returns-in-Ok-clause-text : goal.returns-in-Ok-clause-text
returns-in-Ok-clause-text g c =
    let m = c.in-Ok.ensures.model in
    on_kept (λ (t : Vec ℕ Global). IsTextFor (g.S.Store.folder c.args.store.now) (Show c.args.file.now) t.items) c.show_text.result c.or_no_memory.result NoMemory c.or_no_memory.ensures
    (IfOk-weaker c.show_text.result _ _ (λ t is. (m.0 ∷ [], (m.1, tt), (m.2, (c.in-Ok.model, m.3, is)))) c.show_text.ensures)
