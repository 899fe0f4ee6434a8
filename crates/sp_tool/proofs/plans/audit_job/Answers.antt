use Rattle.std.proofs.Common.{ℕ, List, [], ◌∷◌, subst}
use Rattle.std.proofs.lemmas.Result.{IfOk-weaker, IfErr-weaker}
use Rattle.sp_judging.specs.PlanFiles.{IsAuditText}
use Rattle.sp_tool.specs.Inputs.{TellsNone, plan_file}
use Rattle.sp_tool.specs.Faults.{TellsReason}
use Rattle.sp_tool.proofs.TableLemmas.{unread_hinders, bytes_hinder}
use Rattle.sp_tool.proofs.plans.audit_job.Goals as goal

pub returns-in-Ok-clause-text : goal.returns-in-Ok-clause-text
returns-in-Ok-clause-text g c =
    let told = c.in-Ok.ensures.bytes in
    IfOk-weaker c.audit_in.result _ _
    (λ t h. (c.in-Ok.source.items ∷ [], (told.0, tt), (told.1, subst (λ (b : List ℕ). IsAuditText b t.items) c.as_slice.ensures.value h)))
    c.audit_in.ensures.text

pub returns-in-Ok-clause-fault : goal.returns-in-Ok-clause-fault
returns-in-Ok-clause-fault g c =
    let input = plan_file c.args.file.now in
    let told = c.in-Ok.ensures.bytes in
    IfErr-weaker c.audit_in.result _ _
    (λ f h. bytes_hinder TellsNone input c.in-Ok.source.items (g.S.Store.folder c.args.store.now) (g.S.Store.folder c.file_bytes.new.store) f told.0 told.1 (subst (λ (b : List ℕ). TellsReason TellsNone input b f) c.as_slice.ensures.value h))
    c.audit_in.ensures.fault

pub returns-in-Err-clause-fault : goal.returns-in-Err-clause-fault
returns-in-Err-clause-fault g c = unread_hinders TellsNone (plan_file c.args.file.now) (g.S.Store.folder c.args.store.now) (g.S.Store.folder c.file_bytes.new.store) c.in-Err.fault c.in-Err.ensures.fault
