use Rattle.std.proofs.Common.{ℕ, List, subst}
use Rattle.std.proofs.lemmas.Result.{IfOk-weaker, IfErr-weaker}
use Rattle.std.specs.Arc.{arc_value}
use Rattle.sp_judging.specs.PlanFiles.{IsLegalFile}
use Rattle.sp_tool.specs.Inputs.{TellsNone, plan_file}
use Rattle.sp_tool.specs.Faults.{TellsReason}
use Rattle.sp_tool.proofs.TableLemmas.{unread_hinders, bytes_hinder}
use Rattle.sp_tool.proofs.plans.file_plan.Goals as goal

pub returns-in-Ok-clause-plan : goal.returns-in-Ok-clause-plan
returns-in-Ok-clause-plan g c =
    let told = c.in-Ok.ensures.bytes in
    IfOk-weaker c.plan_in.result _ _
    (λ p h. (c.in-Ok.source.items, told.0, told.1, subst (λ (b : List ℕ). IsLegalFile b (arc_value p.filed.run.task) p.filed.run.events p.filed.values p.filed.transcript) c.as_slice.ensures.value h))
    c.plan_in.ensures.plan

pub returns-in-Ok-clause-fault : goal.returns-in-Ok-clause-fault
returns-in-Ok-clause-fault g c =
    let input = plan_file c.args.file.now in
    let told = c.in-Ok.ensures.bytes in
    IfErr-weaker c.plan_in.result _ _
    (λ f h. bytes_hinder TellsNone input c.in-Ok.source.items (g.S.Store.folder c.args.store.now) (g.S.Store.folder c.file_bytes.new.store) f told.0 told.1 (subst (λ (b : List ℕ). TellsReason TellsNone input b f) c.as_slice.ensures.value h))
    c.plan_in.ensures.fault

pub returns-in-Err-clause-fault : goal.returns-in-Err-clause-fault
returns-in-Err-clause-fault g c = unread_hinders TellsNone (plan_file c.args.file.now) (g.S.Store.folder c.args.store.now) (g.S.Store.folder c.file_bytes.new.store) c.in-Err.fault c.in-Err.ensures.fault
