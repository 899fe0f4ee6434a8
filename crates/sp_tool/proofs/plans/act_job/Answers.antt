use Rattle.std.proofs.Common.{[], ◌∷◌, ◌∙◌, ap, subst}
use Rattle.std.specs.Prelude.{All}
use Rattle.std.specs.Arc.{arc_value}
use Rattle.sp_theory.specs.Points.{count_of}
use Rattle.sp_model.specs.Problem.{sizes_of}
use Rattle.sp_script.specs.Laws.{IsObservationWithin}
use Rattle.sp_model.specs.declared.parts.Parts.{Parts}
use Rattle.sp_value.specs.Tasks.{TaskParts}
use Rattle.sp_script.specs.Script.{IsScript}
use Rattle.sp_tool.specs.Inputs.{plan_file, script_file}
use Rattle.sp_tool.proofs.SecondFiles.{first_hinders, act_text_of, act_hinders, later_still}
use Rattle.sp_tool.proofs.plans.act_job.Goals as goal

pub returns-in-Err-clause-fault : goal.returns-in-Err-clause-fault
returns-in-Err-clause-fault g c = first_hinders (g.S.Store.folder c.args.store.now) (plan_file c.args.file.now) (script_file c.args.script.now ∷ []) (g.S.Store.folder c.file_plan.new.store) c.in-Err.fault c.in-Err.ensures.fault

pub returns-in-Err-file_script-clause-fault : goal.returns-in-Err-file_script-clause-fault
returns-in-Err-file_script-clause-fault g c =
    let p = c.in-Ok.ensures.plan in
    let run = c.in-Ok.plan.filed.run in
    act_hinders c.args.file.now c.args.script.now (g.S.Store.folder c.args.store.now) (g.S.Store.folder c.file_plan.new.store) c.file_plan.ensures.later p.0 p.1 p.2 (arc_value run.task) run.events c.in-Ok.plan.filed.values c.in-Ok.plan.filed.transcript p.3
    c.model.result.now (g.S.Store.folder c.file_script.new.store) c.in-Err-file_script.fault (c.model.ensures.value ∙ ap (λ (t : TaskParts). t.model) c.deref.ensures) c.in-Err-file_script.ensures.fault

pub returns-clause-text : goal.returns-clause-text
returns-clause-text g c =
    let p = c.in-Ok.ensures.plan in
    let run = c.in-Ok.plan.filed.run in
    let s = c.in-Ok-file_script.ensures.commands in
    act_text_of c.args.file.now c.args.script.now (g.S.Store.folder c.args.store.now) (g.S.Store.folder c.file_plan.new.store) c.file_plan.ensures.later p.0 p.1 p.2 (arc_value run.task) run.events c.in-Ok.plan.filed.values c.in-Ok.plan.filed.transcript p.3
    s.0 c.in-Ok-file_script.commands c.in_ok-text.text.items s.1 s.2 (subst (λ (m : Parts). IsScript m.sights s.0 c.in-Ok-file_script.commands) (c.model.ensures.value ∙ ap (λ (t : TaskParts). t.model) c.deref.ensures) s.3) c.in_ok-text.ensures

pub act_text-requires-clause-commands : goal.act_text-requires-clause-commands
act_text-requires-clause-commands g c =
    subst (λ (m : Parts). All (IsObservationWithin (count_of (sizes_of m.sights))) c.in-Ok-file_script.commands) (c.model.ensures.value ∙ ap (λ (t : TaskParts). t.model) c.deref.ensures) c.in-Ok-file_script.ensures.within

pub returns-in_err-text-clause-later : goal.returns-in_err-text-clause-later
returns-in_err-text-clause-later g c = later_still (g.S.Store.folder c.args.store.now) (g.S.Store.folder c.file_plan.new.store) (g.S.Store.folder c.file_script.new.store) c.file_plan.ensures.later c.file_script.ensures.later

pub returns-clause-later : goal.returns-clause-later
returns-clause-later g c = later_still (g.S.Store.folder c.args.store.now) (g.S.Store.folder c.file_plan.new.store) (g.S.Store.folder c.file_script.new.store) c.file_plan.ensures.later c.file_script.ensures.later
