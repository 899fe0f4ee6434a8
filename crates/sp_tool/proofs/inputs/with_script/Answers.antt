use Rattle.std.proofs.Common.{[], ◌∷◌, Some}
use Rattle.sp_tool.specs.Inputs.{model_file, script_file}
use Rattle.sp_tool.proofs.SecondFiles.{first_hinders, plan_hinders, script_plan_text_of, script_plan_hinders}
use Rattle.sp_tool.proofs.inputs.with_script.Goals as goal

pub returns-in-Err-clause-fault : goal.returns-in-Err-clause-fault
returns-in-Err-clause-fault g c =
    let p = c.args.words.now in
    plan_hinders p (Some c.args.script.now) (g.S.Store.folder c.args.store.now) (g.S.Store.folder c.file_model.new.store) c.in-Err.fault c.requires
    (first_hinders (g.S.Store.folder c.args.store.now) (model_file p.model) (script_file c.args.script.now ∷ []) (g.S.Store.folder c.file_model.new.store) c.in-Err.fault (rw c.as_str.ensures at c.in-Err.ensures.fault))

pub returns-in-Err-file_script-clause-fault : goal.returns-in-Err-file_script-clause-fault
returns-in-Err-file_script-clause-fault g c =
    let m = rw c.as_str.ensures at c.in-Ok.ensures.model in
    script_plan_hinders c.args.words.now c.args.script.now c.requires (g.S.Store.folder c.args.store.now) (g.S.Store.folder c.file_model.new.store) c.file_model.ensures.later m.0 c.in-Ok.model m.1 m.2 m.3
    (g.S.Store.folder c.file_script.new.store) c.in-Err-file_script.fault c.in-Err-file_script.ensures.fault

pub returns-in-Ok-file_script-clause-inputs : goal.returns-in-Ok-file_script-clause-inputs
returns-in-Ok-file_script-clause-inputs g c =
    let m = rw c.as_str.ensures at c.in-Ok.ensures.model in
    let s = c.in-Ok-file_script.ensures.commands in
    λ text is. script_plan_text_of c.args.words.now c.args.script.now c.requires (g.S.Store.folder c.args.store.now) (g.S.Store.folder c.file_model.new.store) c.file_model.ensures.later m.0 c.in-Ok.model m.1 m.2 m.3
    s.0 c.in-Ok-file_script.commands text s.1 s.2 s.3 is
