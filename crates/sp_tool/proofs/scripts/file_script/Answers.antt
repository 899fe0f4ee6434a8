use Rattle.std.proofs.Common.{◌≡◌, ℕ, List, subst}
use Rattle.std.proofs.lemmas.Result.{IfOk-weaker, IfErr-weaker}
use Rattle.sp_model.specs.declared.parts.Parts.{Parts}
use Rattle.sp_script.specs.Script.{IsScript}
use Rattle.sp_tool.specs.Inputs.{script_file}
use Rattle.sp_tool.specs.Faults.{TellsReason}
use Rattle.sp_tool.proofs.TableLemmas.{unread_hinders, bytes_hinder}
use Rattle.sp_tool.proofs.scripts.file_script.Goals as goal

pub returns-in-Ok-clause-commands : goal.returns-in-Ok-clause-commands
returns-in-Ok-clause-commands g c =
    let told = c.in-Ok.ensures.bytes in
    IfOk-weaker c.script_in.result _ _
    (λ cs h. (c.in-Ok.source.items, told.0, told.1, subst (λ (b : List ℕ). IsScript c.args.model.now.sights b cs) c.as_slice.ensures.value h))
    c.script_in.ensures.commands

pub returns-in-Ok-clause-fault : goal.returns-in-Ok-clause-fault
returns-in-Ok-clause-fault g c =
    let input = script_file c.args.file.now in
    let told = c.in-Ok.ensures.bytes in
    let model : Parts → Type 0 = λ m. m ≡ c.args.model.now in
    IfErr-weaker c.script_in.result _ _
    (λ f h. bytes_hinder model input c.in-Ok.source.items (g.S.Store.folder c.args.store.now) (g.S.Store.folder c.file_bytes.new.store) f told.0 told.1 (subst (λ (b : List ℕ). TellsReason model input b f) c.as_slice.ensures.value h))
    c.script_in.ensures.fault

pub returns-in-Err-clause-fault : goal.returns-in-Err-clause-fault
returns-in-Err-clause-fault g c = unread_hinders (λ m. m ≡ c.args.model.now) (script_file c.args.file.now) (g.S.Store.folder c.args.store.now) (g.S.Store.folder c.file_bytes.new.store) c.in-Err.fault c.in-Err.ensures.fault
