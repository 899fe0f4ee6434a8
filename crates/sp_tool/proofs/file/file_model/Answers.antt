use Rattle.std.proofs.Common.{ℕ, List, subst}
use Rattle.std.proofs.lemmas.Result.{IfErr-weaker}
use Rattle.sp_tool.specs.Inputs.{TellsNone, model_file}
use Rattle.sp_tool.specs.Faults.{TellsReason}
use Rattle.sp_tool.proofs.TableLemmas.{unread_hinders, bytes_hinder}
use Rattle.sp_tool.proofs.file.file_model.Goals as goal

pub returns-in-Ok-clause-fault : goal.returns-in-Ok-clause-fault
returns-in-Ok-clause-fault g c =
    let input = model_file c.args.file.now in
    let told = c.in-Ok.ensures.bytes in
    IfErr-weaker c.model_in.result _ _
    (λ f h. bytes_hinder TellsNone input c.in-Ok.source.items (g.S.Store.folder c.args.store.now) (g.S.Store.folder c.file_bytes.new.store) f told.0 told.1 (subst (λ (b : List ℕ). TellsReason TellsNone input b f) c.as_slice.ensures.value h))
    c.model_in.ensures.fault

pub returns-in-Err-clause-fault : goal.returns-in-Err-clause-fault
returns-in-Err-clause-fault g c = unread_hinders TellsNone (model_file c.args.file.now) (g.S.Store.folder c.args.store.now) (g.S.Store.folder c.file_bytes.new.store) c.in-Err.fault c.in-Err.ensures.fault
