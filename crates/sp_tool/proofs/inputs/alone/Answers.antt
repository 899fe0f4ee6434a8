use Rattle.std.proofs.Common.{List, [], ◌∷◌, None, subst}
use Rattle.sp_script.specs.declared.command.Command.{Command}
use Rattle.sp_tool.specs.Texts.{IsPlanText}
use Rattle.sp_tool.proofs.SecondFiles.{plan_hinders, plan_text_of}
use Rattle.sp_tool.proofs.inputs.alone.Goals as goal

pub returns-in-Err-clause-fault : goal.returns-in-Err-clause-fault
returns-in-Err-clause-fault g c = plan_hinders c.args.words.now None (g.S.Store.folder c.args.store.now) (g.S.Store.folder c.file_model.new.store) c.in-Err.fault c.requires (rw c.as_str.ensures at c.in-Err.ensures.fault)

pub returns-in-Ok-clause-inputs : goal.returns-in-Ok-clause-inputs
returns-in-Ok-clause-inputs g c =
    let store = g.S.Store.folder c.args.store.now in
    let m = rw c.as_str.ensures at c.in-Ok.ensures.model in
    λ text is. plan_text_of c.args.words.now None store (m.0 ∷ []) text c.requires (m.1, tt)
    (c.requires, (m.2, (c.in-Ok.model, m.3, subst (λ (cs : List Command). IsPlanText c.in-Ok.model c.args.words.now cs text) c.new.ensures is)))
