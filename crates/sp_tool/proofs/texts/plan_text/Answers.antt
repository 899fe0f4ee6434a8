use Rattle.std.proofs.Common.{subst, arith}
use Rattle.sp_read_back.specs.ReadBack.{AreFuncs}
use Rattle.sp_planning.proofs.RunFiles.{script_files_are_run_files}
use Rattle.sp_tool.proofs.PlanTexts.{plan_is}
use Rattle.sp_tool.proofs.texts.plan_text.Goals as goal

pub returns : goal.returns
returns g c =
    let text = c.in_ok-text.text.items in
    let file = c.in_ok-text.ensures in
    plan_is c.args.model c.args.words.now c.args.commands text _ _ c.options.ensures c.picked-chooser.ensures (script_files_are_run_files c.args.model _ _ c.args.commands text file) (λ none. file)
    c.parts.ensures.known (subst AreFuncs c.parts.ensures.value c.functions_law.ensures) (omega (arith, c.len.type_inv, c.len.ensures))
