use Rattle.std.proofs.Common.{subst, arith}
use Rattle.sp_read_back.specs.ReadBack.{AreFuncs}
use Rattle.sp_tool.proofs.PlanTexts.{plan_is}
use Rattle.sp_tool.proofs.concurrent.concurrent_text.Goals as goal

pub returns : goal.returns
returns g c =
    plan_is c.args.model c.args.words.now c.args.commands c.in_ok-text.text.items _ _ c.options.ensures c.picked-chooser.ensures c.in_ok-text.ensures (λ none. absurd (omega (arith, none, c.requires.workers)))
    c.parts.ensures.known (subst AreFuncs c.parts.ensures.value c.functions_law.ensures) (omega (arith, c.len.type_inv, c.len.ensures))
