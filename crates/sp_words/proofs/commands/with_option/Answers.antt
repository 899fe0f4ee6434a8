use Rattle.std.proofs.Common.{ap₂, ◌||◌, ◌∙◌}
use Rattle.std.proofs.lemmas.Result.{IfOk-weaker}
use Rattle.sp_words.proofs.commands.with_option.Goals as goal

pub returns-clause-local : goal.returns-clause-local
returns-clause-local c = IfOk-weaker c.arg.result _ _ (λ r adds. adds.globals ∙ ap₂ (λ x y. x || y) c.requires c.option.ensures.local) c.arg.ensures
