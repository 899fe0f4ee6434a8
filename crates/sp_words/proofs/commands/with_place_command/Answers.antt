use Rattle.std.proofs.Common.{ap, ◌∙◌}
use Rattle.std.proofs.lemmas.Result.{IfOk-weaker}
use Rattle.clap.specs.Words.{App, app_of, with_subcommand}
use Rattle.sp_words.proofs.commands.with_place_command.Goals as goal

pub returns : goal.returns
returns c =
    let below = ap (λ (a : App). a.top) c.in_ok-place.ensures.app in
    IfOk-weaker c.subcommand.result _ _ (λ r adds. adds.shape c.in_ok-place.ensures.local ∙ ap (with_subcommand (app_of c.args.command)) below) c.subcommand.ensures
