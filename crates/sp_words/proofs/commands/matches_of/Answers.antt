use Rattle.std.proofs.Common.{ap, subst, map, string_bytes, ◌≡◌, ◌∙◌}
use Rattle.std.proofs.lemmas.Result.{IfErr-weaker, IfOk-weaker}
use Rattle.clap.specs.Words.{app_of, is_simple, is_simple_and_free, subcommand_of, takes, fault_of, FailsBy}
use Rattle.sp_words.specs.Apps.{tool_app}
use Rattle.sp_words.proofs.CommandLemmas.{tool_is_simple, tool_is_free}
use Rattle.sp_words.proofs.ParserLemmas.{refuses, passes}
use Rattle.sp_words.proofs.commands.matches_of.Goals as goal

pub returns-clause-matches : goal.returns-clause-matches
returns-clause-matches c =
    let is : app_of c.in_ok-command.command ≡ tool_app = c.in_ok-command.ensures in
    IfOk-weaker c.try_get_matches_from.result _ _ (λ m h. (h (ap is_simple is ∙ tool_is_simple)).1 ∙ ap (λ a. subcommand_of a (map string_bytes c.args.words.now)) is) c.try_get_matches_from.ensures.matches

pub returns-clause-passes : goal.returns-clause-passes
returns-clause-passes c =
    let is : app_of c.in_ok-command.command ≡ tool_app = c.in_ok-command.ensures in
    passes (fault_of tool_app (map string_bytes c.args.words.now)) c.try_get_matches_from.result
    (subst (λ a. FailsBy (fault_of a (map string_bytes c.args.words.now)) c.try_get_matches_from.result) is (c.try_get_matches_from.ensures.kinds (ap is_simple_and_free is ∙ tool_is_free)))

pub returns-clause-refuses : goal.returns-clause-refuses
returns-clause-refuses c =
    let is : app_of c.in_ok-command.command ≡ tool_app = c.in_ok-command.ensures in
    refuses (fault_of tool_app (map string_bytes c.args.words.now)) (takes tool_app (map string_bytes c.args.words.now)) c.try_get_matches_from.result
    (subst (λ a. FailsBy (fault_of a (map string_bytes c.args.words.now)) c.try_get_matches_from.result) is (c.try_get_matches_from.ensures.kinds (ap is_simple_and_free is ∙ tool_is_free)))
    (IfErr-weaker c.try_get_matches_from.result _ _ (λ e h taken. h (ap (λ a. takes a (map string_bytes c.args.words.now)) is ∙ taken)) c.try_get_matches_from.ensures.passes)
