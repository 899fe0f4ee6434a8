use Rattle.std.proofs.Common.{◌≡◌, ◌∙◌, ◌++◌, ◌∷◌, [], sym, ap, subst, arith, ℕ, ◌<◌, List, length, cond, false}
use Rattle.std.specs.List.{list_any}
use Rattle.std.specs.Str.{bytes_eq}
use Rattle.std.proofs.lemmas.List.{take_all}
use Rattle.sp_script.specs.Commands.{name_of, verb_of, is_opening}
use Rattle.sp_script.specs.Served.{opened_names}
use Rattle.sp_concurrent.proofs.Dealing.{new_name, names_to}
use Rattle.sp_concurrent.proofs.deals.sessions_of.Goals as goal

pub enter-requires : goal.enter-requires
enter-requires c = λ opens.
    let x = c.command-item.result in
    let less : c.loop-command.command-index < length c.args.commands.now = omega arith in
    subst (λ (ns : List (List ℕ)). list_any (bytes_eq (name_of x)) ns ≡ false) (sym c.loop-command.invariant)
    (new_name c.args.commands.now c.loop-command.command-index x less c.command-item.is c.requires opens)

pub loop-command-preserved : goal.loop-command-preserved
loop-command-preserved c =
    let x = c.command-item.result in
    let less : c.loop-command.command-index < length c.args.commands.now = omega arith in
    c.in_ok-enter.ensures ∙ ap (λ (ns : List (List ℕ)). ns ++ cond (is_opening (verb_of x)) (name_of x ∷ []) []) c.loop-command.invariant
    ∙ sym (names_to c.args.commands.now c.loop-command.command-index x less c.command-item.is)

pub returns : goal.returns
returns c = c.loop-command.invariant ∙ ap opened_names (take_all c.loop-command.command-index c.args.commands.now (omega arith))
