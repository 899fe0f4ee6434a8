-- The commands as the parser of command lines reads them.
use Rattle.std.specs.Prelude.{ℕ, List, [], ◌∷◌, Some, true, codes}
use Rattle.clap.specs.Words.{App, Rule, new_app, new_rule, with_rule, with_subcommand}
use Rattle.clap.specs.declared.builder.ArgAction.TheVariants.{SetTrue}

-- a word by itself
abbrev pub place_rule : List ℕ → Rule
place_rule id = record (new_rule id) { required = true }

-- an option that has to be there, with its value
abbrev pub option_rule : List ℕ → Rule
option_rule id = record (new_rule id) { long = Some id; required = true }

abbrev pub prune_rule : Rule
prune_rule = record (new_rule (codes "prune")) { long = Some (codes "prune"); action = Some SetTrue }

abbrev pub explore_rule : Rule
explore_rule = record (new_rule (codes "explore")) { long = Some (codes "explore"); defaults = codes "uniform" ∷ [] }

-- an option that need not be there, with its value
abbrev pub sessions_rule : Rule
sessions_rule = record (new_rule (codes "sessions")) { long = Some (codes "sessions") }

-- a command with one word by itself
abbrev pub place_app : List ℕ → List ℕ → App
place_app name id = with_rule (new_app name) (place_rule id)

abbrev pub numbers_app : App
numbers_app =
    with_rule (with_rule (with_rule (with_rule (with_rule (place_app (codes "plan") (codes "model"))
    (option_rule (codes "beliefs"))) (option_rule (codes "depth"))) (option_rule (codes "stages")))
    (option_rule (codes "seed"))) (option_rule (codes "workers"))

abbrev pub choices_app : App
choices_app = with_rule (with_rule numbers_app prune_rule) explore_rule

abbrev pub plan_app : App
plan_app = with_rule choices_app sessions_rule

abbrev pub act_app : App
act_app = with_rule (place_app (codes "act") (codes "plan")) (place_rule (codes "script"))

-- the words begin with the command, which has to be there
abbrev pub top_app : App
top_app = record { top = record (new_app (codes "perseus")).top { no_binary_name = true; subcommand_required = true }; subs = [] }

-- the command with one more, which has one word by itself
abbrev pub with_place : App → List ℕ → List ℕ → App
with_place app name id = with_subcommand app (place_app name id).top

abbrev pub tool_app : App
tool_app =
    with_subcommand (with_place (with_place (with_place (with_place (with_place (with_place (with_subcommand top_app plan_app.top)
    (codes "check") (codes "model")) (codes "show") (codes "model")) (codes "gen") (codes "number"))
    (codes "trial") (codes "number")) (codes "audit") (codes "plan")) (codes "migrate") (codes "plan")) act_app.top
