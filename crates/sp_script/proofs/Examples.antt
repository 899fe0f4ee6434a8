-- Scripts and logs, worked out.
use Rattle.std.proofs.Common.{◌≡◌, ℕ, List, [], ◌∷◌, Some, None, refl, arith}
use Rattle.std.specs.Prelude.{codes}
use Rattle.std.specs.Str.Lines.{lines}
use Rattle.sp_model.specs.declared.parts.Decl.{Decl}
use Rattle.std.proofs.lemmas.List.Elements.{All-cons}
use Rattle.sp_theory.specs.Logs.{told, act, unseen, closing, Log}
use Rattle.sp_script.specs.declared.command.Command.{Command}
use Rattle.sp_script.specs.declared.command.Command.TheVariants.{Open, Act, Observe, Sync}
use Rattle.sp_script.specs.declared.error.ScriptKind.TheVariants.{NotOpen, Twice, NoAction}
use Rattle.sp_script.specs.declared.request.Verb.TheVariants.{Opening, Asking, Observing}
use Rattle.sp_script.specs.Lines.{words_of}
use Rattle.sp_script.specs.Requests.{request_of}
use Rattle.sp_script.specs.Commands.{BreaksAfter}
use Rattle.sp_script.specs.Script.{commands_on}
use Rattle.sp_script.specs.Served.{AreServed, IsWholeReply, commands_of}

-- the robot's observation variables
robot : List Decl
robot = record { name = codes "sees"; values = codes "dock" ∷ codes "hall" ∷ codes "room" ∷ [] } ∷ record { name = codes "hears"; values = codes "quiet" ∷ codes "call" ∷ [] } ∷ []

-- a comment, an empty line, a line that ends with CR and LF, and one that the text's end ends
text : List ℕ
text = codes "// two\n\nopen a\r\nopen b\nact a\n\tobserve  a room quiet \nsync b"

commands : List Command
commands = Open (codes "a") 3 ∷ Open (codes "b") 4 ∷ Act (codes "a") 5 ∷ Observe (codes "a") 6 4 ∷ Sync (codes "b") 7 ∷ []

example_commands : commands_on robot 0 (lines text) ≡ commands
unfolding robot text commands
example_commands = refl

-- the faults of single lines, after those commands
example_bad_line : request_of robot (words_of (codes "observe a room")) ≡ None
unfolding robot
example_bad_line = refl

example_not_open : BreaksAfter commands (Asking, codes "c") NotOpen
unfolding commands
example_not_open = (refl, refl)

example_twice : BreaksAfter commands (Opening, codes "a") Twice
unfolding commands
example_twice = (refl, refl)

example_no_action : BreaksAfter commands (Observing (Some 0), codes "a") NoAction
unfolding commands
example_no_action = (refl, refl)

example_unknown_value : request_of robot (words_of (codes "observe a room loud")) ≡ Some (Observing None, codes "a")
unfolding robot
example_unknown_value = refl

-- logs that serve them: of a the answer, the observation or that it is ruled out, and the closing answer; of b what it is told, and the closing answer
log_of_a : Log
log_of_a = record { name = codes "a"; entries = act 1 1 0 ∷ unseen 4 ∷ closing 2 2 0 ∷ [] }

log_of_b : Log
log_of_b = record { name = codes "b"; entries = told 1 ∷ closing 2 2 0 ∷ [] }

example_served : AreServed commands (log_of_a ∷ log_of_b ∷ [])
unfolding commands log_of_a log_of_b
example_served = record {
  sessions = refl;
  replies = All-cons (λ (log : Log). IsWholeReply (commands_of log.name commands) log.entries) log_of_a (log_of_b ∷ []) (act 1 1 0 ∷ unseen 4 ∷ [], 2, 2, 0, (tt, (refl, tt)), refl)
      (All-cons (λ (log : Log). IsWholeReply (commands_of log.name commands) log.entries) log_of_b [] (told 1 ∷ [], 2, 2, 0, (tt, tt), refl) (λ k d less. absurd (omega (arith, less))));
}
