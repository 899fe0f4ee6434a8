-- How far the sessions of a script have come.
use Rattle.std.specs.Prelude.{◌≡◌, ℕ, ◌≤◌, Bool, true, false, List, [], map, All, IsSome}
use Rattle.sp_theory.specs.Model.{Model}
use Rattle.sp_theory.specs.Logs.{Log}
use Rattle.sp_script.specs.declared.command.Command.{Command}
use Rattle.sp_script.specs.Commands.{was_asked, is_opening, has_answer}
use Rattle.sp_script.specs.Served.{opened_names, commands_of}
use Rattle.sp_serving.specs.Replies.{session_in}

-- a session that has seen no edition after that number, and has an answer to observe after where the commands before say so
pub record IsReady (m : Model) (before : List Command) (n : ℕ) (log : Log) : Type 0 where
  pub newest : (session_in m log).newest ≤ n
  pub answer : has_answer log.name before ≡ true → IsSome (session_in m log).acted

-- a name that wasn't opened has no command
pub record IsIdle (before : List Command) (name : List ℕ) : Type 0 where
  pub answer : has_answer name before ≡ false
  pub commands : commands_of name before ≡ []

-- the logs are those of the sessions that were opened so far, and each is ready
pub record AreUnderWay (m : Model) (before : List Command) (n : ℕ) (logs : List Log) : Type 0 where
  pub names : map (λ log. log.name) logs ≡ opened_names before
  pub ready : All (IsReady m before n) logs
  pub idle : (name : List ℕ) → was_asked is_opening name before ≡ false → IsIdle before name
