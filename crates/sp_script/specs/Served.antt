-- Logs that serve a script.
use Rattle.std.specs.Prelude.{◌≡◌, ℕ, ◌++◌, ◌&&◌, Bool, true, false, List, [], ◌∷◌, map, filter, All}
use Rattle.std.specs.Str.{bytes_eq}
use Rattle.sp_theory.specs.Logs.{Entry, told, act, observe, unseen, closing, Log}
use Rattle.sp_script.specs.declared.command.Command.{Command}
use Rattle.sp_script.specs.declared.command.Command.TheVariants.{Open, Act, Observe, Sync, Close}
use Rattle.sp_script.specs.Commands.{name_of, verb_of, is_opening}

-- ---- sessions
-- the names of the sessions, in order of opening
abbrev pub opened_names : List Command → List (List ℕ)
opened_names cs = map name_of (filter (λ c. is_opening (verb_of c)) cs)

-- whether a command asks for an entry of its session's log
abbrev pub asks_entry : Command → Bool
asks_entry (Open name line) = false
asks_entry (Act name line) = true
asks_entry (Observe name line observation) = true
asks_entry (Sync name line) = true
asks_entry (Close name line) = false

-- the commands that ask for entries of that session's log, in order
abbrev pub commands_of : List ℕ → List Command → List Command
commands_of name cs = filter (λ c. bytes_eq name (name_of c) && asks_entry c) cs

-- the commands of the sessions whose names pass, in order
abbrev pub commands_of_some : (List ℕ → Bool) → List Command → List Command
commands_of_some test cs = filter (λ c. test (name_of c)) cs

-- ---- logs
-- the entry is what the command asks for
abbrev pub IsReply : Command → Entry → Type 0
IsReply (Act name line) (act e id action) = Unit {0}
IsReply (Observe name line observation) (observe o) = o ≡ observation
IsReply (Observe name line observation) (unseen o) = o ≡ observation
IsReply (Sync name line) (told e) = Unit {0}
IsReply c x = ⊥

-- one entry for each command, in order
abbrev pub AreReplies : List Command → List Entry → Type 0
AreReplies [] [] = Unit {0}
AreReplies (c ∷ cs) (x ∷ xs) = IsReply c x × AreReplies cs xs
AreReplies [] (x ∷ xs) = ⊥
AreReplies (c ∷ cs) [] = ⊥

-- and then the closing answer
abbrev pub IsWholeReply : List Command → List Entry → Type 0
IsWholeReply cs xs = (front : List Entry) × (e : ℕ) × (id : ℕ) × (action : ℕ) × AreReplies cs front × (xs ≡ front ++ closing e id action ∷ [])

-- the logs are those of the script's sessions, in order of opening, and each replies to its session's commands
pub record AreServed (cs : List Command) (logs : List Log) : Type 0 where
  pub sessions : map (λ log. log.name) logs ≡ opened_names cs
  pub replies : All (λ log. IsWholeReply (commands_of log.name cs) log.entries) logs
