-- What a script's commands bring to the logs of its sessions.
use Rattle.std.specs.Prelude.{ℕ, ◌++◌, List, [], ◌∷◌, length, map, cond, is_some}
use Rattle.std.specs.Str.{bytes_eq}
use Rattle.sp_theory.specs.Model.{Model}
use Rattle.sp_theory.specs.Values.{Edition, Member, greatest_member}
use Rattle.sp_theory.specs.Book.{Book}
use Rattle.sp_theory.specs.Logs.{Entry, told, act, observe, unseen, closing, Session, opening_session, weights_after_observation, session_after, Log}
use Rattle.sp_script.specs.declared.command.Command.{Command}
use Rattle.sp_script.specs.declared.command.Command.TheVariants.{Open, Act, Observe, Sync, Close}
use Rattle.sp_script.specs.Commands.{name_of, verb_of, is_opening}

-- ---- one session
-- an edition that sessions see, with its number
abbrev pub Shown : Type 0
Shown = ℕ × Edition

-- the newest edition of a run
abbrev pub newest_of : Book → Shown
newest_of b = (length b.earlier, b.latest)

-- what a session knows after its log so far
abbrev pub session_in : Model → Log → Session
session_in m log = session_after m (opening_session m) log.entries

-- the greatest member of an edition at the session's belief
abbrev pub answer_in : Model → Shown → Log → Member
answer_in m shown log = greatest_member m shown.1 (session_in m log).weights

-- what a command brings to the log of its session where that edition is the newest: an answer on it, an observation, or its number. An opening and a close bring nothing
abbrev pub reply : Model → Shown → Log → Command → List Entry
reply m shown log (Open name line) = []
reply m shown log (Act name line) = act shown.0 (answer_in m shown log).id (answer_in m shown log).action ∷ []
reply m shown log (Observe name line o) = cond (is_some (weights_after_observation m (session_in m log) o)) (observe o) (unseen o) ∷ []
reply m shown log (Sync name line) = told shown.0 ∷ []
reply m shown log (Close name line) = []

-- a log after a command of its session
abbrev pub log_after_command : Model → Shown → Command → Log → Log
log_after_command m shown c log = record log { entries = log.entries ++ reply m shown log c }

-- a log after a command of some session
abbrev pub log_with : Model → Shown → Command → Log → Log
log_with m shown c log = cond (bytes_eq log.name (name_of c)) (log_after_command m shown c log) log

-- a log with the closing answer on that edition
abbrev pub closed_on : Model → Shown → Log → Log
closed_on m last log = record log { entries = log.entries ++ closing last.0 (answer_in m last log).id (answer_in m last log).action ∷ [] }

-- ---- all sessions
-- the log of a session that is opened
abbrev pub new_log : Command → Log
new_log c = record { name = name_of c; entries = [] }

-- all logs after a command, in order of opening
abbrev pub logs_with : Model → Shown → List Log → Command → List Log
logs_with m shown logs c = cond (is_opening (verb_of c)) (logs ++ new_log c ∷ []) (map (log_with m shown c) logs)

-- all logs after some commands: one on each of the editions that are shown, as long as there are commands and editions, and the rest on the last one
unfoldable pub logs_after : Model → List Shown → Shown → List Log → List Command → List Log
logs_after m shown last logs [] = logs
logs_after m [] last logs (c ∷ cs) = logs_after m [] last (logs_with m last logs c) cs
logs_after m (first ∷ shown) last logs (c ∷ cs) = logs_after m shown last (logs_with m first logs c) cs

-- the logs of a script whose commands are served so, with the closing answers on the last edition
abbrev pub transcript_of : Model → List Shown → Shown → List Command → List Log
transcript_of m shown last cs = map (closed_on m last) (logs_after m shown last [] cs)
