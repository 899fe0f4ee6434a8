-- The laws of scripts, as the functions of this crate state them.
use Rattle.std.specs.Prelude.{◌≡◌, ◌↔◌, ℕ, ◌<◌, Bool, List, filter, Some, All}
use Rattle.sp_theory.specs.Points.{count_of}
use Rattle.sp_theory.specs.Logs.{Log}
use Rattle.sp_model.specs.declared.parts.Decl.{Decl}
use Rattle.sp_model.specs.Kept.{IsDecl}
use Rattle.sp_model.specs.Problem.{sizes_of}
use Rattle.sp_script.specs.declared.command.Command.{Command}
use Rattle.sp_script.specs.declared.command.Command.TheVariants.{Open, Act, Observe, Sync, Close}
use Rattle.sp_script.specs.declared.error.ScriptKind.{ScriptKind}
use Rattle.sp_script.specs.declared.error.ScriptError.TheVariants.{Fault}
use Rattle.sp_script.specs.declared.request.Verb.{Verb}
use Rattle.sp_script.specs.Requests.{observation_of, request_of}
use Rattle.sp_script.specs.Commands.{AreCommands}
use Rattle.sp_script.specs.Grammar.{IsObservation, WordsSay}
use Rattle.sp_script.specs.Script.{IsScriptRefused, IsScript}
use Rattle.sp_script.specs.Served.{AreServed, commands_of_some}

-- ---- lines
-- the request of a line is what its words say
abbrev pub RequestsAreSaid : Type 0
RequestsAreSaid = (sights : List Decl) (words : List (List ℕ)) (verb : Verb) (name : List ℕ) → (request_of sights words ≡ Some (verb, name)) ↔ WordsSay sights words verb name

-- values have a number where it is that of the joint observation of their names
abbrev pub ObservationsAreNamed : Type 0
ObservationsAreNamed = (sights : List Decl) → All IsDecl sights → (values : List (List ℕ)) (o : ℕ) → (observation_of sights values ≡ Some o) ↔ IsObservation sights values o

-- ---- scripts
-- the joint observation of a command is below the count of all
abbrev pub IsObservationWithin : ℕ → Command → Type 0
IsObservationWithin n (Open name line) = Unit {0}
IsObservationWithin n (Act name line) = Unit {0}
IsObservationWithin n (Observe name line observation) = observation < n
IsObservationWithin n (Sync name line) = Unit {0}
IsObservationWithin n (Close name line) = Unit {0}

-- in a script each is
abbrev pub ObservationsAreWithin : Type 0
ObservationsAreWithin = (sights : List Decl) → All IsDecl sights → (source : List ℕ) (cs : List Command) → IsScript sights source cs → All (IsObservationWithin (count_of (sizes_of sights))) cs

-- a script isn't refused
abbrev pub ScriptsAreNotRefused : Type 0
ScriptsAreNotRefused = (sights : List Decl) (source : List ℕ) (cs : List Command) (line : ℕ) (kind : ScriptKind) → IsScript sights source cs → ¬ IsScriptRefused sights source (Fault line kind)

-- a text is refused at one line, by one kind
abbrev pub TextsAreRefusedOnce : Type 0
TextsAreRefusedOnce = (sights : List Decl) (source : List ℕ) (line other_line : ℕ) (kind other_kind : ScriptKind) → IsScriptRefused sights source (Fault line kind) → IsScriptRefused sights source (Fault other_line other_kind) → (line ≡ other_line) × (kind ≡ other_kind)

-- ---- some of the sessions
-- the commands of some sessions are commands again
abbrev pub SomeSessionsHaveCommands : Type 0
SomeSessionsHaveCommands = (test : List ℕ → Bool) (cs : List Command) → AreCommands cs → AreCommands (commands_of_some test cs)

-- and where all are served, they are served by their logs
abbrev pub SomeSessionsAreServed : Type 0
SomeSessionsAreServed = (test : List ℕ → Bool) (cs : List Command) (logs : List Log) → AreServed cs logs → AreServed (commands_of_some test cs) (filter (λ log. test log.name) logs)
