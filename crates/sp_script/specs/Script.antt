-- The commands of a script, and the lines that are at fault.
use Rattle.std.specs.Prelude.{◌≡◌, ◌⊎◌, ℕ, ◌+◌, ◌<◌, ⊤, false, List, [], ◌∷◌, ◌++◌, take, slice_get, Option, Some, None, option_and_then, if◌then◌else◌}
use Rattle.std.specs.Option.{option_to_list}
use Rattle.std.specs.Str.Lines.{lines}
use Rattle.sp_model.specs.declared.parts.Decl.{Decl}
use Rattle.sp_script.specs.declared.command.Command.{Command}
use Rattle.sp_script.specs.declared.command.Command.TheVariants.{Open, Act, Observe, Sync, Close}
use Rattle.sp_script.specs.declared.error.ScriptKind.{ScriptKind}
use Rattle.sp_script.specs.declared.error.ScriptKind.TheVariants.{BadLine, NotOpen, Twice, NoAction, UnknownValue, TooMany}
use Rattle.sp_script.specs.declared.error.ScriptError.{ScriptError}
use Rattle.sp_script.specs.declared.error.ScriptError.TheVariants.{Fault, NoMemory}
use Rattle.sp_script.specs.declared.request.Verb.TheVariants.{Opening, Asking, Observing, Syncing, Closing}
use Rattle.sp_script.specs.Lines.{words_of, is_skipped}
use Rattle.sp_script.specs.Requests.{Request, request_of}
use Rattle.sp_script.specs.Commands.{BreaksAfter}

-- ---- commands
-- the command that a request is, from the line of that number; none where it observes what isn't known
abbrev pub command_of : ℕ → Request → Option Command
command_of line (Opening, name) = Some (Open name line)
command_of line (Asking, name) = Some (Act name line)
command_of line (Observing (Some observation), name) = Some (Observe name line observation)
command_of line (Observing None, name) = None
command_of line (Syncing, name) = Some (Sync name line)
command_of line (Closing, name) = Some (Close name line)

-- the command on a line of that number, if it has one
abbrev pub command_on : List Decl → ℕ → List ℕ → Option Command
command_on sights number line = if is_skipped (words_of line) then None else option_and_then (command_of number) (request_of sights (words_of line))

-- the commands on lines that are numbered from one more than that
abbrev pub commands_on : List Decl → ℕ → List (List ℕ) → List Command
commands_on sights number [] = []
commands_on sights number (line ∷ more) = option_to_list (command_on sights (number + 1) line) ++ commands_on sights (number + 1) more

-- the commands on the first k lines of a script
abbrev pub commands_before : List Decl → List ℕ → ℕ → List Command
commands_before sights source k = commands_on sights 0 (take k (lines source))

-- ---- faults
-- what the line breaks: its grammar, or a rule after the commands before it
abbrev pub BreaksRule : List Command → Option Request → ScriptKind → Type 0
BreaksRule before None kind = kind ≡ BadLine
BreaksRule before (Some request) kind = BreaksAfter before request kind

-- the line behind the first k isn't skipped, and is at fault in that way
abbrev pub HasFault : List Decl → List ℕ → ℕ → ScriptKind → Type 0
HasFault sights source k kind =
    (line : List ℕ) × (slice_get (lines source) k ≡ Some line) × (is_skipped (words_of line) ≡ false)
    × BreaksRule (commands_before sights source k) (request_of sights (words_of line)) kind

-- the order of the kinds
abbrev pub kinds : List ScriptKind
kinds = BadLine ∷ NotOpen ∷ Twice ∷ NoAction ∷ UnknownValue ∷ TooMany 1024 ∷ []

-- of kinds in order, the first one that holds
abbrev pub IsFirstKind : (ScriptKind → Type 0) → List ScriptKind → ScriptKind → Type 0
IsFirstKind P [] kind = ⊥
IsFirstKind P (first ∷ more) kind = ((kind ≡ first) × P first) ⊎ ((¬ P first) × IsFirstKind P more kind)

-- ---- what is read
-- a script and its commands: no line is at fault
pub record IsScript (sights : List Decl) (source : List ℕ) (cs : List Command) : Type 0 where
  pub commands : cs ≡ commands_on sights 0 (lines source)
  pub faultless : (k : ℕ) (kind : ScriptKind) → ¬ HasFault sights source k kind

-- the line behind the first k is the first that is at fault, and that is its first fault
pub record IsFirstFault (sights : List Decl) (source : List ℕ) (k : ℕ) (kind : ScriptKind) : Type 0 where
  pub fault : IsFirstKind (HasFault sights source k) kinds kind
  pub earlier : (j : ℕ) (other : ScriptKind) → j < k → ¬ HasFault sights source j other

-- why a text is no script: lines are numbered from 1
abbrev pub IsScriptRefused : List Decl → List ℕ → ScriptError → Type 0
IsScriptRefused sights source (Fault line kind) = (k : ℕ) × (line ≡ k + 1) × IsFirstFault sights source k kind
IsScriptRefused sights source NoMemory = ⊤
