-- How sessions stand after commands, as the ledger keeps it.
use Rattle.std.specs.Prelude.{◌≡◌, ℕ, ◌++◌, ⊤, Bool, true, false, List, [], ◌∷◌, Option, Some, None, if◌then◌else◌, nat_lt}
use Rattle.std.specs.Str.{bytes_eq}
use Rattle.indexmap.specs.IndexMap.{get_by, index_map_len}
use Rattle.sp_script.specs.declared.command.Command.{Command}
use Rattle.sp_script.specs.declared.error.ScriptKind.{ScriptKind}
use Rattle.sp_script.specs.declared.error.ScriptKind.TheVariants.{NotOpen, Twice, NoAction, TooMany}
use Rattle.sp_script.specs.declared.error.ScriptError.{ScriptError}
use Rattle.sp_script.specs.declared.error.ScriptError.TheVariants.{Fault, NoMemory}
use Rattle.sp_script.specs.declared.request.Verb.{Verb}
use Rattle.sp_script.specs.declared.request.Verb.TheVariants.{Opening, Asking, Observing, Syncing, Closing}
use Rattle.sp_script.specs.declared.ledger.Seat.{Seat}
use Rattle.sp_script.specs.declared.ledger.Seat.TheVariants.{Silent, Answered, Closed}
use Rattle.sp_script.specs.declared.ledger.Ledger.{Ledger}
use Rattle.sp_script.specs.Requests.{Request}
use Rattle.sp_script.specs.Commands.{is_opening, is_closing, was_asked, has_answer, opening_count, BreaksAfter, AreCommands}
use Rattle.sp_script.specs.Script.{command_of, IsFirstKind, kinds}

-- ---- seats
-- how a session stands, by whether it was opened, whether it was closed, and whether it has an answer
abbrev pub seat_by : Bool → Bool → Bool → Option Seat
seat_by false closed answered = None
seat_by true true answered = Some Closed
seat_by true false true = Some Answered
seat_by true false false = Some Silent

-- how a session stands after commands, if it was opened
abbrev pub seat_of : List ℕ → List Command → Option Seat
seat_of name cs = seat_by (was_asked is_opening name cs) (was_asked is_closing name cs) (has_answer name cs)

-- what is wrong with a request at a session that stands so, the values it observes apart, where so many were opened
abbrev pub fault_at : Verb → Option Seat → ℕ → Option ScriptKind
fault_at Opening None opened = if nat_lt opened 1024 then None else Some (TooMany 1024)
fault_at Asking None opened = Some NotOpen
fault_at (Observing o) None opened = Some NotOpen
fault_at Syncing None opened = Some NotOpen
fault_at Closing None opened = Some NotOpen
fault_at Opening (Some seat) opened = Some Twice
fault_at (Observing o) (Some Silent) opened = Some NoAction
fault_at v (Some Closed) opened = Some NotOpen
fault_at v (Some seat) opened = None

-- how a session stands after a request
abbrev pub seat_after : Verb → Option Seat → Seat
seat_after Opening seat = Silent
seat_after Asking seat = Answered
seat_after (Observing o) seat = Silent
seat_after Syncing None = Silent
seat_after Syncing (Some seat) = seat
seat_after Closing seat = Closed

-- ---- the ledger
-- the seat that is kept for a name
abbrev pub kept_seat : Ledger → List ℕ → Option Seat
kept_seat l name = get_by (λ k. bytes_eq name k.now) l.seats

-- it keeps how each session stands, and how many there are; what was not opened was not closed and has no answer
pub record IsScriptLedger (l : Ledger) : Type 0 where
  pub known : AreCommands l.commands
  pub seats : (name : List ℕ) → kept_seat l name ≡ seat_of name l.commands
  pub count : index_map_len l.seats ≡ opening_count l.commands
  pub idle : (name : List ℕ) → was_asked is_opening name l.commands ≡ false → (was_asked is_closing name l.commands ≡ false) × (has_answer name l.commands ≡ false)

-- the request is entered as the command that it is, and breaks nothing
pub record IsRequestEntered (before : List Command) (request : Request) (line : ℕ) (after : List Command) : Type 0 where
  pub command : (c : Command) × (command_of line request ≡ Some c) × (after ≡ before ++ c ∷ [])
  pub faultless : (kind : ScriptKind) → ¬ BreaksAfter before request kind

-- why a request on that line isn't entered
abbrev pub IsRefusedAfter : List Command → Request → ℕ → ScriptError → Type 0
IsRefusedAfter before request line (Fault at kind) = (at ≡ line) × IsFirstKind (BreaksAfter before request) kinds kind
IsRefusedAfter before request line NoMemory = ⊤
