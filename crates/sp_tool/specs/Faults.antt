-- Why a call isn't done, with the status and the line of each.
use Rattle.std.specs.Prelude.{◌≡◌, ℕ, ◌<◌, List, [], length, map, string_bytes, ⊤, Result, MatchResult}
use Rattle.sp_outside.specs.Folder.{Folder}
use Rattle.sp_outside.specs.Counts.{Rose}
use Rattle.sp_model.specs.declared.parts.Parts.{Parts}
use Rattle.sp_words.specs.declared.job.Job.{Job}
use Rattle.sp_tool.specs.Lines.{usage_line, no_memory_line, cannot_write_line, cannot_read_line, too_long_line}
use Rattle.sp_tool.specs.Inputs.{Input, name_of, TellsNone, TellsFault, TellsIllegal, last_refused, last_forbidden, next_unread, EndsBehind}
use Rattle.sp_tool.specs.Table.{inputs, Told, Saw, Call, Cause}
use Rattle.sp_tool.specs.declared.status.Status.{Status}
use Rattle.sp_tool.specs.declared.status.Status.TheVariants as Ended
use Rattle.sp_tool.specs.declared.fault.Fault.{Fault}
use Rattle.sp_tool.specs.declared.fault.Fault.TheVariants.{Usage, NoMemory, Refused, ReadFault, WriteFault, NotLegal}

-- the status of a call that ends so
abbrev pub status_of : Fault → Status
status_of Usage = Ended.Usage
status_of NoMemory = Ended.NoMemory
status_of (Refused line) = Ended.Refused
status_of (ReadFault line) = Ended.ReadFault
status_of WriteFault = Ended.WriteFault
status_of (NotLegal line) = Ended.NotLegal

-- the line that is told
abbrev pub line_of : Fault → List ℕ
line_of Usage = usage_line
line_of NoMemory = no_memory_line
line_of (Refused line) = line.items
line_of (ReadFault line) = string_bytes line
line_of WriteFault = cannot_write_line
line_of (NotLegal line) = line.items

-- a call has its cause: it is done, or there is this fault
abbrev pub IsExplained : {T : Type 0} → Call → Result T Fault → Type 0
IsExplained {T} c result = MatchResult result (λ _. Cause c Ended.Done []) (λ f. Cause c (status_of f) (line_of f))

-- why these bytes of a file aren't what they have to be, behind a file that tells such a model
abbrev pub TellsReason : (Parts → Type 0) → Input → List ℕ → Fault → Type 0
TellsReason told input source NoMemory = ⊤
TellsReason told input source (Refused line) = TellsFault told input source line.items
TellsReason told input source (NotLegal line) = TellsIllegal input source line.items
TellsReason told input source (ReadFault line) = ⊥
TellsReason told input source Usage = ⊥
TellsReason told input source WriteFault = ⊥

-- why the bytes of a file, of which there may be so many, aren't there
abbrev pub HindersReading : List ℕ → ℕ → Folder → Folder → Fault → Type 0
HindersReading file limit store later NoMemory = ⊤
HindersReading file limit store later (Refused line) = (source : List ℕ) × Told (store.content file) source × (limit < length source) × (line.items ≡ too_long_line file limit)
HindersReading file limit store later (ReadFault line) = Rose (store.faults file) (later.faults file) × (string_bytes line ≡ cannot_read_line file)
HindersReading file limit store later Usage = ⊥
HindersReading file limit store later WriteFault = ⊥
HindersReading file limit store later (NotLegal line) = ⊥

-- why files aren't all accepted, behind a file that tells such a model
abbrev pub HindersBehind : (Parts → Type 0) → List Input → Folder → Folder → Fault → Type 0
HindersBehind told ins store later NoMemory = ⊤
HindersBehind told ins store later (Refused line) = (files : List (List ℕ)) × Saw store (map name_of ins) files × EndsBehind told ins files (last_refused line.items)
HindersBehind told ins store later (NotLegal line) = (files : List (List ℕ)) × Saw store (map name_of ins) files × EndsBehind told ins files (last_forbidden line.items)
HindersBehind told ins store later (ReadFault line) =
    (files : List (List ℕ)) × Saw store (map name_of ins) files
    × ((name : List ℕ) × EndsBehind told ins files (next_unread name) × Rose (store.faults name) (later.faults name) × (string_bytes line ≡ cannot_read_line name))
HindersBehind told ins store later Usage = ⊥
HindersBehind told ins store later WriteFault = ⊥

-- why files aren't all accepted
abbrev pub HindersFiles : List Input → Folder → Folder → Fault → Type 0
HindersFiles ins store later fault = HindersBehind TellsNone ins store later fault

-- why a job has no text
abbrev pub Hinders : Job → Folder → Folder → Fault → Type 0
Hinders job store later fault = HindersFiles (inputs job) store later fault
