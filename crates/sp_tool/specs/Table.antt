-- Which status a call may give, and what it writes.
use Rattle.std.specs.Prelude.{◌≡◌, ℕ, ◌<◌, ◌≤◌, List, [], ◌∷◌, length, map, Option, Some, None, ◌≢◌, Contains, ⊤, ◌⊎◌}
use Rattle.sp_outside.specs.Folder.{Folder, IsLaterFolder}
use Rattle.sp_outside.specs.Written.{WrittenBytes}
use Rattle.sp_outside.specs.Counts.{Rose}
use Rattle.sp_outside.specs.Bytes.{Appended, AppendedPart, IfTold}
use Rattle.sp_model.specs.declared.parts.Parts.{Parts}
use Rattle.sp_gen.specs.Models.{generated_text}
use Rattle.sp_reader.specs.Sources.{Reads}
use Rattle.sp_value.specs.Events.{events_of}
use Rattle.sp_script.specs.declared.command.Command.{Command}
use Rattle.sp_script.specs.Script.{IsScript}
use Rattle.sp_judging.specs.PlanFiles.{IsLegalPlan, IsAuditText, IsMigratedText}
use Rattle.sp_judging.specs.ActTexts.{IsActText}
use Rattle.sp_words.specs.declared.job.PlanWords.{PlanWords}
use Rattle.sp_words.specs.declared.job.Job.{Job}
use Rattle.sp_words.specs.declared.job.Job.TheVariants.{Plan, Check, Show, Gen, Trial, Audit, Migrate, Act, Help, Version}
use Rattle.sp_words.specs.Jobs.{Asks, ArePlanNumbers}
use Rattle.sp_tool.specs.Lines.{usage_line, no_memory_line, cannot_write_line, cannot_read_line}
use Rattle.sp_tool.specs.Help.{help_text, version_text}
use Rattle.sp_tool.specs.Inputs.{Input, model_file, plan_file, script_file, name_of, model_limit, plan_limit, script_limit, all_accepted, last_refused, last_forbidden, next_unread, Ends}
use Rattle.sp_tool.specs.Texts.{check_line, IsShownText, IsPlanText, IsTrialText}
use Rattle.sp_tool.specs.declared.status.Status.{Status}
use Rattle.sp_tool.specs.declared.status.Status.TheVariants.{Done, Refused, Usage, NoMemory, ReadFault, WriteFault, NotLegal}

-- the job asks for no further threads
abbrev pub IsPlain : Job → Type 0
IsPlain (Plan p) = p.workers ≡ 0
IsPlain (Check model) = Unit {0}
IsPlain (Show model) = Unit {0}
IsPlain (Gen number) = Unit {0}
IsPlain (Trial number) = Unit {0}
IsPlain (Audit plan) = Unit {0}
IsPlain (Migrate plan) = Unit {0}
IsPlain (Act plan script) = Unit {0}
IsPlain Help = Unit {0}
IsPlain Version = Unit {0}

-- the plan on further threads that the words ask for, with its numbers in range; or they ask for none
abbrev pub IsConcurrentPlan : List (List ℕ) → Option PlanWords → Type 0
IsConcurrentPlan words None = (job : Job) → Asks words job → IsPlain job
IsConcurrentPlan words (Some p) = Asks words (Plan p) × ArePlanNumbers p × (0 < p.workers)

-- the script of that name, if there is one
abbrev pub script_of : Option (List ℕ) → List Input
script_of None = []
script_of (Some name) = script_file name ∷ []

-- the files that a job reads, in order
abbrev pub inputs : Job → List Input
inputs (Plan p) = model_file p.model ∷ script_of p.sessions
inputs (Check model) = model_file model ∷ []
inputs (Show model) = model_file model ∷ []
inputs (Gen number) = []
inputs (Trial number) = []
inputs (Audit plan) = plan_file plan ∷ []
inputs (Migrate plan) = plan_file plan ∷ []
inputs (Act plan script) = plan_file plan ∷ script_file script ∷ []
inputs Help = []
inputs Version = []

-- their names
abbrev pub names : Job → List (List ℕ)
names job = map name_of (inputs job)

-- the bytes of a model file are within the limit and mean a model of which this holds
abbrev pub Accepts : List ℕ → (Parts → Type 0) → Type 0
Accepts source P = (length source ≤ model_limit) × ((model : Parts) × Reads source model × P model)

-- the bytes of a plan file are within the limit, and this holds of them
abbrev pub IsWithinLimit : List ℕ → Type 0 → Type 0
IsWithinLimit source P = (length source ≤ plan_limit) × P

-- the bytes of a script are within the limit, and mean commands for the model of which this holds
abbrev pub AcceptsScript : List ℕ → Parts → (List Command → Type 0) → Type 0
AcceptsScript source model P = (length source ≤ script_limit) × ((cs : List Command) × IsScript model.sights source cs × P cs)

-- for these bytes of its files a job may write this text
abbrev pub Allows : Job → List (List ℕ) → List ℕ → Type 0
Allows (Plan p) (source ∷ []) text = (p.sessions ≡ None) × Accepts source (λ model. IsPlanText model p [] text)
Allows (Plan p) (source ∷ script ∷ []) text = (p.sessions ≢ None) × Accepts source (λ model. AcceptsScript script model (λ cs. IsPlanText model p cs text))
Allows (Check name) (source ∷ []) text = Accepts source (λ model. text ≡ check_line model)
Allows (Show name) (source ∷ []) text = Accepts source (λ model. IsShownText model text)
Allows (Gen number) [] text = text ≡ generated_text number
Allows (Trial number) [] text = (model : Parts) × Reads (generated_text number) model × IsTrialText model number text
Allows (Audit name) (source ∷ []) text = IsWithinLimit source (IsAuditText source text)
Allows (Migrate name) (source ∷ []) text = IsWithinLimit source (IsMigratedText source text)
Allows (Act name script) (source ∷ commands ∷ []) text =
    IsWithinLimit source ((plan : IsLegalPlan source) × AcceptsScript commands plan.task.model (λ cs. IsActText plan.task (events_of plan.events) cs text))
Allows Help [] text = text ≡ help_text
Allows Version [] text = text ≡ version_text
Allows job files text = ⊥

-- with these bytes all files of the job are accepted
abbrev pub Grants : Job → List (List ℕ) → Type 0
Grants job files = Ends (inputs job) files all_accepted

-- the last of these bytes are refused, which this line tells, and those before them are accepted
abbrev pub Refuses : Job → List (List ℕ) → List ℕ → Type 0
Refuses job files line = Ends (inputs job) files (last_refused line)

-- the last of these bytes are a plan file that isn't legal, which this line tells, and those before them are accepted
abbrev pub Forbids : Job → List (List ℕ) → List ℕ → Type 0
Forbids job files line = Ends (inputs job) files (last_forbidden line)

-- all of these bytes are accepted, and the next file has this name
abbrev pub Misses : Job → List (List ℕ) → List ℕ → Type 0
Misses job files name = Ends (inputs job) files (next_unread name)

-- the bytes are the same as far as both lists have some
abbrev pub AgreeSoFar : List (List ℕ) → List (List ℕ) → Type 0
AgreeSoFar [] others = ⊤
AgreeSoFar (file ∷ files) [] = ⊤
AgreeSoFar (file ∷ files) (other ∷ others) = (other ≡ file) × AgreeSoFar files others

-- of the bytes of a job's files, however far they are read, one thing holds at most: all are accepted, the last one is refused, or it isn't legal;
-- and a text is written only where all are accepted
pub record EndOnce (job : Job) (files others : List (List ℕ)) : Type 0 where
  pub accepted_or_refused : Grants job files → (line : List ℕ) → ¬ (Refuses job others line)
  pub accepted_or_forbidden : Grants job files → (line : List ℕ) → ¬ (Forbids job others line)
  pub refused_or_forbidden : (line : List ℕ) → Refuses job files line → (other : List ℕ) → ¬ (Forbids job others other)
  pub written : (text : List ℕ) → Allows job files text → Grants job files

abbrev pub FilesEndOnce : Type 0
FilesEndOnce = (job : Job) (files others : List (List ℕ)) → AgreeSoFar files others → EndOnce job files others

-- where the store tells a content, it is this
abbrev pub Told : Option (List ℕ) → List ℕ → Type 0
Told content bytes = IfTold content (λ all. bytes ≡ all)

-- the first of these names had these bytes
abbrev pub Saw : Folder → List (List ℕ) → List (List ℕ) → Type 0
Saw store names [] = ⊤
Saw store [] (bytes ∷ files) = ⊥
Saw store (name ∷ names) (bytes ∷ files) = Told (store.content name) bytes × Saw store names files

-- a text that the job may write for bytes of its files, which are what the store tells where it does
abbrev pub IsTextFor : Folder → Job → List ℕ → Type 0
IsTextFor store job text = (files : List (List ℕ)) × Saw store (names job) files × Allows job files text

-- what may be written for this model and these commands is what the plan may write
abbrev pub AreInputs : Folder → PlanWords → Parts → List Command → Type 0
AreInputs store p model cs = (text : List ℕ) → IsPlanText model p cs text → IsTextFor store (Plan p) text

-- the store tells these bytes of the first of these names
abbrev pub Holds : Folder → List (List ℕ) → List (List ℕ) → Type 0
Holds store names [] = ⊤
Holds store [] (bytes ∷ files) = ⊥
Holds store (name ∷ names) (bytes ∷ files) = (store.content name ≡ Some bytes) × Holds store names files

-- a call: its words, and the store and the out before and after it
pub record Call : Type 0 where
  pub words : List (List ℕ)
  pub store : Folder
  pub later : Folder
  pub out : WrittenBytes
  pub end : WrittenBytes

-- why a call gives a status, and the line that it owes to err
abbrev pub Cause : Call → Status → List ℕ → Type 0
Cause c Done line =
    (job : Job) × Asks c.words job
    × ((files : List (List ℕ)) × Saw c.store (names job) files
    × ((text : List ℕ) × Allows job files text × Appended c.out.bytes c.end.bytes text × (line ≡ [])))
Cause c Refused line =
    (job : Job) × Asks c.words job
    × ((files : List (List ℕ)) × Saw c.store (names job) files × Refuses job files line × (c.end ≡ c.out))
Cause c Usage line =
    ((job : Job) → ¬ (Asks c.words job)) × (line ≡ usage_line) × (c.later ≡ c.store) × (c.end ≡ c.out)
Cause c NoMemory line = (line ≡ no_memory_line) × (c.end ≡ c.out)
Cause c ReadFault line =
    (job : Job) × Asks c.words job
    × ((files : List (List ℕ)) × Saw c.store (names job) files
    × ((name : List ℕ) × Misses job files name × Rose (c.store.faults name) (c.later.faults name)
    × (line ≡ cannot_read_line name) × (c.end ≡ c.out)))
Cause c WriteFault line =
    (job : Job) × Asks c.words job
    × ((files : List (List ℕ)) × Saw c.store (names job) files
    × ((text : List ℕ) × Allows job files text × AppendedPart c.out.bytes c.end.bytes text
    × Rose c.out.faults c.end.faults × (line ≡ cannot_write_line)))
Cause c NotLegal line =
    (job : Job) × Asks c.words job
    × ((files : List (List ℕ)) × Saw c.store (names job) files × Forbids job files line × (c.end ≡ c.out))

-- err gained a part of the line, and all of it where its count did not rise
pub record Tells (line : List ℕ) (err gone : WrittenBytes) : Type 0 where
  pub part : Appended err.bytes gone.bytes line ⊎ AppendedPart err.bytes gone.bytes line
  pub whole : ¬ (Rose err.faults gone.faults) → Appended err.bytes gone.bytes line

-- no read of a file of the job and no write failed
pub record NoFault (c : Call) (job : Job) : Type 0 where
  pub reads : (name : List ℕ) → Contains (names job) name → ¬ (Rose (c.store.faults name) (c.later.faults name))
  pub writes : ¬ (Rose c.out.faults c.end.faults)

-- a status that has its cause, and that is one which words and files ask for; no content of the store has changed
pub record Answers (c : Call) (err gone : WrittenBytes) (status : Status) : Type 0 where
  pub cause : (line : List ℕ) × Cause c status line × Tells line err gone
  pub quiet : status ≡ Done → gone ≡ err
  pub usage : ((job : Job) → ¬ (Asks c.words job)) → Contains (Usage ∷ NoMemory ∷ []) status
  pub refused : (job : Job) (files : List (List ℕ)) (line : List ℕ) → Asks c.words job → Holds c.store (names job) files
      → Refuses job files line → Contains (Refused ∷ ReadFault ∷ NoMemory ∷ []) status
  pub forbidden : (job : Job) (files : List (List ℕ)) (line : List ℕ) → Asks c.words job → Holds c.store (names job) files
      → Forbids job files line → Contains (NotLegal ∷ ReadFault ∷ NoMemory ∷ []) status
  pub complete : (job : Job) (files : List (List ℕ)) → Asks c.words job → Holds c.store (names job) files
      → Grants job files → NoFault c job → Contains (Done ∷ NoMemory ∷ []) status
  pub later : IsLaterFolder c.store c.later
