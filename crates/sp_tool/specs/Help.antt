-- What the program tells of itself: the one place of the texts of its help and of its version.
use Rattle.std.specs.Prelude.{◌≡◌, ℕ, ◌+◌, List, [], ◌∷◌, ◌++◌, codes, map, false, None}
use Rattle.std.specs.List.{concat}
use Rattle.sp_words.specs.declared.job.PlanWords.{PlanWords}
use Rattle.sp_words.specs.declared.job.Job.{Job}
use Rattle.sp_words.specs.declared.job.Job.TheVariants.{Plan, Check, Show, Gen, Trial, Audit, Migrate, Act, Help, Version}
use Rattle.sp_words.specs.Jobs.{IsCommandWord}
use Rattle.sp_tool.specs.Statuses.{number_of}
use Rattle.sp_tool.specs.declared.status.Status.{Status}
use Rattle.sp_tool.specs.declared.status.Status.TheVariants.{Done, Refused, Usage, NoMemory, ReadFault, WriteFault, NotLegal}

abbrev pub version_text : List ℕ
version_text = codes "perseus 0.1.0\n"

-- ---- commands
-- how the command of a job is called
abbrev pub command_words : Job → List ℕ
command_words (Plan plan) = codes "perseus plan MODEL --beliefs N --depth D --stages N --seed S --workers N\n        [--prune] [--explore uniform|sweep] [--sessions SCRIPT]\n"
command_words (Check model) = codes "perseus check MODEL\n"
command_words (Show model) = codes "perseus show MODEL\n"
command_words (Gen number) = codes "perseus gen NUMBER\n"
command_words (Trial number) = codes "perseus trial NUMBER\n"
command_words (Audit plan) = codes "perseus audit PLAN\n"
command_words (Migrate plan) = codes "perseus migrate PLAN\n"
command_words (Act plan script) = codes "perseus act PLAN SCRIPT\n"
command_words Help = codes "perseus --help, -h, help\n"
command_words Version = codes "perseus --version, -V\n"

-- what it does
abbrev pub command_purpose : Job → List ℕ
command_purpose (Plan plan) = codes "  Plans for a model file and writes the plan file.\n"
command_purpose (Check model) = codes "  Checks a model file and writes its sizes.\n"
command_purpose (Show model) = codes "  Writes the canonical text of a model file.\n"
command_purpose (Gen number) = codes "  Writes the generated model of that number, 0 to 16.\n"
command_purpose (Trial number) = codes "  Plans for that model and writes a summary.\n"
command_purpose (Audit plan) = codes "  Says whether a plan file is legal, or what is wrong with it first.\n"
command_purpose (Migrate plan) = codes "  Rewrites a plan file of version 1 or 2 in version 2.\n"
command_purpose (Act plan script) = codes "  Serves a script of acting sessions on the last edition of a plan file.\n"
command_purpose Help = codes "  Writes this text.\n"
command_purpose Version = codes "  Writes the version of the program.\n"

-- one call of it
abbrev pub command_example : Job → List ℕ
command_example (Plan plan) = codes "    perseus plan tiger.txt --beliefs 9 --depth 8 --stages 3 --seed 2 --workers 0\n"
command_example (Check model) = codes "    perseus check tiger.txt\n"
command_example (Show model) = codes "    perseus show tiger.txt\n"
command_example (Gen number) = codes "    perseus gen 3\n"
command_example (Trial number) = codes "    perseus trial 3\n"
command_example (Audit plan) = codes "    perseus audit tiger.plan\n"
command_example (Migrate plan) = codes "    perseus migrate tiger.plan\n"
command_example (Act plan script) = codes "    perseus act tiger.plan sessions.txt\n"
command_example Help = codes "    perseus --help\n"
command_example Version = codes "    perseus --version\n"

-- its lines
abbrev pub command_help : Job → List ℕ
command_help job = command_words job ++ (command_purpose job ++ command_example job)

-- ---- statuses
-- what a status says
abbrev pub status_meaning : Status → List ℕ
status_meaning Done = codes "done: the text was written to standard output\n"
status_meaning Refused = codes "refused: a model file, plan file or script is not accepted\n"
status_meaning Usage = codes "usage: the words are not those of a command\n"
status_meaning NoMemory = codes "out of memory\n"
status_meaning ReadFault = codes "a file could not be read\n"
status_meaning WriteFault = codes "standard output could not be written\n"
status_meaning NotLegal = codes "not legal: the plan file is well formed, but something in it is wrong\n"

-- its line, with its number, which is a digit
abbrev pub status_help : Status → List ℕ
status_help status = codes "  " ++ ((48 + number_of status) ∷ (codes "  " ++ status_meaning status))

-- ---- the whole
abbrev pub help_head : List ℕ
help_head = version_text ++ codes "Plans for factored POMDPs by Symbolic Perseus.\n\nCommands, each with what it does and an example:\n"

abbrev pub statuses_head : List ℕ
statuses_head = codes "\nExit statuses (if not 0, one line on standard error says why):\n"

abbrev pub pages_help : List ℕ
pages_help = codes "\nPages:\n  docs/COMMANDS.md    commands, ranges of their numbers, statuses\n  docs/MODEL_FILE.md  model files\n  docs/PLAN_FILE.md   plan files\n  docs/SESSIONS.md    sessions and their scripts\n"

-- a plan, whichever it is
abbrev pub some_plan : PlanWords
some_plan = record { model = []; beliefs = 1; depth = 1; stages = 1; seed = 0; workers = 0; prune = false; sweep = false; sessions = None }

-- one job of each command
abbrev pub told_jobs : List Job
told_jobs = Plan some_plan ∷ Check [] ∷ Show [] ∷ Gen 0 ∷ Trial 0 ∷ Audit [] ∷ Migrate [] ∷ Act [] [] ∷ Help ∷ Version ∷ []

-- the statuses
abbrev pub told_statuses : List Status
told_statuses = Done ∷ Refused ∷ Usage ∷ NoMemory ∷ ReadFault ∷ WriteFault ∷ NotLegal ∷ []

-- the parts of the help, in order
abbrev pub help_parts : List (List ℕ)
help_parts = help_head ∷ (map command_help told_jobs ++ (statuses_head ∷ (map status_help told_statuses ++ (pages_help ∷ []))))

abbrev pub help_text : List ℕ
help_text = concat help_parts

-- ---- what holds of it
-- the part stands in the text, somewhere
abbrev pub StandsIn : List ℕ → List ℕ → Type 0
StandsIn part text = (front : List ℕ) × ((back : List ℕ) × (text ≡ front ++ (part ++ back)))

-- the help tells of a command: its lines stand there, with each word by which it is called behind a space
pub record IsToldCommand (job : Job) : Type 0 where
  pub lines : StandsIn (command_help job) help_text
  pub words : (word : List ℕ) → IsCommandWord job word → StandsIn (codes " " ++ word) (command_words job)

-- the help tells of each command and of each status
abbrev pub HelpIsWhole : Type 0
HelpIsWhole = ((job : Job) → IsToldCommand job) × ((status : Status) → StandsIn (status_help status) help_text)
