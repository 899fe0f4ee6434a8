-- What the words of a call ask for.
use Rattle.std.specs.Prelude.{◌≡◌, ℕ, ◌-◌, ◌^◌, ◌≤◌, List, [], ◌∷◌, codes, Bool, true, false, cond, ◌⊎◌, Option, Some, None}
use Rattle.std.specs.List.{AllByRecursion}
use Rattle.clap.specs.Words.{Row, first_of, subcommand_of, takes, fault_of}
use Rattle.sp_words.specs.Items.{Item, words_of, places, values, OptionNames, IsPlaced, IsWordItem, IsNumberWord, OptionHasNumber, HasFlag, HasFile}
use Rattle.sp_words.specs.Apps.{tool_app}
use Rattle.sp_words.specs.declared.job.PlanNumbers.{PlanNumbers}
use Rattle.sp_words.specs.declared.job.PlanWords.{PlanWords}
use Rattle.sp_words.specs.declared.job.Job.{Job}
use Rattle.sp_words.specs.declared.job.Job.TheVariants.{Plan, Check, Show, Gen, Trial, Audit, Migrate, Act, Help, Version}

-- the actions are explored in turn, or at random, which is also what no word means
abbrev pub HasExplore : List Item → Bool → Type 0
HasExplore items sweep =
    ((values (codes "--explore") items ≡ []) × (sweep ≡ false))
    ⊎ (((values (codes "--explore") items ≡ codes "uniform" ∷ []) × (sweep ≡ false))
    ⊎ ((values (codes "--explore") items ≡ codes "sweep" ∷ []) × (sweep ≡ true)))

-- the numbers of a plan
abbrev pub numbers_of : PlanWords → PlanNumbers
numbers_of plan = record { beliefs = plan.beliefs; depth = plan.depth; stages = plan.stages; seed = plan.seed; workers = plan.workers }

-- the items have the numbers of a plan, each once
pub record HavePlanNumbers (items : List Item) (numbers : PlanNumbers) : Type 0 where
  pub beliefs : OptionHasNumber items (codes "--beliefs") 1 4096 numbers.beliefs
  pub depth : OptionHasNumber items (codes "--depth") 1 4096 numbers.depth
  pub stages : OptionHasNumber items (codes "--stages") 1 1000 numbers.stages
  pub seed : OptionHasNumber items (codes "--seed") 0 (2 ^ 64 - 1) numbers.seed
  pub workers : OptionHasNumber items (codes "--workers") 0 64 numbers.workers

-- the items are those of a plan
pub record IsPlanJob (items : List Item) (plan : PlanWords) : Type 0 where
  pub model : places items ≡ plan.model ∷ []
  pub numbers : HavePlanNumbers items (numbers_of plan)
  pub prune : HasFlag items (codes "--prune") plan.prune
  pub explore : HasExplore items plan.sweep
  pub sessions : HasFile items (codes "--sessions") plan.sessions

-- the word is that of the job's command; help and the version have several
abbrev pub IsCommandWord : Job → List ℕ → Type 0
IsCommandWord (Plan plan) word = word ≡ codes "plan"
IsCommandWord (Check model) word = word ≡ codes "check"
IsCommandWord (Show model) word = word ≡ codes "show"
IsCommandWord (Gen number) word = word ≡ codes "gen"
IsCommandWord (Trial number) word = word ≡ codes "trial"
IsCommandWord (Audit plan) word = word ≡ codes "audit"
IsCommandWord (Migrate plan) word = word ≡ codes "migrate"
IsCommandWord (Act plan script) word = word ≡ codes "act"
IsCommandWord Help word = (word ≡ codes "--help") ⊎ ((word ≡ codes "-h") ⊎ (word ≡ codes "help"))
IsCommandWord Version word = (word ≡ codes "--version") ⊎ (word ≡ codes "-V")

-- the options and the flags of `plan`
abbrev pub plan_names : OptionNames
plan_names = record {
  options = codes "--beliefs" ∷ codes "--depth" ∷ codes "--stages" ∷ codes "--seed" ∷ codes "--workers" ∷ codes "--explore" ∷ codes "--sessions" ∷ [];
  flags = codes "--prune" ∷ [];
}

-- the words are one word that stands by itself
abbrev pub IsPlacedAlone : List (List ℕ) → List ℕ → Type 0
IsPlacedAlone rest word = (rest ≡ word ∷ []) × IsPlaced word

-- the words are two words that stand by themselves
abbrev pub ArePlacedAlone : List (List ℕ) → List ℕ → List ℕ → Type 0
ArePlacedAlone rest first second = (rest ≡ first ∷ second ∷ []) × IsPlaced first × IsPlaced second

-- the words are one number of 0 to 16
abbrev pub IsNumberAlone : List (List ℕ) → ℕ → Type 0
IsNumberAlone rest n = (word : List ℕ) × IsPlacedAlone rest word × IsNumberWord 0 16 word n

-- the words are those of the options and flags of `plan` and of its model's name, in any order
pub record AsksForPlan (rest : List (List ℕ)) (plan : PlanWords) : Type 0 where
  pub items : List Item
  pub is : rest ≡ words_of items
  pub each : AllByRecursion (IsWordItem plan_names) items
  pub says : IsPlanJob items plan

-- the words behind a command ask for this
abbrev pub AsksBehind : List (List ℕ) → Job → Type 0
AsksBehind rest (Plan plan) = AsksForPlan rest plan
AsksBehind rest (Check model) = IsPlacedAlone rest model
AsksBehind rest (Show model) = IsPlacedAlone rest model
AsksBehind rest (Gen number) = IsNumberAlone rest number
AsksBehind rest (Trial number) = IsNumberAlone rest number
AsksBehind rest (Audit plan) = IsPlacedAlone rest plan
AsksBehind rest (Migrate plan) = IsPlacedAlone rest plan
AsksBehind rest (Act plan script) = ArePlacedAlone rest plan script
AsksBehind rest Help = rest ≡ []
AsksBehind rest Version = rest ≡ []

-- the words are those that are listed for a command, and ask for this
pub record AsksByList (words : List (List ℕ)) (job : Job) : Type 0 where
  pub command : List ℕ
  pub rest : List (List ℕ)
  pub are : words ≡ command ∷ rest
  pub names : IsCommandWord job command
  pub behind : AsksBehind rest job

-- ---- words that the parser of command lines takes

-- the id has a number between these
abbrev pub GivesNumber : List Row → List ℕ → ℕ → ℕ → ℕ → Type 0
GivesNumber rows id least greatest n = (text : List ℕ) × (first_of id rows ≡ Some text) × IsNumberWord least greatest text n

-- the id has the name of a file; or it has nothing, and names none
abbrev pub GivesFile : List Row → List ℕ → Option (List ℕ) → Type 0
GivesFile rows id None = first_of id rows ≡ None
GivesFile rows id (Some file) = (first_of id rows ≡ Some file) × IsPlaced file

-- the matches give the numbers of a plan
pub record GivePlanNumbers (rows : List Row) (numbers : PlanNumbers) : Type 0 where
  pub beliefs : GivesNumber rows (codes "beliefs") 1 4096 numbers.beliefs
  pub depth : GivesNumber rows (codes "depth") 1 4096 numbers.depth
  pub stages : GivesNumber rows (codes "stages") 1 1000 numbers.stages
  pub seed : GivesNumber rows (codes "seed") 0 (2 ^ 64 - 1) numbers.seed
  pub workers : GivesNumber rows (codes "workers") 0 64 numbers.workers

-- the matches are those of a plan
pub record GivesPlan (rows : List Row) (plan : PlanWords) : Type 0 where
  pub model : first_of (codes "model") rows ≡ Some plan.model
  pub numbers : GivePlanNumbers rows (numbers_of plan)
  pub prune : first_of (codes "prune") rows ≡ Some (cond plan.prune (codes "true") (codes "false"))
  pub explore : first_of (codes "explore") rows ≡ Some (cond plan.sweep (codes "sweep") (codes "uniform"))
  pub sessions : GivesFile rows (codes "sessions") plan.sessions

-- the matches of a command give this job; no command of the parser gives help or the version
abbrev pub Gives : List Row → Job → Type 0
Gives rows (Plan plan) = GivesPlan rows plan
Gives rows (Check model) = first_of (codes "model") rows ≡ Some model
Gives rows (Show model) = first_of (codes "model") rows ≡ Some model
Gives rows (Gen number) = GivesNumber rows (codes "number") 0 16 number
Gives rows (Trial number) = GivesNumber rows (codes "number") 0 16 number
Gives rows (Audit plan) = first_of (codes "plan") rows ≡ Some plan
Gives rows (Migrate plan) = first_of (codes "plan") rows ≡ Some plan
Gives rows (Act plan script) = (first_of (codes "plan") rows ≡ Some plan) × (first_of (codes "script") rows ≡ Some script)
Gives rows Help = ⊥
Gives rows Version = ⊥

-- the parser finds no fault in the words, or its definition says that it takes them
abbrev pub IsTaken : List (List ℕ) → Type 0
IsTaken words = (fault_of tool_app words ≡ []) ⊎ (takes tool_app words ≡ true)

-- the parser takes the words, and its matches give this job
pub record AsksByParser (words : List (List ℕ)) (job : Job) : Type 0 where
  pub command : List ℕ
  pub rows : List Row
  pub taken : IsTaken words
  pub enters : subcommand_of tool_app words ≡ Some (command, rows)
  pub names : IsCommandWord job command
  pub gives : Gives rows job

-- ---- both

-- the words ask for this as they are listed, or are not of the list and ask for it by the parser
abbrev pub Asks : List (List ℕ) → Job → Type 0
Asks words job = AsksByList words job ⊎ (((other : Job) → ¬ (AsksByList words other)) × AsksByParser words job)

-- the numbers of a plan are in their ranges
pub record ArePlanNumbers (plan : PlanWords) : Type 0 where
  pub some_beliefs : 1 ≤ plan.beliefs
  pub few_beliefs : plan.beliefs ≤ 4096
  pub some_depth : 1 ≤ plan.depth
  pub few_depth : plan.depth ≤ 4096
  pub some_stages : 1 ≤ plan.stages
  pub few_stages : plan.stages ≤ 1000
  pub few_workers : plan.workers ≤ 64

-- the numbers of a job are in their ranges
abbrev pub IsPossible : Job → Type 0
IsPossible (Plan plan) = ArePlanNumbers plan
IsPossible (Check model) = Unit {0}
IsPossible (Show model) = Unit {0}
IsPossible (Gen number) = number ≤ 16
IsPossible (Trial number) = number ≤ 16
IsPossible (Audit plan) = Unit {0}
IsPossible (Migrate plan) = Unit {0}
IsPossible (Act plan script) = Unit {0}
IsPossible Help = Unit {0}
IsPossible Version = Unit {0}

-- words ask for one job at most
abbrev pub AskOnce : Type 0
AskOnce = (words : List (List ℕ)) (job other : Job) → Asks words job → Asks words other → job ≡ other
