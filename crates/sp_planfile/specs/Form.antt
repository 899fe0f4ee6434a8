-- What the form of a plan file demands of what it says.
use Rattle.std.specs.Prelude.{◌≡◌, ◌≢◌, ℕ, suc, ◌+◌, ◌^◌, ◌<◌, ◌≤◌, ℤ, unsigned_abs, List, [], ◌∷◌, map, length, codes, Option, Some, None, AllPairs}
use Rattle.std.specs.List.{AllByRecursion}
use Rattle.sp_theory.specs.Book.{Event, settle, publish, prune, end}
use Rattle.sp_theory.specs.Logs.{Entry, told, act, observe, unseen, closing, Log}
use Rattle.sp_model.specs.Words.{IsValueName}
use Rattle.sp_value.specs.declared.tasks.Options.{Options}
use Rattle.sp_lines.specs.Lines.{lines_of, Lacks, IsSmall, IsSmallPair}
use Rattle.sp_planfile.specs.Contents.{Contents}

-- a line of a model: it isn't the one that ends the model
pub record IsModelLine (line : List ℕ) : Type 0 where
  pub whole : Lacks 10 line
  pub other : line ≢ codes "endmodel"

-- lines of a model, each with its end
abbrev pub AreModelLines : List ℕ → Type 0
AreModelLines bytes = (lines : List (List ℕ)) × (bytes ≡ lines_of (λ line. line) lines) × AllByRecursion IsModelLine lines

pub record AreInRange (o : Options) : Type 0 where
  pub some_beliefs : 1 ≤ o.beliefs
  pub few_beliefs : o.beliefs ≤ 4096
  pub some_depth : 1 ≤ o.depth
  pub few_depth : o.depth ≤ 4096
  pub some_stages : 1 ≤ o.stages
  pub few_stages : o.stages ≤ 1000
  pub seed : IsSmall o.seed

-- an action and a joint observation of the model
abbrev pub IsParentMove : ℕ → ℕ → ℕ × ℕ → Type 0
IsParentMove actions joint move = (move.0 < actions) × (move.1 < joint)

-- a settle names a sampled belief and an action and has one link for each joint observation, and a prune has a pair
abbrev pub IsEventInForm : ℕ → ℕ → ℕ → Event → Type 0
IsEventInForm beliefs actions joint (settle k e a links) = (k < beliefs) × IsSmall e × (a < actions) × (length links ≡ joint) × AllByRecursion IsSmall links
IsEventInForm beliefs actions joint publish = Unit {0}
IsEventInForm beliefs actions joint (prune pairs) = (0 < length pairs) × AllByRecursion IsSmallPair pairs
IsEventInForm beliefs actions joint end = Unit {0}

-- how many editions these events make
abbrev pub edition_count : List Event → ℕ
edition_count [] = 0
edition_count (settle k e a links ∷ events) = edition_count events
edition_count (publish ∷ events) = suc (edition_count events)
edition_count (prune pairs ∷ events) = suc (edition_count events)
edition_count (end ∷ events) = edition_count events

-- at most 10^18 ticks
abbrev pub IsTickValue : ℤ → Type 0
IsTickValue value = unsigned_abs value ≤ 10 ^ 18

-- one value for edition 0 and for each that the events make
abbrev pub AreValuesOfEditions : List Event → Option (List ℤ) → Type 0
AreValuesOfEditions events None = Unit {0}
AreValuesOfEditions events (Some values) = (length values ≡ suc (edition_count events)) × IsSmall (length values) × AllByRecursion IsTickValue values

abbrev pub IsEntryInForm : ℕ → ℕ → Entry → Type 0
IsEntryInForm actions joint (told e) = IsSmall e
IsEntryInForm actions joint (act e id a) = IsSmall e × IsSmall id × (a < actions)
IsEntryInForm actions joint (observe o) = o < joint
IsEntryInForm actions joint (unseen o) = o < joint
IsEntryInForm actions joint (closing e id a) = IsSmall e × IsSmall id × (a < actions)

-- the numbers of an entry are of 64 bits
abbrev pub HasSmallNumbers : Entry → Type 0
HasSmallNumbers (told e) = AllByRecursion IsSmall (e ∷ [])
HasSmallNumbers (act e id a) = AllByRecursion IsSmall (e ∷ id ∷ a ∷ [])
HasSmallNumbers (observe o) = AllByRecursion IsSmall (o ∷ [])
HasSmallNumbers (unseen o) = AllByRecursion IsSmall (o ∷ [])
HasSmallNumbers (closing e id a) = AllByRecursion IsSmall (e ∷ id ∷ a ∷ [])

-- 1 to 64 letters, digits, '_', '-' and '.'
pub record IsSessionName (name : List ℕ) : Type 0 where
  pub word : IsValueName name
  pub short : length name ≤ 64

pub record IsLogInForm (actions joint : ℕ) (log : Log) : Type 0 where
  pub name : IsSessionName log.name
  pub entries : AllByRecursion (IsEntryInForm actions joint) log.entries

-- what a plan file says is in form, for a model with so many actions and joint observations
pub record IsInForm (actions joint : ℕ) (c : Contents) : Type 0 where
  pub few_actions : IsSmall actions
  pub few_joint : IsSmall joint
  pub model : AreModelLines c.model
  pub options : AreInRange c.options
  pub move_count : suc (length c.moves) ≡ c.options.beliefs
  pub moves : AllByRecursion (IsParentMove actions joint) c.moves
  pub event_count : IsSmall (length c.events)
  pub events : AllByRecursion (IsEventInForm c.options.beliefs actions joint) c.events
  pub values : AreValuesOfEditions c.events c.values
  pub log_count : IsSmall (length c.logs)
  pub logs : AllByRecursion (IsLogInForm actions joint) c.logs
  pub names : AllPairs (λ x y. x ≢ y) (map (λ log. log.name) c.logs)
