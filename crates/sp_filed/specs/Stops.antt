-- Where the sections of a plan file stop to be as the form needs: so many bytes are left there.
use Rattle.std.specs.Prelude.{◌≡◌, ◌≢◌, ℕ, ◌<◌, ◌⊎◌, List, [], ◌∷◌, ◌++◌, map, length, codes, AllPairs, All}
use Rattle.std.specs.List.{AllByRecursion}
use Rattle.sp_theory.specs.Logs.{Log}
use Rattle.sp_lines.specs.Lines.{IsSmall, BeginsLineOf, EndsEarly}
use Rattle.sp_planfile.specs.RunText.{event_line}
use Rattle.sp_planfile.specs.PlanText.{count_line, entry_line, value_line, logs_text}
use Rattle.sp_planfile.specs.Form.{IsTickValue, IsSessionName}
use Rattle.sp_filed.specs.declared.sizes.Sizes.{Sizes}
use Rattle.sp_filed.specs.Sizes.{IsEventOf, IsEntryWithin}

-- no line with a word and a count stands first
abbrev pub HasNoCount : List ℕ → List ℕ → ℕ → Type 0
HasNoCount word text left = (¬ (BeginsLineOf (count_line word) IsSmall text)) × (left ≡ length text)

-- among the events: at their count, or at an event
abbrev pub StopsInEvents : Sizes → List ℕ → ℕ → Type 0
StopsInEvents s text left =
    HasNoCount (codes "events") text left
    ⊎ ((n : ℕ) × (rest : List ℕ) × IsSmall n × (text ≡ count_line (codes "events") n ++ (10 ∷ rest)) × EndsEarly event_line (IsEventOf s) n rest left)

-- among the values of so many editions: at their count, or at a value
abbrev pub StopsInValues : ℕ → List ℕ → ℕ → Type 0
StopsInValues editions text left =
    (((rest : List ℕ) → text ≢ count_line (codes "values") editions ++ (10 ∷ rest)) × (left ≡ length text))
    ⊎ ((rest : List ℕ) × (text ≡ count_line (codes "values") editions ++ (10 ∷ rest)) × EndsEarly value_line IsTickValue editions rest left)

-- a log in form with numbers of 64 bits
pub record IsLogOf (s : Sizes) (log : Log) : Type 0 where
  pub name : IsSessionName log.name
  pub entries : AllByRecursion (IsEntryWithin s) log.entries

abbrev pub names_of : List Log → List (List ℕ)
names_of logs = map (λ log. log.name) logs

-- logs in form, of different names
pub record AreLogs (s : Sizes) (logs : List Log) : Type 0 where
  pub each : AllByRecursion (IsLogOf s) logs
  pub different : AllPairs (λ x y. x ≢ y) (names_of logs)

abbrev pub session_line : List ℕ → List ℕ
session_line name = codes "session " ++ name

-- a name that may come after those of these logs
abbrev pub IsFreshName : List Log → List ℕ → Type 0
IsFreshName logs name = IsSessionName name × All (λ other. other ≢ name) (names_of logs)

-- where a log is open, no entry stands first
abbrev pub HasNoEntry : Sizes → List Log → List ℕ → Type 0
HasNoEntry s [] text = Unit {0}
HasNoEntry s (log ∷ logs) text = ¬ (BeginsLineOf entry_line (IsEntryWithin s) text)

-- some of a count of logs are there, and the text goes on neither with an entry of the last of them nor with the line of a new session
pub record StopsBeforeLog (s : Sizes) (count : ℕ) (text : List ℕ) (left : ℕ) : Type 0 where
  pub logs : List Log
  pub rest : List ℕ
  pub is : text ≡ logs_text logs ++ rest
  pub good : AreLogs s logs
  pub fewer : length logs < count
  pub no_entry : HasNoEntry s logs rest
  pub no_session : ¬ (BeginsLineOf session_line (IsFreshName logs) rest)
  pub bytes : left ≡ length rest

-- among the logs: at their count, or before one of them
abbrev pub StopsInLogs : Sizes → List ℕ → ℕ → Type 0
StopsInLogs s text left =
    HasNoCount (codes "sessions") text left
    ⊎ ((n : ℕ) × (rest : List ℕ) × IsSmall n × (text ≡ count_line (codes "sessions") n ++ (10 ∷ rest)) × StopsBeforeLog s n rest left)
