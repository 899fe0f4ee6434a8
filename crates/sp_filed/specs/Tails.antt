-- Where a plan file stops to be as the form needs behind its model, and what is read there.
use Rattle.std.specs.Prelude.{◌≡◌, ◌≢◌, ℕ, ℤ, suc, ◌<◌, ◌⊎◌, Bool, true, false, Option, Some, None, is_some, List, [], ◌∷◌, ◌++◌, length, codes}
use Rattle.std.specs.List.{AllByRecursion}
use Rattle.sp_theory.specs.Points.{count_of}
use Rattle.sp_theory.specs.Book as book
use Rattle.sp_theory.specs.Logs as logs
use Rattle.sp_model.specs.declared.parts.Parts.{Parts}
use Rattle.sp_model.specs.declared.beliefs.Sample.{Sample}
use Rattle.sp_model.specs.Problem.{sizes_of}
use Rattle.sp_value.specs.declared.events.Event.{Event}
use Rattle.sp_value.specs.declared.tasks.Options.{Options}
use Rattle.sp_value.specs.Tasks.{TaskParts, IsTask}
use Rattle.sp_session.specs.declared.logs.SessionLog.{SessionLog}
use Rattle.sp_lines.specs.Lines.{lines_of, IsSmall, BeginsLineOf}
use Rattle.sp_planfile.specs.Contents.{contents_of, moves_of}
use Rattle.sp_planfile.specs.PlanText.{options_line, belief_line, events_section, logs_section, values_text, text_from_options}
use Rattle.sp_planfile.specs.Form.{AreInRange, AreModelLines, IsInForm, IsTickValue, edition_count}
use Rattle.sp_filed.specs.declared.sizes.Sizes.{Sizes}
use Rattle.sp_filed.specs.Sizes.{IsEventOf}
use Rattle.sp_filed.specs.Sampled.{AreSampledBy, StopsInMoves, IsUnseenMove}
use Rattle.sp_filed.specs.Stops.{StopsInEvents, StopsInValues, StopsInLogs, AreLogs, HasNoEntry}

-- behind the logs: the last line isn't there, or something stands behind it
abbrev pub StopsAtEnd : Sizes → List logs.Log → List ℕ → ℕ → Type 0
StopsAtEnd s ls text left =
    (HasNoEntry s ls text × ((rest : List ℕ) → text ≢ codes "done\n" ++ rest) × (left ≡ length text))
    ⊎ ((rest : List ℕ) × (text ≡ codes "done\n" ++ rest) × (0 < length rest) × (left ≡ length rest))

abbrev pub StopsBehindValues : Sizes → List ℕ → ℕ → Type 0
StopsBehindValues s text left =
    StopsInLogs s text left
    ⊎ ((ls : List logs.Log) × (rest : List ℕ) × AreLogs s ls × IsSmall (length ls) × (text ≡ logs_section ls ++ rest) × StopsAtEnd s ls rest left)

-- behind events that make so many editions; there are values in version 2 alone
abbrev pub StopsBehindEvents : Bool → ℕ → Sizes → List ℕ → ℕ → Type 0
StopsBehindEvents false editions s text left = StopsBehindValues s text left
StopsBehindEvents true editions s text left =
    StopsInValues editions text left
    ⊎ ((values : List ℤ) × (rest : List ℕ) × AllByRecursion IsTickValue values × (length values ≡ editions) × (text ≡ values_text (Some values) ++ rest) × StopsBehindValues s rest left)

abbrev pub StopsBehindMoves : Bool → Sizes → List ℕ → ℕ → Type 0
StopsBehindMoves has_values s text left =
    StopsInEvents s text left
    ⊎ ((events : List book.Event) × (rest : List ℕ) × AllByRecursion (IsEventOf s) events × IsSmall (length events) × (text ≡ events_section events ++ rest) × StopsBehindEvents has_values (suc (edition_count events)) s rest left)

-- logs behind values
pub record AreReadLogs (s : Sizes) (text : List ℕ) (ls : List logs.Log) : Type 0 where
  pub is : text ≡ logs_section ls ++ codes "done\n"
  pub count : IsSmall (length ls)
  pub good : AreLogs s ls

-- values as the version and the editions demand
abbrev pub AreVersionValues : Bool → ℕ → Option (List ℤ) → Type 0
AreVersionValues has_values editions None = has_values ≡ false
AreVersionValues has_values editions (Some values) = (has_values ≡ true) × (length values ≡ editions) × IsSmall (length values) × AllByRecursion IsTickValue values

-- values and logs behind events
pub record IsReadBehindEvents (has_values : Bool) (editions : ℕ) (s : Sizes) (text : List ℕ) (told : Option (List ℤ)) (ls : List logs.Log) : Type 0 where
  pub rest : List ℕ
  pub is : text ≡ values_text told ++ rest
  pub values : AreVersionValues has_values editions told
  pub logs : AreReadLogs s rest ls

-- events, values and logs behind beliefs
pub record IsReadBehindMoves (has_values : Bool) (s : Sizes) (text : List ℕ) (events : List book.Event) (values : Option (List ℤ)) (ls : List logs.Log) : Type 0 where
  pub rest : List ℕ
  pub is : text ≡ events_section events ++ rest
  pub count : IsSmall (length events)
  pub good : AllByRecursion (IsEventOf s) events
  pub behind : IsReadBehindEvents has_values (suc (edition_count events)) s rest values ls

-- the last line isn't there, or something stands behind it
abbrev pub IsEndOfFile : List ℕ → ℕ → Type 0
IsEndOfFile text left =
    (((rest : List ℕ) → text ≢ codes "done\n" ++ rest) × (left ≡ length text))
    ⊎ ((rest : List ℕ) × (text ≡ codes "done\n" ++ rest) × (0 < length rest) × (left ≡ length rest))

-- ---- behind the options
-- what the form of lines depends on, for a model and options
abbrev pub sizes_for : Parts → Options → Sizes
sizes_for p o = record { beliefs = o.beliefs; actions = length p.actions; joint = count_of (sizes_of p.sights) }

abbrev pub StopsBehindOptions : Bool → Parts → Options → List ℕ → ℕ → Type 0
StopsBehindOptions has_values p o text left =
    StopsInMoves p (sizes_for p o) o.depth text left
    ⊎ ((xs : List Sample) × (rest : List ℕ) × AreSampledBy p (sizes_for p o) o.depth xs × (length xs ≡ o.beliefs) × (text ≡ lines_of belief_line (moves_of xs) ++ rest) × StopsBehindMoves has_values (sizes_for p o) rest left)

-- beliefs, events, values and logs behind the options
pub record IsReadBehindOptions (has_values : Bool) (p : Parts) (o : Options) (text : List ℕ) (xs : List Sample) (events : List book.Event) (values : Option (List ℤ)) (ls : List logs.Log) : Type 0 where
  pub rest : List ℕ
  pub is : text ≡ lines_of belief_line (moves_of xs) ++ rest
  pub count : length xs ≡ o.beliefs
  pub sampled : AreSampledBy p (sizes_for p o) o.depth xs
  pub behind : IsReadBehindMoves has_values (sizes_for p o) rest events values ls

-- ---- behind the model
abbrev pub StopsBehindModel : Bool → Parts → List ℕ → ℕ → Type 0
StopsBehindModel has_values p text left =
    ((¬ (BeginsLineOf options_line AreInRange text)) × (left ≡ length text))
    ⊎ ((o : Options) × (rest : List ℕ) × AreInRange o × (text ≡ options_line o ++ (10 ∷ rest)) × StopsBehindOptions has_values p o rest left)

abbrev pub IsUnseenBehindModel : Parts → List ℕ → ℕ → Type 0
IsUnseenBehindModel p text left = (o : Options) × (rest : List ℕ) × AreInRange o × (text ≡ options_line o ++ (10 ∷ rest)) × IsUnseenMove p (sizes_for p o) o.depth rest left

-- the text tells a task of the model, events, values in version 2, and logs, from the options on
pub record IsReadBehindModel (has_values : Bool) (p : Parts) (text : List ℕ) (t : TaskParts) (events : List Event) (values : Option (List ℤ)) (transcript : List SessionLog) : Type 0 where
  pub task : IsTask t
  pub model : t.model ≡ p
  pub is : text ≡ text_from_options (contents_of [] t events values transcript)
  pub version : is_some values ≡ has_values
  pub form : (body : List ℕ) → AreModelLines body → IsInForm (length p.actions) (count_of (sizes_of p.sights)) (contents_of body t events values transcript)
