-- What the commands write.
use Rattle.std.specs.Prelude.{◌≡◌, ℕ, ℤ, List, [], ◌++◌, length, codes, cond, Bool, false, Some}
use Rattle.std.specs.Fmt.{decimal}
use Rattle.sp_theory.specs.Points.{count_of}
use Rattle.sp_theory.specs.Model.{least_return}
use Rattle.sp_theory.specs.Backup.{tick_bound}
use Rattle.sp_model.specs.declared.parts.Parts.{Parts}
use Rattle.sp_model.specs.Problem.{problem, sizes_of}
use Rattle.sp_show.specs.Decimals.{decimal_of}
use Rattle.sp_choose.specs.Machines.{Machine, uniform, sweep}
use Rattle.sp_value.specs.declared.tasks.Options.{Options}
use Rattle.sp_value.specs.declared.tasks.Explore.TheVariants.{Uniform, Sweep}
use Rattle.sp_reader.specs.Sources.{Reads}
use Rattle.sp_planfile.specs.ModelText.{model_bytes}
use Rattle.sp_planning.specs.PlanFiles.{values_after}
use Rattle.sp_planning.specs.ScriptFiles.{IsScriptFileFor, scripted_contents}
use Rattle.sp_planning.specs.RunFiles.{IsRunFileFor}
use Rattle.sp_judging.specs.PlanFiles.{IsLegalFile}
use Rattle.sp_script.specs.declared.command.Command.{Command}
use Rattle.sp_planner.specs.declared.summary.Summary.{Summary}
use Rattle.sp_planner.specs.Planned.{IsSummaryFor}
use Rattle.sp_words.specs.declared.job.PlanWords.{PlanWords}

-- ---- check
-- how many variables, states, joint observations and actions there are
abbrev pub counts_text : ℕ → ℕ → ℕ → ℕ → List ℕ
counts_text variables states observations actions =
    codes "ok variables " ++ (decimal variables ++ (codes " states " ++ (decimal states ++ (codes " observations " ++ (decimal observations ++ (codes " actions " ++ decimal actions))))))

-- the least return, and K
abbrev pub range_text : ℤ → ℕ → List ℕ
range_text least units = codes " least " ++ (decimal_of least ++ (codes " units " ++ (decimal units ++ codes "\n")))

-- the numbers of a model
abbrev pub check_line : Parts → List ℕ
check_line p =
    counts_text (length p.variables) (count_of (sizes_of p.variables)) (count_of (sizes_of p.sights)) (length p.actions)
    ++ range_text (least_return (problem p)) (tick_bound (problem p))

-- ---- show
-- the text is the canonical one of the model, and means that model
pub record IsShownText (model : Parts) (text : List ℕ) : Type 0 where
  pub is : text ≡ model_bytes model
  pub meaning : Reads text model

-- a canonical text is that of one model only, and is shown as it is
abbrev pub ShownTextsAreKept : Type 0
ShownTextsAreKept = (model other : Parts) (text again : List ℕ) → IsShownText model text → Reads text other → IsShownText other again → (model ≡ other) × (again ≡ text)

-- ---- plan
-- the options that words ask for
abbrev pub options_of : PlanWords → Options
options_of p = record { beliefs = p.beliefs; depth = p.depth; stages = p.stages; seed = p.seed; explore = cond p.sweep Sweep Uniform; prune = p.prune }

-- the chooser that words ask for
abbrev pub chooser_of : Bool → Machine
chooser_of by_turns = cond by_turns (sweep 0) uniform

-- the text is the plan file of a run for the model, with the options and the sampled beliefs of the words, with the values of its editions and with the
-- logs of the sessions of these commands; its lines of the model mean that model; and on no further threads the run and the logs are those of one thread
pub record IsPlanText (model : Parts) (p : PlanWords) (cs : List Command) (text : List ℕ) : Type 0 where
  pub file : IsRunFileFor model (options_of p) (chooser_of p.sweep) cs text
  pub meaning : Reads (model_bytes model) model
  pub alone : p.workers ≡ 0 → IsScriptFileFor model (options_of p) (chooser_of p.sweep) cs text

-- the texts of two plans are the same only where the models and the options are, the actions and the observations of the beliefs, the events, the values
-- of the editions, and the logs
abbrev pub OnePlan : Type 0
OnePlan =
    (model other : Parts) (p q : PlanWords) (cs ds : List Command) (text : List ℕ) (one : IsPlanText model p cs text) (two : IsPlanText other q ds text)
    → (model ≡ other) × (options_of p ≡ options_of q)
    × (scripted_contents model one.file.task one.file.events one.file.transcript ≡ scripted_contents other two.file.task two.file.events two.file.transcript)

-- what is planned is a legal plan file with the logs of its sessions, whose values are true: an audit accepts it, up to the limit of plan files. Without
-- commands it has no log
abbrev pub PlannedFilesAreLegal : Type 0
PlannedFilesAreLegal =
    (model : Parts) (p : PlanWords) (cs : List Command) (text : List ℕ) (one : IsPlanText model p cs text)
    → IsLegalFile text one.file.task one.file.events (Some (values_after one.file.task one.file.events)) one.file.transcript
    × (cs ≡ [] → one.file.transcript ≡ [])

-- ---- trial
-- what a trial of a number plans: 100 beliefs of depth 10 and 5 stages, with the number as its seed
abbrev pub trial_options : ℕ → Options
trial_options number = record { beliefs = 100; depth = 10; stages = 5; seed = number; explore = Uniform; prune = false }

-- the lines of a trial up to its records
abbrev pub trial_front : ℕ → ℕ → ℕ → List ℕ
trial_front number states records = codes "trial " ++ (decimal number ++ (codes "\nstates " ++ (decimal states ++ (codes "\nbeliefs 100\nstages 5\nrecords " ++ decimal records))))

-- its lines behind them
abbrev pub trial_back : ℕ → ℕ → ℤ → List ℕ
trial_back editions members value = codes "\neditions " ++ (decimal editions ++ (codes "\nmembers " ++ (decimal members ++ (codes "\nvalue " ++ (decimal_of value ++ codes "\n")))))

-- the lines of a trial
abbrev pub trial_lines : ℕ → ℕ → Summary → List ℕ
trial_lines number states s = trial_front number states s.records ++ trial_back s.editions s.members s.value

-- the text tells the numbers of what one thread plans for the model
pub record IsTrialText (model : Parts) (number : ℕ) (text : List ℕ) : Type 0 where
  pub summary : Summary
  pub numbers : IsSummaryFor model (trial_options number) uniform summary
  pub is : text ≡ trial_lines number (count_of (sizes_of model.variables)) summary
