-- The text of a plan file, line by line. Each line has its end, and words are separated by one space.
use Rattle.std.specs.Prelude.{ℕ, ℤ, List, [], ◌∷◌, ◌++◌, length, codes, Option, Some, None, is_some, Bool, true, false, if◌then◌else◌}
use Rattle.std.specs.Fmt.{decimal}
use Rattle.sp_theory.specs.Book.{Event}
use Rattle.sp_theory.specs.Logs.{Entry, told, act, observe, unseen, closing, Log}
use Rattle.sp_value.specs.declared.tasks.Explore.{Explore}
use Rattle.sp_value.specs.declared.tasks.Explore.TheVariants.{Uniform, Sweep}
use Rattle.sp_value.specs.declared.tasks.Options.{Options}
use Rattle.sp_show.specs.Decimals.{decimal_of}
use Rattle.sp_lines.specs.Lines.{numbers_behind_spaces, lines_of}
use Rattle.sp_planfile.specs.RunText.{event_line}
use Rattle.sp_planfile.specs.Contents.{Contents}

-- ---- lines, without their ends
abbrev pub version_line : Bool → List ℕ
version_line has_values = if has_values then codes "perseus-plan 2" else codes "perseus-plan 1"

abbrev pub explore_word : Explore → List ℕ
explore_word Uniform = codes " uniform"
explore_word Sweep = codes " sweep"

abbrev pub prune_word : Bool → List ℕ
prune_word true = codes " yes"
prune_word false = codes " no"

abbrev pub options_line : Options → List ℕ
options_line o = codes "options" ++ (numbers_behind_spaces (o.beliefs ∷ o.depth ∷ o.stages ∷ o.seed ∷ []) ++ (explore_word o.explore ++ prune_word o.prune))

abbrev pub belief_line : ℕ × ℕ → List ℕ
belief_line move = codes "belief" ++ numbers_behind_spaces (move.0 ∷ move.1 ∷ [])

abbrev pub value_line : ℤ → List ℕ
value_line value = codes "value " ++ decimal_of value

abbrev pub entry_line : Entry → List ℕ
entry_line (told e) = codes "told" ++ numbers_behind_spaces (e ∷ [])
entry_line (act e id a) = codes "act" ++ numbers_behind_spaces (e ∷ id ∷ a ∷ [])
entry_line (observe o) = codes "observe" ++ numbers_behind_spaces (o ∷ [])
entry_line (unseen o) = codes "unseen" ++ numbers_behind_spaces (o ∷ [])
entry_line (closing e id a) = codes "closing" ++ numbers_behind_spaces (e ∷ id ∷ a ∷ [])

-- ---- sections
-- what stands before the lines of the model: of version 2 where there are values
abbrev pub head_text : Bool → List ℕ
head_text has_values = version_line has_values ++ codes "\nmodel\n"

-- a word with the count of what follows
abbrev pub count_line : List ℕ → ℕ → List ℕ
count_line word count = word ++ numbers_behind_spaces (count ∷ [])

abbrev pub events_section : List Event → List ℕ
events_section events = count_line (codes "events") (length events) ++ (10 ∷ lines_of event_line events)

abbrev pub values_text : Option (List ℤ) → List ℕ
values_text None = []
values_text (Some values) = count_line (codes "values") (length values) ++ (10 ∷ lines_of value_line values)

abbrev pub log_text : Log → List ℕ
log_text log = codes "session " ++ (log.name ++ (10 ∷ lines_of entry_line log.entries))

abbrev pub logs_text : List Log → List ℕ
logs_text [] = []
logs_text (log ∷ logs) = log_text log ++ logs_text logs

abbrev pub logs_section : List Log → List ℕ
logs_section logs = count_line (codes "sessions") (length logs) ++ (10 ∷ logs_text logs)

-- ---- from a section to the end
abbrev pub text_from_logs : Contents → List ℕ
text_from_logs c = logs_section c.logs ++ codes "done\n"

abbrev pub text_from_values : Contents → List ℕ
text_from_values c = values_text c.values ++ text_from_logs c

abbrev pub text_from_events : Contents → List ℕ
text_from_events c = events_section c.events ++ text_from_values c

abbrev pub text_from_moves : Contents → List ℕ
text_from_moves c = lines_of belief_line c.moves ++ text_from_events c

abbrev pub text_from_options : Contents → List ℕ
text_from_options c = options_line c.options ++ (10 ∷ text_from_moves c)

-- the whole text
abbrev pub plan_text : Contents → List ℕ
plan_text c = head_text (is_some c.values) ++ (c.model ++ (codes "endmodel\n" ++ text_from_options c))

-- the lines of logs by themselves, as they end a plan file
abbrev pub sessions_text : List Log → List ℕ
sessions_text logs = logs_section logs ++ codes "done\n"
