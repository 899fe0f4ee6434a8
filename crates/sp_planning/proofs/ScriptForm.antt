-- The logs of a script that was served are in form.
use Rattle.std.proofs.Common.{◌≡◌, ◌≢◌, sym, subst, refl, arith, ℕ, zero, suc, Bool, true, false, cond, ◌&&◌, List, [], ◌∷◌, map, length}
use Rattle.std.specs.Prelude.{All, AllPairs, IsTrue, filter, nat_lt, nat_le}
use Rattle.std.specs.List.{AllByRecursion, list_all}
use Rattle.std.proofs.lemmas.Bool.{ltb-true, leb-true}
use Rattle.std.proofs.lemmas.List.{length-map}
use Rattle.std.proofs.lemmas.List.Elements.{All-nil, All-cons}
use Rattle.sp_theory.specs.Points.{count_of}
use Rattle.sp_theory.specs.Logs.{Entry, told, act, observe, unseen, closing, Log}
use Rattle.sp_model.specs.declared.parts.Parts.{Parts}
use Rattle.sp_model.specs.Problem.{sizes_of}
use Rattle.sp_model.specs.Words.{is_word_byte}
use Rattle.sp_value.specs.declared.events.Event.{Event}
use Rattle.sp_value.specs.Tasks.{TaskParts}
use Rattle.sp_session.specs.declared.logs.SessionLog.{SessionLog}
use Rattle.sp_session.specs.Logs.{entries_of, log_of, logs_of}
use Rattle.sp_session.specs.Sessions.{IsEntryOf}
use Rattle.sp_script.specs.declared.command.Command.{Command}
use Rattle.sp_script.specs.Requests.{is_session_name}
use Rattle.sp_script.specs.Commands.{name_of, verb_of, is_opening, AreCommands}
use Rattle.sp_script.specs.Served.{opened_names}
use Rattle.sp_serving.specs.Serving.{HasEntriesOf}
use Rattle.sp_serving.proofs.Transcripts.{different_all}
use Rattle.sp_lines.specs.Lines.{IsSmall}
use Rattle.sp_planfile.specs.Form.{IsEntryInForm, HasSmallNumbers, IsSessionName, IsLogInForm, IsInForm}
use Rattle.sp_planning.specs.PlanFiles.{planned_contents}
use Rattle.sp_planning.specs.ScriptFiles.{scripted_contents, AreSmallLogs}
use Rattle.sp_planning.specs.BookFiles.{AreFileLogs}

-- ---- names
both : (a b : Bool) → (a && b) ≡ true → (a ≡ true) × (b ≡ true)
both true b e = (refl, e)
both false b e = absurd (cc)

all_bytes : (bytes : List ℕ) → list_all is_word_byte bytes ≡ true → All (λ b. IsTrue (is_word_byte b)) bytes
all_bytes [] e = All-nil (λ b. IsTrue (is_word_byte b))
all_bytes (b ∷ bytes) e = let (first, rest) = both (is_word_byte b) (list_all is_word_byte bytes) e in All-cons (λ b. IsTrue (is_word_byte b)) b bytes first (all_bytes bytes rest)

-- a name that a script gives a session is one that a plan file may have
pub name_in_form : (name : List ℕ) → is_session_name name ≡ true → IsSessionName name
name_in_form name e =
    let (some, rest) = both (nat_lt 0 (length name)) (nat_le (length name) 64 && list_all is_word_byte name) e in
    let (short, bytes) = both (nat_le (length name) 64) (list_all is_word_byte name) rest in
    record { word = record { some = ltb-true 0 (length name) some; bytes = all_bytes name bytes }; short = leb-true (length name) 64 short }

names_in_form : (cs : List Command) → All (λ c. IsTrue (is_session_name (name_of c))) cs → All IsSessionName (opened_names cs)
names_in_form [] named = All-nil IsSessionName
names_in_form (c ∷ cs) named = by_opening (is_opening (verb_of c)) (names_in_form cs (λ k d less. named (suc k) d (omega (arith, less))))
  where
    by_opening : (b : Bool) → All IsSessionName (opened_names cs) → All IsSessionName (map name_of (cond b (c ∷ filter (λ (d : Command). is_opening (verb_of d)) cs) (filter (λ (d : Command). is_opening (verb_of d)) cs)))
    by_opening true rest = All-cons IsSessionName (name_of c) (opened_names cs) (name_in_form (name_of c) (named zero c (omega arith))) rest
    by_opening false rest = rest

-- ---- entries
entry_in_form : (p : Parts) (x : Entry) → HasSmallNumbers x → IsEntryOf p x → IsEntryInForm (length p.actions) (count_of (sizes_of p.sights)) x
entry_in_form p (told e) small known = small.0
entry_in_form p (act e id a) small known = (small.0, small.1.0, known)
entry_in_form p (observe o) small known = known
entry_in_form p (unseen o) small known = known
entry_in_form p (closing e id a) small known = (small.0, small.1.0, known)

entries_in_form : (p : Parts) (xs : List Entry) → AllByRecursion HasSmallNumbers xs → All (IsEntryOf p) xs → AllByRecursion (IsEntryInForm (length p.actions) (count_of (sizes_of p.sights))) xs
entries_in_form p [] small known = tt
entries_in_form p (x ∷ xs) (first, rest) known = (entry_in_form p x first (known zero x (omega arith)), entries_in_form p xs rest (λ k d less. known (suc k) d (omega (arith, less))))

-- ---- logs
logs_by_names : (p : Parts) (logs : List SessionLog) → AreSmallLogs logs → All (HasEntriesOf p) (logs_of logs) → All IsSessionName (map (λ log. log.name) (logs_of logs))
    → AllByRecursion (IsLogInForm (length p.actions) (count_of (sizes_of p.sights))) (logs_of logs)
logs_by_names p [] small known names = tt
logs_by_names p (log ∷ logs) (first, rest) known names = (
  record { name = names zero log.name (omega arith); entries = entries_in_form p (entries_of log.entries) first (known zero (log_of log) (omega arith)) },
  logs_by_names p logs rest (λ k d less. known (suc k) d (omega (arith, less))) (λ k d less. names (suc k) d (omega (arith, less))),
)

-- the logs of the sessions of a script
pub file_logs : (p : Parts) (cs : List Command) → AreCommands cs → (logs : List Log) → map (λ log. log.name) logs ≡ opened_names cs → All (HasEntriesOf p) logs → AreFileLogs p logs
file_logs p cs are logs names known = record {
  names = subst (All IsSessionName) (sym names) (names_in_form cs are.named);
  different = subst (AllPairs (λ x y. x ≢ y)) (sym names) (different_all [] cs are (λ i j d less h. absurd (omega (arith, less, h))));
  entries = known;
}

-- without sessions
pub no_logs : (p : Parts) → AreFileLogs p []
no_logs p = record {
  names = All-nil IsSessionName;
  different = λ i j d less h. absurd (omega (arith, less, h));
  entries = All-nil (HasEntriesOf p);
}

-- what is in form without logs is so with logs that are
pub with_logs : (p : Parts) (t : TaskParts) (events : List Event) (transcript : List SessionLog) → IsInForm (length p.actions) (count_of (sizes_of p.sights)) (planned_contents p t events)
    → AreSmallLogs transcript → IsSmall (length transcript) → AreFileLogs p (logs_of transcript)
    → IsInForm (length p.actions) (count_of (sizes_of p.sights)) (scripted_contents p t events transcript)
with_logs p t events transcript form small count logs = record {
  few_actions = form.few_actions;
  few_joint = form.few_joint;
  model = form.model;
  options = form.options;
  move_count = form.move_count;
  moves = form.moves;
  event_count = form.event_count;
  events = form.events;
  values = form.values;
  log_count = let long = length-map transcript log_of in subst IsSmall (sym long) count;
  logs = logs_by_names p transcript small logs.entries logs.names;
  names = logs.different;
}
