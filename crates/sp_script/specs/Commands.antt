-- Commands of sessions, and which may come after which.
use Rattle.std.specs.Prelude.{◌≡◌, ℕ, ◌≤◌, ◌&&◌, ◌||◌, Bool, true, false, not, List, [], ◌∷◌, take, count_by, slice_get, Some, None, All, IsTrue}
use Rattle.std.specs.List.{list_any}
use Rattle.std.specs.Str.{bytes_eq}
use Rattle.sp_script.specs.declared.command.Command.{Command}
use Rattle.sp_script.specs.declared.command.Command.TheVariants.{Open, Act, Observe, Sync, Close}
use Rattle.sp_script.specs.declared.error.ScriptKind.{ScriptKind}
use Rattle.sp_script.specs.declared.error.ScriptKind.TheVariants.{BadLine, NotOpen, Twice, NoAction, UnknownValue, TooMany}
use Rattle.sp_script.specs.declared.request.Verb.{Verb}
use Rattle.sp_script.specs.declared.request.Verb.TheVariants.{Opening, Asking, Observing, Syncing, Closing}
use Rattle.sp_script.specs.Requests.{Request, is_session_name}

-- ---- what a command says
abbrev pub name_of : Command → List ℕ
name_of (Open name line) = name
name_of (Act name line) = name
name_of (Observe name line observation) = name
name_of (Sync name line) = name
name_of (Close name line) = name

abbrev pub line_of : Command → ℕ
line_of (Open name line) = line
line_of (Act name line) = line
line_of (Observe name line observation) = line
line_of (Sync name line) = line
line_of (Close name line) = line

abbrev pub verb_of : Command → Verb
verb_of (Open name line) = Opening
verb_of (Act name line) = Asking
verb_of (Observe name line observation) = Observing (Some observation)
verb_of (Sync name line) = Syncing
verb_of (Close name line) = Closing

-- what the command asks for, and the session's name
abbrev pub request_with : Command → Request
request_with c = (verb_of c, name_of c)

-- ---- what was asked for before
abbrev pub is_opening : Verb → Bool
is_opening Opening = true
is_opening v = false

abbrev pub is_asking : Verb → Bool
is_asking Asking = true
is_asking v = false

abbrev pub is_observing : Verb → Bool
is_observing (Observing o) = true
is_observing v = false

abbrev pub is_closing : Verb → Bool
is_closing Closing = true
is_closing v = false

-- whether the command asks for that, of the session of that name
abbrev pub asks_of : (Verb → Bool) → List ℕ → Command → Bool
asks_of test name c = test (verb_of c) && bytes_eq name (name_of c)

-- whether one of the commands does
abbrev pub was_asked : (Verb → Bool) → List ℕ → List Command → Bool
was_asked test name cs = list_any (asks_of test name) cs

-- whether a session is open: it was opened, and not closed
abbrev pub is_open : List ℕ → List Command → Bool
is_open name cs = was_asked is_opening name cs && not (was_asked is_closing name cs)

-- whether a session has an answer to observe after: it acted, and did not observe since
abbrev pub has_answer : List ℕ → List Command → Bool
has_answer name [] = false
has_answer name (c ∷ cs) = (asks_of is_asking name c && not (was_asked is_observing name cs)) || has_answer name cs

-- how many sessions were opened
abbrev pub opening_count : List Command → ℕ
opening_count cs = count_by (λ c. is_opening (verb_of c)) cs

-- ---- what may not come next
-- a request breaks a rule after the commands before it: the rows of the table of kinds, each by itself
abbrev pub BreaksAfter : List Command → Request → ScriptKind → Type 0
BreaksAfter before (verb, name) BadLine = ⊥
BreaksAfter before (verb, name) NotOpen = (is_opening verb ≡ false) × (is_open name before ≡ false)
BreaksAfter before (verb, name) Twice = (is_opening verb ≡ true) × (was_asked is_opening name before ≡ true)
BreaksAfter before (verb, name) NoAction = (is_observing verb ≡ true) × (has_answer name before ≡ false)
BreaksAfter before (verb, name) UnknownValue = verb ≡ Observing None
BreaksAfter before (verb, name) (TooMany limit) = (is_opening verb ≡ true) × (limit ≡ 1024) × (limit ≤ opening_count before)

-- each has a session's name, and breaks no rule after those before it
pub record AreCommands (cs : List Command) : Type 0 where
  pub named : All (λ c. IsTrue (is_session_name (name_of c))) cs
  pub in_order : (k : ℕ) (c : Command) (kind : ScriptKind) → slice_get cs k ≡ Some c → ¬ BreaksAfter (take k cs) (request_with c) kind
