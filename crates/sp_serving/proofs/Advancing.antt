-- A serving with one command more.
use Rattle.std.proofs.Common.{◌≡◌, ◌≢◌, ◌∙◌, sym, ap, subst, refl, arith, ℕ, zero, suc, ◌<◌, ◌≤◌, Bool, true, false, cond, not, ◌&&◌, ◌||◌, List, [], ◌∷◌, ◌++◌, map, length, get_or, append_assoc, set}
use Rattle.std.specs.Prelude.{All, AllPairs, Contains, IsSome, filter}
use Rattle.std.specs.Str.{bytes_eq}
use Rattle.std.proofs.lemmas.List.{get_or-map, length-map}
use Rattle.std.proofs.lemmas.Bool.{false_from_ne_true}
use Rattle.sp_theory.specs.Points.{count_of}
use Rattle.sp_theory.specs.Model.{Model}
use Rattle.sp_theory.specs.Logs.{Session, Log}
use Rattle.sp_model.specs.declared.parts.Parts.{Parts}
use Rattle.sp_model.specs.Problem.{problem, sizes_of}
use Rattle.sp_value.specs.Tasks.{TaskParts}
use Rattle.sp_session.specs.Sessions.{SessionParts, session_of}
use Rattle.sp_script.specs.declared.command.Command.{Command}
use Rattle.sp_script.specs.declared.error.ScriptKind.{ScriptKind}
use Rattle.sp_script.specs.declared.error.ScriptKind.TheVariants.{NotOpen}
use Rattle.sp_script.specs.Commands.{name_of, verb_of, request_with, is_opening, is_observing, is_closing, asks_of, was_asked, has_answer, BreaksAfter, AreCommands}
use Rattle.sp_script.specs.Laws.{IsObservationWithin}
use Rattle.sp_script.specs.Served.{opened_names}
use Rattle.sp_script.proofs.CommandLemmas.{bytes_same, bytes_self}
use Rattle.sp_serving.specs.Replies.{Shown, session_in, log_after_command, log_with}
use Rattle.sp_serving.specs.Progress.{IsReady, AreUnderWay}
use Rattle.sp_serving.specs.Serving.{log_in, IsSeatOf, IsFor, ServingParts, IsServing, after_first}
use Rattle.sp_serving.proofs.Commanding.{faultless_at, commands_on, commands_first, is_answered}
use Rattle.sp_serving.proofs.LogSteps.{under_way_after}
use Rattle.sp_serving.proofs.Transcripts.{different_all}

-- ---- names
-- a name that was opened is among the names
opened_there : (name : List ℕ) (cs : List Command) → was_asked is_opening name cs ≡ true → Contains (opened_names cs) name
opened_there name [] opened = absurd (cc)
opened_there name (c ∷ cs) opened = by_opening (is_opening (verb_of c)) (bytes_eq name (name_of c)) refl opened (opened_there name cs)
  where
    later : Contains (opened_names cs) name → (x : List ℕ) → Contains (x ∷ opened_names cs) name
    later (k, less, is) x = (suc k, omega (arith, less), is)

    by_opening : (b same : Bool) → bytes_eq name (name_of c) ≡ same → ((b && same) || was_asked is_opening name cs) ≡ true → (was_asked is_opening name cs ≡ true → Contains (opened_names cs) name)
        → Contains (map name_of (cond b (c ∷ filter (λ (d : Command). is_opening (verb_of d)) cs) (filter (λ (d : Command). is_opening (verb_of d)) cs))) name
    by_opening false same e h rest = rest h
    by_opening true true e h rest = (0, omega arith, sym (bytes_same name (name_of c) e))
    by_opening true false e h rest = later (rest h) (name_of c)

-- the session of a command that isn't an opening was opened
pub command_there : (before : List Command) (c : Command) → ((kind : ScriptKind) → ¬ BreaksAfter before (request_with c) kind) → is_opening (verb_of c) ≡ false → Contains (opened_names before) (name_of c)
command_there before c faultless plain = by_test (was_asked is_opening (name_of c) before) refl
  where
    by_test : (b : Bool) → was_asked is_opening (name_of c) before ≡ b → Contains (opened_names before) (name_of c)
    by_test true e = opened_there (name_of c) before e
    by_test false e = absurd (faultless NotOpen (plain, ap (λ (b : Bool). b && not (was_asked is_closing (name_of c) before)) e))

-- ---- the log of one session
bytes_differ : (xs ys : List ℕ) → xs ≢ ys → bytes_eq xs ys ≡ false
bytes_differ xs ys differ = false_from_ne_true (bytes_eq xs ys) (λ same. differ (bytes_same xs ys same))

module _ (m : Model) (shown : Shown) (c : Command) where
  own_log : (log : Log) → log.name ≡ name_of c → log_with m shown c log ≡ log_after_command m shown c log
  own_log log is = ap (λ (b : Bool). cond b (log_after_command m shown c log) log) (ap (λ (name : List ℕ). bytes_eq name (name_of c)) is ∙ bytes_self (name_of c))

  other_log : (log : Log) → log.name ≢ name_of c → log_with m shown c log ≡ log
  other_log log differ = ap (λ (b : Bool). cond b (log_after_command m shown c log) log) (bytes_differ log.name (name_of c) differ)

  other_logs : (logs : List Log) → All (λ log. log.name ≢ name_of c) logs → map (log_with m shown c) logs ≡ logs
  other_logs [] differ = refl
  other_logs (log ∷ logs) differ = λ i. other_log log (differ zero log (omega arith)) i ∷ other_logs logs (λ k d less. differ (suc k) d (omega (arith, less))) i

  -- of logs with different names that of the command's session alone changes
  pub one_replied : (logs : List Log) (place : ℕ) (log : Log) → place < length logs → get_or logs place log ≡ log → log.name ≡ name_of c → AllPairs (λ x y. x.name ≢ y.name) logs
      → set logs place (log_after_command m shown c log) ≡ map (log_with m shown c) logs
  one_replied [] place log less at name differ = absurd (omega (arith, less))
  one_replied (x ∷ xs) zero log less at name differ =
      (λ i. log_after_command m shown c (sym at i) ∷ sym (other_logs xs others) i) ∙ (λ i. sym (own_log x (ap (λ (l : Log). l.name) at ∙ name)) i ∷ map (log_with m shown c) xs)
    where
      others : All (λ l. l.name ≢ name_of c) xs
      others k d within h = differ zero (suc k) d (omega arith) (omega (arith, within)) (ap (λ (l : Log). l.name) at ∙ name ∙ sym h)
  one_replied (x ∷ xs) (suc place) log less at name differ =
      λ i. sym (other_log x first) i ∷ one_replied xs place log (omega (arith, less)) at name (λ j k d low within. differ (suc j) (suc k) d (omega (arith, low)) (omega (arith, within))) i
    where
      first : x.name ≢ name_of c
      first h = differ zero (suc place) log (omega arith) (omega (arith, less)) (h ∙ sym (ap (λ (l : Log). l.name) at ∙ name))

-- different names, from one list to the other
pub names_apart : (logs : List Log) → AllPairs (λ x y. x ≢ y) (map (λ log. log.name) logs) → AllPairs (λ x y. x.name ≢ y.name) logs
names_apart logs differ i j d less within h =
    differ i j d.name less (let long = length-map logs (λ (log : Log). log.name) in omega (arith, long, within))
    (get_or-map (λ (log : Log). log.name) logs i d d.name (omega (arith, less, within)) ∙ h ∙ sym (get_or-map (λ (log : Log). log.name) logs j d d.name within))

-- the logs of a serving have different names
pub logs_apart : (m : Model) (served left : List Command) (n : ℕ) (logs : List Log) → AreCommands (served ++ left) → AreUnderWay m served n logs → AllPairs (λ x y. x.name ≢ y.name) logs
logs_apart m served left n logs are under = names_apart logs (subst (AllPairs (λ x y. x ≢ y)) (sym under.names) (different_all [] served (commands_first served left are) (λ i j d less h. absurd (omega (arith, less, h)))))

-- ---- what a session may be given
module _ (t : TaskParts) (before : List Command) (n : ℕ) (c : Command) (faultless : (kind : ScriptKind) → ¬ BreaksAfter before (request_with c) kind) (s : SessionParts) (task : s.task ≡ t) (ready : IsReady (problem t.model) before n (log_in s)) where
  session_is : session_of s ≡ session_in (problem t.model) (log_in s)
  session_is = ap (λ (u : TaskParts). session_in (problem u.model) (log_in s)) task

  pub seat_is : (k : ℕ) → n ≤ k → IsSeatOf t k s
  seat_is k later = record { task = task; newest = subst (λ (x : Session). x.newest ≤ k) (sym session_is) (let low = ready.newest in omega (arith, low, later)) }

  pub fits_session : s.name ≡ name_of c → IsObservationWithin (count_of (sizes_of t.model.sights)) c → IsFor s c
  fits_session name within = record {
    within = subst (λ (u : TaskParts). IsObservationWithin (count_of (sizes_of u.model.sights)) c) (sym task) within;
    answered = λ observes. subst (λ (x : Session). IsSome x.acted) (sym session_is) (ready.answer (ap (λ (called : List ℕ). has_answer called before) name ∙ is_answered before c faultless observes));
  }

-- ---- a serving that goes on
pub serving_on : (s : ServingParts) → IsServing s → (shown : Shown) → s.newest ≤ shown.0 → (c : Command) (rest : List Command) → s.left ≡ c ∷ rest → IsServing (after_first s shown (c ∷ rest))
serving_on s is shown later c rest left = record {
  task = is.task;
  commands = commands_on s.served c rest are;
  within = subst (All (IsObservationWithin (count_of (sizes_of s.task.model.sights)))) (ap (λ (cs : List Command). s.served ++ cs) left ∙ sym (append_assoc s.served (c ∷ []) rest)) is.within;
  under = under_way_after (problem s.task.model) shown s.served s.newest later c (faultless_at s.served c rest are) s.logs is.under;
}
  where
    are : AreCommands (s.served ++ c ∷ rest)
    are = subst (λ (cs : List Command). AreCommands (s.served ++ cs)) left is.commands
