-- Logs after one command more.
use Rattle.std.proofs.Common.{◌≡◌, ◌≢◌, ◌∙◌, sym, ap, subst, refl, arith, ℕ, zero, suc, ◌<◌, ◌≤◌, Bool, true, false, cond, not, ◌&&◌, ◌||◌, List, [], ◌∷◌, ◌++◌, map, length, append-nil, Option, Some, None}
use Rattle.std.specs.Prelude.{All, AllPairs, Contains, IsSome, IsNone, is_some, slice_get}
use Rattle.std.specs.Str.{bytes_eq}
use Rattle.std.proofs.lemmas.List.{map-append}
use Rattle.std.proofs.lemmas.List.Elements.{All-push, All-map}
use Rattle.std.proofs.lemmas.Option.{slice_get_within}
use Rattle.sp_theory.specs.Points.{count_of}
use Rattle.sp_theory.specs.Model.{Model}
use Rattle.sp_theory.specs.Values.{Edition, greatest_member}
use Rattle.sp_theory.specs.Agreement.{EditionsAgree}
use Rattle.sp_theory.specs.Logs.{Entry, told, act, observe, unseen, closing, Session, opening_session, all_of, weights_after_observation, IsAnswer, MayEnter, after_entry, IsLog, session_after, Log}
use Rattle.sp_theory.proofs.Agreement.{greatest_member_agrees}
use Rattle.sp_session.proofs.Entering.{session_after-append, log_append}
use Rattle.sp_script.specs.declared.command.Command.{Command}
use Rattle.sp_script.specs.declared.command.Command.TheVariants.{Open, Act, Observe, Sync, Close}
use Rattle.sp_script.specs.declared.error.ScriptKind.{ScriptKind}
use Rattle.sp_script.specs.Commands.{name_of, verb_of, request_with, is_opening, is_asking, is_observing, was_asked, has_answer, BreaksAfter}
use Rattle.sp_script.specs.Laws.{IsObservationWithin}
use Rattle.sp_script.specs.Served.{opened_names, asks_entry, commands_of, IsReply, AreReplies}
use Rattle.sp_script.proofs.CommandLemmas.{bytes_same}
use Rattle.sp_serving.specs.Replies.{Shown, session_in, answer_in, reply, log_after_command, log_with, closed_on, new_log, logs_with}
use Rattle.sp_serving.specs.Laws.{IsShown}
use Rattle.sp_serving.specs.Progress.{IsReady, IsIdle, AreUnderWay}
use Rattle.sp_serving.proofs.Commanding.{opened-more, answer-other, answer-own, answer-idle, commands-other, commands-plain, commands-own, is_new, is_answered, idle_after}

-- ---- a fact of each log, after a command
module _ (m : Model) (shown : Shown) (c : Command) (P Q : Log → Type 0) where
  -- a log that isn't the command's session's stays, and its own gets the reply
  by_name : (log : Log) (b : Bool) → bytes_eq log.name (name_of c) ≡ b → (bytes_eq log.name (name_of c) ≡ false → Q log) → (bytes_eq log.name (name_of c) ≡ true → Q (log_after_command m shown c log)) → Q (cond b (log_after_command m shown c log) log)
  by_name log true e other own = own e
  by_name log false e other own = other e

  pub one_log : (log : Log) → (bytes_eq log.name (name_of c) ≡ false → Q log) → (bytes_eq log.name (name_of c) ≡ true → Q (log_after_command m shown c log)) → Q (log_with m shown c log)
  one_log log other own = by_name log (bytes_eq log.name (name_of c)) refl other own

  pub each_log : (logs : List Log) → All P logs → (is_opening (verb_of c) ≡ true → (log : Log) → P log → Q log) → (is_opening (verb_of c) ≡ true → Q (new_log c))
      → (is_opening (verb_of c) ≡ false → (log : Log) → P log → Q (log_with m shown c log)) → All Q (logs_with m shown logs c)
  each_log logs all keep new step = by_opening (is_opening (verb_of c)) refl
    where
      by_opening : (b : Bool) → is_opening (verb_of c) ≡ b → All Q (cond b (logs ++ new_log c ∷ []) (map (log_with m shown c) logs))
      by_opening true e = All-push Q logs (new_log c) (λ k d less. keep e _ (all k d less)) (new e)
      by_opening false e = All-map Q (log_with m shown c) logs (λ k d less. step e _ (all k d less))

-- ---- names
name_same : (m : Model) (shown : Shown) (c : Command) (log : Log) → (log_with m shown c log).name ≡ log.name
name_same m shown c log = by_name (bytes_eq log.name (name_of c))
  where
    by_name : (b : Bool) → (cond b (log_after_command m shown c log) log).name ≡ log.name
    by_name true = refl
    by_name false = refl

names_same : (m : Model) (shown : Shown) (c : Command) (logs : List Log) → map (λ log. log.name) (map (log_with m shown c) logs) ≡ map (λ log. log.name) logs
names_same m shown c [] = refl
names_same m shown c (log ∷ logs) = λ i. name_same m shown c log i ∷ names_same m shown c logs i

pub names_after : (m : Model) (shown : Shown) (before : List Command) (c : Command) (logs : List Log) → map (λ log. log.name) logs ≡ opened_names before → map (λ log. log.name) (logs_with m shown logs c) ≡ opened_names (before ++ c ∷ [])
names_after m shown before c logs names = by_opening (is_opening (verb_of c)) ∙ sym (opened-more before c)
  where
    by_opening : (b : Bool) → map (λ log. log.name) (cond b (logs ++ new_log c ∷ []) (map (log_with m shown c) logs)) ≡ opened_names before ++ cond b (name_of c ∷ []) []
    by_opening true = map-append (λ (log : Log). log.name) logs (new_log c ∷ []) ∙ ap (λ (ns : List (List ℕ)). ns ++ name_of c ∷ []) names
    by_opening false = names_same m shown c logs ∙ names ∙ sym (append-nil (opened_names before))

-- ---- sessions after a reply
module _ (m : Model) (log : Log) where
  pub session_then : (x : Entry) → session_after m (opening_session m) (log.entries ++ x ∷ []) ≡ after_entry m (session_in m log) x
  session_then x = session_after-append m (opening_session m) log.entries x

  pub session_same : session_after m (opening_session m) (log.entries ++ []) ≡ session_in m log
  session_same = ap (session_after m (opening_session m)) (append-nil log.entries)

  newest_then : (x : Entry) (n : ℕ) → (after_entry m (session_in m log) x).newest ≤ n → (session_after m (opening_session m) (log.entries ++ x ∷ [])).newest ≤ n
  newest_then x n less = subst (λ (s : Session). s.newest ≤ n) (sym (session_then x)) less

  acted_then : (x : Entry) → IsSome (after_entry m (session_in m log) x).acted → IsSome (session_after m (opening_session m) (log.entries ++ x ∷ [])).acted
  acted_then x some = subst (λ (s : Session). IsSome s.acted) (sym (session_then x)) some

  -- an observation, seen or not
  quiet : (b : Bool) (o n : ℕ) → (session_in m log).newest ≤ n → (session_after m (opening_session m) (log.entries ++ cond b (observe o) (unseen o) ∷ [])).newest ≤ n
  unfolding after_entry
  quiet true o n less = newest_then (observe o) n less
  quiet false o n less = newest_then (unseen o) n less

-- ---- ready sessions
module _ (m : Model) (shown : Shown) (before : List Command) (n : ℕ) (later : n ≤ shown.0) where
  rises : {k : ℕ} → k ≤ n → k ≤ shown.0
  rises less = omega (arith, later, less)

  ready_own : (c : Command) (log : Log) → is_opening (verb_of c) ≡ false → bytes_eq log.name (name_of c) ≡ true → IsReady m before n log → IsReady m (before ++ c ∷ []) shown.0 (log_after_command m shown c log)
  unfolding after_entry
  ready_own (Open name line) log other own ready = absurd (cc)
  ready_own (Act name line) log other own ready = record {
    newest = newest_then m log (act shown.0 (answer_in m shown log).id (answer_in m shown log).action) shown.0 (omega arith);
    answer = λ h. acted_then m log (act shown.0 (answer_in m shown log).id (answer_in m shown log).action) refl;
  }
  ready_own (Observe name line o) log other own ready = record {
    newest = quiet m log (is_some (weights_after_observation m (session_in m log) o)) o shown.0 (rises ready.newest);
    answer = λ h. absurd (let e = sym (answer-own before (Observe name line o) log.name own) ∙ h in no_answer (has_answer log.name before) e);
  }
    where
      no_answer : (b : Bool) → (false || (b && false)) ≡ true → ⊥
      no_answer true e = absurd (cc)
      no_answer false e = absurd (cc)
  ready_own (Sync name line) log other own ready = record {
    newest = newest_then m log (told shown.0) shown.0 (omega arith);
    answer = λ h. acted_then m log (told shown.0) (ready.answer (sym (answer-idle before (Sync name line) log.name refl refl) ∙ h));
  }
  ready_own (Close name line) log other own ready = record {
    newest = subst (λ (s : Session). s.newest ≤ shown.0) (sym (session_same m log)) (rises ready.newest);
    answer = λ h. subst (λ (s : Session). IsSome s.acted) (sym (session_same m log)) (ready.answer (sym (answer-idle before (Close name line) log.name refl refl) ∙ h));
  }

  ready_other : (c : Command) (log : Log) → bytes_eq log.name (name_of c) ≡ false → IsReady m before n log → IsReady m (before ++ c ∷ []) shown.0 log
  ready_other c log other ready = record { newest = rises ready.newest; answer = λ h. ready.answer (sym (answer-other before c log.name other) ∙ h) }

  -- an opening neither asks nor observes
  ready_opening : (c : Command) (log : Log) → is_opening (verb_of c) ≡ true → IsReady m before n log → IsReady m (before ++ c ∷ []) shown.0 log
  ready_opening (Open name line) log opens ready = record { newest = rises ready.newest; answer = λ h. ready.answer (sym (answer-idle before (Open name line) log.name refl refl) ∙ h) }
  ready_opening (Act name line) log opens ready = absurd (cc)
  ready_opening (Observe name line o) log opens ready = absurd (cc)
  ready_opening (Sync name line) log opens ready = absurd (cc)
  ready_opening (Close name line) log opens ready = absurd (cc)

  ready_new : (c : Command) → is_opening (verb_of c) ≡ true → IsIdle before (name_of c) → IsReady m (before ++ c ∷ []) shown.0 (new_log c)
  unfolding session_after opening_session
  ready_new (Open name line) opens idle = record { newest = omega arith; answer = λ h. absurd (let e = sym (answer-idle before (Open name line) name refl refl) ∙ h in let none = idle.answer in cc) }
  ready_new (Act name line) opens idle = absurd (cc)
  ready_new (Observe name line o) opens idle = absurd (cc)
  ready_new (Sync name line) opens idle = absurd (cc)
  ready_new (Close name line) opens idle = absurd (cc)

  pub under_way_after : (c : Command) → ((kind : ScriptKind) → ¬ BreaksAfter before (request_with c) kind) → (logs : List Log) → AreUnderWay m before n logs → AreUnderWay m (before ++ c ∷ []) shown.0 (logs_with m shown logs c)
  under_way_after c faultless logs under = record {
    names = names_after m shown before c logs under.names;
    ready = each_log m shown c (IsReady m before n) (IsReady m (before ++ c ∷ []) shown.0) logs under.ready
        (λ opens log ready. ready_opening c log opens ready)
        (λ opens. ready_new c opens (under.idle (name_of c) (is_new before c faultless opens)))
        (λ plain log ready. one_log m shown c (IsReady m before n) (IsReady m (before ++ c ∷ []) shown.0) log (λ other. ready_other c log other ready) (λ own. ready_own c log plain own ready));
    idle = idle_after before c faultless under.idle;
  }

-- ---- replies
replies_push : (cs : List Command) (xs : List Entry) (c : Command) (x : Entry) → AreReplies cs xs → IsReply c x → AreReplies (cs ++ c ∷ []) (xs ++ x ∷ [])
replies_push [] [] c x all here = (here, tt)
replies_push (d ∷ cs) (y ∷ xs) c x (first, rest) here = (first, replies_push cs xs c x rest here)
replies_push [] (y ∷ xs) c x all here = absurd all
replies_push (d ∷ cs) [] c x all here = absurd all

-- the entries of a log reply to its session's commands
abbrev pub IsReplied : List Command → Log → Type 0
IsReplied before log = AreReplies (commands_of log.name before) log.entries

module _ (m : Model) (shown : Shown) (before : List Command) where
  replied_with : (c : Command) (log : Log) (x : Entry) → bytes_eq log.name (name_of c) ≡ true → asks_entry c ≡ true → IsReply c x → IsReplied before log → AreReplies (commands_of log.name (before ++ c ∷ [])) (log.entries ++ x ∷ [])
  replied_with c log x own asks is all = subst (λ (cs : List Command). AreReplies cs (log.entries ++ x ∷ [])) (sym (commands-own before c log.name own asks)) (replies_push (commands_of log.name before) log.entries c x all is)

  replied_own : (c : Command) (log : Log) → is_opening (verb_of c) ≡ false → bytes_eq log.name (name_of c) ≡ true → IsReplied before log → IsReplied (before ++ c ∷ []) (log_after_command m shown c log)
  replied_own (Open name line) log other own all = absurd (cc)
  replied_own (Act name line) log other own all = replied_with (Act name line) log (act shown.0 (answer_in m shown log).id (answer_in m shown log).action) own refl tt all
  replied_own (Observe name line o) log other own all = by_seen (is_some (weights_after_observation m (session_in m log) o))
    where
      by_seen : (b : Bool) → AreReplies (commands_of log.name (before ++ Observe name line o ∷ [])) (log.entries ++ cond b (observe o) (unseen o) ∷ [])
      by_seen true = replied_with (Observe name line o) log (observe o) own refl refl all
      by_seen false = replied_with (Observe name line o) log (unseen o) own refl refl all
  replied_own (Sync name line) log other own all = replied_with (Sync name line) log (told shown.0) own refl tt all
  replied_own (Close name line) log other own all =
      subst (λ (xs : List Entry). AreReplies (commands_of log.name (before ++ Close name line ∷ [])) xs) (sym (append-nil log.entries))
      (subst (λ (cs : List Command). AreReplies cs log.entries) (sym (commands-plain before (Close name line) log.name refl)) all)

  replied_other : (c : Command) (log : Log) → bytes_eq log.name (name_of c) ≡ false → IsReplied before log → IsReplied (before ++ c ∷ []) log
  replied_other c log other all = subst (λ (cs : List Command). AreReplies cs log.entries) (sym (commands-other before c log.name other)) all

  opening_plain : (c : Command) → is_opening (verb_of c) ≡ true → asks_entry c ≡ false
  opening_plain (Open name line) opens = refl
  opening_plain (Act name line) opens = absurd (cc)
  opening_plain (Observe name line o) opens = absurd (cc)
  opening_plain (Sync name line) opens = absurd (cc)
  opening_plain (Close name line) opens = absurd (cc)

  replied_opening : (c : Command) (log : Log) → is_opening (verb_of c) ≡ true → IsReplied before log → IsReplied (before ++ c ∷ []) log
  replied_opening c log opens all = subst (λ (cs : List Command). AreReplies cs log.entries) (sym (commands-plain before c log.name (opening_plain c opens))) all

  replied_new : (c : Command) → is_opening (verb_of c) ≡ true → IsIdle before (name_of c) → IsReplied (before ++ c ∷ []) (new_log c)
  replied_new c opens idle = subst (λ (cs : List Command). AreReplies cs []) (sym (commands-plain before c (name_of c) (opening_plain c opens) ∙ idle.commands)) tt

  pub replied_after : (c : Command) → ((kind : ScriptKind) → ¬ BreaksAfter before (request_with c) kind) → ((name : List ℕ) → was_asked is_opening name before ≡ false → IsIdle before name)
      → (logs : List Log) → All (IsReplied before) logs → All (IsReplied (before ++ c ∷ [])) (logs_with m shown logs c)
  replied_after c faultless idle logs all =
      each_log m shown c (IsReplied before) (IsReplied (before ++ c ∷ [])) logs all
      (λ opens log is. replied_opening c log opens is)
      (λ opens. replied_new c opens (idle (name_of c) (is_new before c faultless opens)))
      (λ plain log is. one_log m shown c (IsReplied before) (IsReplied (before ++ c ∷ [])) log (λ other. replied_other c log other is) (λ own. replied_own c log plain own is))

-- ---- legal logs
-- each entry may come after those before it, and there is no closing answer yet
pub record IsLegalSoFar (m : Model) (editions : List Edition) (log : Log) : Type 0 where
  pub allowed : IsLog m (all_of editions) (opening_session m) log.entries
  pub going : (session_in m log).closed ≡ false

module _ (m : Model) (editions : List Edition) (shown : Shown) (n : ℕ) (is : IsShown m editions n shown) where
  pub answer_is : (log : Log) → IsAnswer m (all_of editions) (session_in m log).weights shown.0 (answer_in m shown log).id (answer_in m shown log).action
  answer_is log =
      let both = greatest_member_agrees m shown.1 is.there.0 (session_in m log).weights (session_in m log).weights is.there.2 (λ s p. refl) in
      (is.there.0, is.there.1, both.0, both.1)

  module _ (log : Log) (before : List Command) (legal : IsLegalSoFar m editions log) (ready : IsReady m before n log) where
    legal_with : (x : Entry) → MayEnter m (all_of editions) (session_in m log) x → (after_entry m (session_in m log) x).closed ≡ false → IsLegalSoFar m editions (record log { entries = log.entries ++ x ∷ [] })
    legal_with x may stays = record {
      allowed = log_append m (all_of editions) (opening_session m) log.entries x legal.allowed may;
      going = ap (λ (s : Session). s.closed) (session_then m log x) ∙ stays;
    }

    later : (session_in m log).newest ≤ shown.0
    later = let low = ready.newest in let rest = is.later in omega (arith, low, rest)

    legal_seen : (o : ℕ) → o < count_of m.sight_sizes → IsSome (session_in m log).acted → (b : Bool) → is_some (weights_after_observation m (session_in m log) o) ≡ b → IsLegalSoFar m editions (record log { entries = log.entries ++ cond b (observe o) (unseen o) ∷ [] })
    unfolding MayEnter after_entry
    legal_seen o less acted true seen = legal_with (observe o) (legal.going, less, seen) legal.going
    legal_seen o less acted false seen = legal_with (unseen o) (legal.going, less, acted, none_is (weights_after_observation m (session_in m log) o) seen) legal.going
      where
        none_is : {X : Type 0} (x : Option X) → is_some x ≡ false → IsNone x
        none_is None e = refl
        none_is (Some y) e = absurd (cc)

    pub legal_own : (c : Command) → is_opening (verb_of c) ≡ false → bytes_eq log.name (name_of c) ≡ true → ((kind : ScriptKind) → ¬ BreaksAfter before (request_with c) kind) → IsObservationWithin (count_of m.sight_sizes) c → IsLegalSoFar m editions (log_after_command m shown c log)
    unfolding MayEnter after_entry
    legal_own (Open name line) other own faultless within = absurd (cc)
    legal_own (Act name line) other own faultless within =
        legal_with (act shown.0 (answer_in m shown log).id (answer_in m shown log).action) (legal.going, later, answer_is log) legal.going
    legal_own (Observe name line o) other own faultless within =
        legal_seen o within (ready.answer (ap (λ (called : List ℕ). has_answer called before) (bytes_same log.name name own) ∙ is_answered before (Observe name line o) faultless refl)) (is_some (weights_after_observation m (session_in m log) o)) refl
    legal_own (Sync name line) other own faultless within = legal_with (told shown.0) (legal.going, later, slice_get_within editions shown.0 is.there.0 is.there.1) legal.going
    legal_own (Close name line) other own faultless within = record {
      allowed = subst (IsLog m (all_of editions) (opening_session m)) (sym (append-nil log.entries)) legal.allowed;
      going = ap (λ (s : Session). s.closed) (session_same m log) ∙ legal.going;
    }

  -- with the closing answer
  pub legal_closed : (log : Log) → IsLegalSoFar m editions log → (session_in m log).newest ≤ shown.0 → suc shown.0 ≡ length editions
      → IsLog m (all_of editions) (opening_session m) (closed_on m shown log).entries × ((session_after m (opening_session m) (closed_on m shown log).entries).closed ≡ true)
  unfolding MayEnter after_entry
  legal_closed log legal less last = (
    log_append m (all_of editions) (opening_session m) log.entries (closing shown.0 (answer_in m shown log).id (answer_in m shown log).action) legal.allowed (legal.going, less, last, answer_is log),
    ap (λ (s : Session). s.closed) (session_then m log (closing shown.0 (answer_in m shown log).id (answer_in m shown log).action)),
  )

new_legal : (m : Model) (editions : List Edition) (c : Command) → IsLegalSoFar m editions (new_log c)
unfolding IsLog session_after opening_session
new_legal m editions c = record { allowed = tt; going = refl }

-- both facts of a log together
abbrev pub IsReadyAndLegal : Model → List Edition → List Command → ℕ → Log → Type 0
IsReadyAndLegal m editions before n log = IsReady m before n log × IsLegalSoFar m editions log

pub legal_after : (m : Model) (editions : List Edition) (shown : Shown) (n : ℕ) → IsShown m editions n shown → (before : List Command) (c : Command)
    → ((kind : ScriptKind) → ¬ BreaksAfter before (request_with c) kind) → IsObservationWithin (count_of m.sight_sizes) c → (logs : List Log) → AreUnderWay m before n logs
    → All (IsLegalSoFar m editions) logs → All (IsLegalSoFar m editions) (logs_with m shown logs c)
legal_after m editions shown n is before c faultless within logs under legal =
    each_log m shown c (IsReadyAndLegal m editions before n) (IsLegalSoFar m editions) logs (λ k d less. (under.ready k d less, legal k d less))
    (λ opens log both. both.1)
    (λ opens. new_legal m editions c)
    (λ plain log both. one_log m shown c (IsReadyAndLegal m editions before n) (IsLegalSoFar m editions) log (λ other. both.1) (λ own. legal_own m editions shown n is log before both.1 both.0 c plain own faultless within))
