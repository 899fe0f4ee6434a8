-- Whole transcripts.
use Rattle.std.proofs.Common.{◌≡◌, ◌≢◌, ◌∙◌, sym, ap, subst, refl, arith, ℕ, zero, suc, ◌<◌, ◌≤◌, Bool, true, false, cond, ◌&&◌, ◌||◌, List, [], ◌∷◌, ◌++◌, map, length, append_assoc, append-nil}
use Rattle.std.specs.Prelude.{All, AllPairs, filter}
use Rattle.std.specs.Str.{bytes_eq}
use Rattle.std.proofs.lemmas.List.Elements.{All-nil, All-cons, All-map}
use Rattle.std.proofs.lemmas.List.Quantifiers.{all_pairs_push}
use Rattle.sp_theory.specs.Points.{count_of}
use Rattle.sp_theory.specs.Model.{Model}
use Rattle.sp_theory.specs.Values.{Edition}
use Rattle.sp_theory.specs.Agreement.{EditionsAgree}
use Rattle.sp_theory.specs.Logs.{Entry, act, told, observe, unseen, closing, all_of, opening_session, IsLog, session_after, Log, IsLegalLog, IsLegalTranscript}
use Rattle.sp_theory.proofs.Agreement.{greatest_member_agrees}
use Rattle.sp_script.specs.declared.command.Command.{Command}
use Rattle.sp_script.specs.declared.command.Command.TheVariants.{Open, Act, Observe, Sync, Close}
use Rattle.sp_script.specs.Commands.{name_of, verb_of, is_opening, asks_of, was_asked, AreCommands}
use Rattle.sp_script.specs.Laws.{IsObservationWithin}
use Rattle.sp_script.specs.Served.{opened_names, commands_of, IsWholeReply, AreServed}
use Rattle.sp_script.proofs.CommandLemmas.{bytes_self}
use Rattle.sp_serving.specs.Replies.{Shown, session_in, answer_in, reply, log_after_command, log_with, closed_on, logs_with, logs_after, transcript_of}
use Rattle.sp_serving.specs.Laws.{IsShown, AreShown, ShownAgree, TranscriptsAreLegal, TranscriptsServe, NamesAreDifferent, TranscriptsAgree}
use Rattle.sp_serving.specs.Progress.{IsIdle, AreUnderWay}
use Rattle.sp_serving.proofs.Commanding.{faultless_at, commands_on, opened-more, is_new, idle_after}
use Rattle.sp_serving.proofs.LogSteps.{names_after, under_way_after, IsReplied, replied_after, IsLegalSoFar, legal_closed, legal_after}

-- ---- served
record AreServing (before : List Command) (logs : List Log) : Type 0 where
  names : map (λ log. log.name) logs ≡ opened_names before
  idle : (name : List ℕ) → was_asked is_opening name before ≡ false → IsIdle before name
  replies : All (IsReplied before) logs

serving_after : (m : Model) (shown : Shown) (before : List Command) (c : Command) (cs : List Command) (logs : List Log) → AreCommands (before ++ c ∷ cs) → AreServing before logs → AreServing (before ++ c ∷ []) (logs_with m shown logs c)
serving_after m shown before c cs logs are serving = record {
  names = names_after m shown before c logs serving.names;
  idle = idle_after before c (faultless_at before c cs are) serving.idle;
  replies = replied_after m shown before c (faultless_at before c cs are) serving.idle logs serving.replies;
}

serving_all : (m : Model) (shown : List Shown) (last : Shown) (before cs : List Command) (logs : List Log) → AreCommands (before ++ cs) → AreServing before logs → AreServing (before ++ cs) (logs_after m shown last logs cs)
unfolding logs_after
serving_all m shown last before [] logs are serving = subst (λ (ds : List Command). AreServing ds logs) (sym (append-nil before)) serving
serving_all m [] last before (c ∷ cs) logs are serving =
    subst (λ (ds : List Command). AreServing ds (logs_after m [] last (logs_with m last logs c) cs)) (append_assoc before (c ∷ []) cs)
    (serving_all m [] last (before ++ c ∷ []) cs (logs_with m last logs c) (commands_on before c cs are) (serving_after m last before c cs logs are serving))
serving_all m (first ∷ shown) last before (c ∷ cs) logs are serving =
    subst (λ (ds : List Command). AreServing ds (logs_after m shown last (logs_with m first logs c) cs)) (append_assoc before (c ∷ []) cs)
    (serving_all m shown last (before ++ c ∷ []) cs (logs_with m first logs c) (commands_on before c cs are) (serving_after m first before c cs logs are serving))

none_idle : (name : List ℕ) → was_asked is_opening name [] ≡ false → IsIdle [] name
none_idle name none = record { answer = refl; commands = refl }

serving_first : AreServing [] []
serving_first = record { names = refl; idle = none_idle; replies = All-nil (IsReplied []) }

names_closed : (m : Model) (last : Shown) (logs : List Log) → map (λ log. log.name) (map (closed_on m last) logs) ≡ map (λ log. log.name) logs
names_closed m last [] = refl
names_closed m last (log ∷ logs) = ap (λ (ns : List (List ℕ)). log.name ∷ ns) (names_closed m last logs)

pub transcripts_serve : TranscriptsServe
transcripts_serve m shown last cs are =
    let serving = serving_all m shown last [] cs [] are serving_first in
    record {
      sessions = names_closed m last (logs_after m shown last [] cs) ∙ serving.names;
      replies = All-map (λ log. IsWholeReply (commands_of log.name cs) log.entries) (closed_on m last) (logs_after m shown last [] cs)
          (λ k d less. whole m last cs _ (serving.replies k d less));
    }
  where
    whole : (m : Model) (last : Shown) (cs : List Command) (log : Log) → IsReplied cs log → IsWholeReply (commands_of log.name cs) (closed_on m last log).entries
    whole m last cs log all = (log.entries, last.0, (answer_in m last log).id, (answer_in m last log).action, all, refl)

-- ---- names
names_other : (name : List ℕ) (cs : List Command) → was_asked is_opening name cs ≡ false → All (λ x. x ≢ name) (opened_names cs)
names_other name [] none = All-nil (λ x. x ≢ name)
names_other name (c ∷ cs) none = by_opening (is_opening (verb_of c)) (bytes_eq name (name_of c)) refl none (names_other name cs)
  where
    by_opening : (b same : Bool) → bytes_eq name (name_of c) ≡ same → ((b && same) || was_asked is_opening name cs) ≡ false → (was_asked is_opening name cs ≡ false → All (λ x. x ≢ name) (opened_names cs))
        → All (λ x. x ≢ name) (map name_of (cond b (c ∷ filter (λ (d : Command). is_opening (verb_of d)) cs) (filter (λ (d : Command). is_opening (verb_of d)) cs)))
    by_opening false same e none rest = rest none
    by_opening true true e none rest = absurd (cc)
    by_opening true false e none rest =
        All-cons (λ x. x ≢ name) (name_of c) (opened_names cs)
        (λ h. let self = bytes_self name in let other : bytes_eq name name ≡ false = ap (bytes_eq name) (sym h) ∙ e in absurd (cc))
        (rest none)

pub different_all : (before cs : List Command) → AreCommands (before ++ cs) → AllPairs (λ x y. x ≢ y) (opened_names before) → AllPairs (λ x y. x ≢ y) (opened_names (before ++ cs))
different_all before [] are differ = subst (λ (ds : List Command). AllPairs (λ x y. x ≢ y) (opened_names ds)) (sym (append-nil before)) differ
different_all before (c ∷ cs) are differ =
    subst (λ (ds : List Command). AllPairs (λ x y. x ≢ y) (opened_names ds)) (append_assoc before (c ∷ []) cs)
    (different_all (before ++ c ∷ []) cs (commands_on before c cs are) (subst (AllPairs (λ x y. x ≢ y)) (sym (opened-more before c)) (by_opening (is_opening (verb_of c)) refl)))
  where
    by_opening : (b : Bool) → is_opening (verb_of c) ≡ b → AllPairs (λ x y. x ≢ y) (opened_names before ++ cond b (name_of c ∷ []) [])
    by_opening false e = subst (AllPairs (λ x y. x ≢ y)) (sym (append-nil (opened_names before))) differ
    by_opening true e = all_pairs_push (λ x y. x ≢ y) (opened_names before) (name_of c) differ (names_other (name_of c) before (is_new before c (faultless_at before c cs are) e))

pub names_are_different : NamesAreDifferent
names_are_different m shown last cs are =
    subst (AllPairs (λ x y. x ≢ y)) (sym ((transcripts_serve m shown last cs are).sessions))
    (different_all [] cs are (λ i j d less h. absurd (omega (arith, less, h))))

-- ---- legal
pub under_way_first : (m : Model) (n : ℕ) → AreUnderWay m [] n []
under_way_first m n = record { names = refl; ready = λ k d less. absurd (omega (arith, less)); idle = none_idle }

last_shown : (m : Model) (editions : List Edition) (n : ℕ) (shown : List Shown) (last : Shown) → AreShown m editions n shown last → IsShown m editions n last × (suc last.0 ≡ length editions)
last_shown m editions n [] last are = are
last_shown m editions n (first ∷ shown) last (is, rest) =
    let (at, whole) = last_shown m editions first.0 shown last rest in
    (record { later = let low = is.later in let high = at.later in omega (arith, low, high); there = at.there }, whole)

again_shown : (m : Model) (editions : List Edition) (n : ℕ) (last : Shown) → AreShown m editions n [] last → AreShown m editions last.0 [] last
again_shown m editions n last (is, whole) = (record { later = omega arith; there = is.there }, whole)

module _ (m : Model) (editions : List Edition) where
  legal_all : (shown : List Shown) (last : Shown) (before cs : List Command) (n : ℕ) (logs : List Log) → AreCommands (before ++ cs) → All (IsObservationWithin (count_of m.sight_sizes)) cs → AreShown m editions n shown last
      → AreUnderWay m before n logs → All (IsLegalSoFar m editions) logs → IsLegalTranscript m editions (map (closed_on m last) (logs_after m shown last logs cs))
  unfolding logs_after
  legal_all shown last before [] n logs are within shows under legal =
      let (at, whole) = last_shown m editions n shown last shows in
      All-map (λ log. IsLegalLog m editions log.entries) (closed_on m last) logs
      (λ k d less. legal_closed m editions last n at _ (legal k d less) (let low = (under.ready k d less).newest in let high = at.later in omega (arith, low, high)) whole)
  legal_all [] last before (c ∷ cs) n logs are within shows under legal =
      legal_all [] last (before ++ c ∷ []) cs last.0 (logs_with m last logs c) (commands_on before c cs are) (λ k d less. within (suc k) d (omega (arith, less))) (again_shown m editions n last shows)
      (under_way_after m last before n shows.0.later c (faultless_at before c cs are) logs under)
      (legal_after m editions last n shows.0 before c (faultless_at before c cs are) (within zero c (omega arith)) logs under legal)
  legal_all (first ∷ shown) last before (c ∷ cs) n logs are within shows under legal =
      legal_all shown last (before ++ c ∷ []) cs first.0 (logs_with m first logs c) (commands_on before c cs are) (λ k d less. within (suc k) d (omega (arith, less))) shows.1
      (under_way_after m first before n shows.0.later c (faultless_at before c cs are) logs under)
      (legal_after m editions first n shows.0 before c (faultless_at before c cs are) (within zero c (omega arith)) logs under legal)

pub transcripts_are_legal : TranscriptsAreLegal
transcripts_are_legal m editions shown last cs are within shows = legal_all m editions shown last [] cs 0 [] are within shows (under_way_first m 0) (λ k d less. absurd (omega (arith, less)))

-- ---- editions that agree
module _ (m : Model) (a b : Shown) (number : a.0 ≡ b.0) (agree : EditionsAgree m a.1 b.1) where
  pub id_same : (log : Log) → (answer_in m a log).id ≡ (answer_in m b log).id
  id_same log = (greatest_member_agrees m a.1 b.1 (session_in m log).weights (session_in m log).weights agree (λ s p. refl)).0

  pub action_same : (log : Log) → (answer_in m a log).action ≡ (answer_in m b log).action
  action_same log = (greatest_member_agrees m a.1 b.1 (session_in m log).weights (session_in m log).weights agree (λ s p. refl)).1

  reply_same : (log : Log) (c : Command) → reply m a log c ≡ reply m b log c
  reply_same log (Open name line) = refl
  reply_same log (Act name line) = λ i. act (number i) (id_same log i) (action_same log i) ∷ []
  reply_same log (Observe name line o) = refl
  reply_same log (Sync name line) = λ i. told (number i) ∷ []
  reply_same log (Close name line) = refl

  log_same : (c : Command) (log : Log) → log_with m a c log ≡ log_with m b c log
  log_same c log = ap (λ (xs : List Entry). cond (bytes_eq log.name (name_of c)) (record log { entries = log.entries ++ xs }) log) (reply_same log c)

  pub logs_same : (logs : List Log) (c : Command) → logs_with m a logs c ≡ logs_with m b logs c
  logs_same logs c = by_opening (is_opening (verb_of c))
    where
      by_opening : (opens : Bool) → cond opens (logs ++ (record { name = name_of c; entries = [] }) ∷ []) (map (log_with m a c) logs) ≡ cond opens (logs ++ (record { name = name_of c; entries = [] }) ∷ []) (map (log_with m b c) logs)
      by_opening true = refl
      by_opening false = λ i. map (λ (log : Log). log_same c log i) logs

  pub closed_same : (logs : List Log) → map (closed_on m a) logs ≡ map (closed_on m b) logs
  closed_same logs = λ i. map (λ (log : Log). record log { entries = log.entries ++ closing (number i) (id_same log i) (action_same log i) ∷ [] }) logs

after_same : (m : Model) (shown others : List Shown) (last other : Shown) → ShownAgree m shown others → last.0 ≡ other.0 → EditionsAgree m last.1 other.1 → (logs : List Log) (cs : List Command)
    → logs_after m shown last logs cs ≡ logs_after m others other logs cs
unfolding logs_after
after_same m [] [] last other agree number same logs [] = refl
after_same m (x ∷ xs) (y ∷ ys) last other agree number same logs [] = refl
after_same m [] [] last other agree number same logs (c ∷ cs) =
    ap (λ (ls : List Log). logs_after m [] last ls cs) (logs_same m last other number same logs c) ∙ after_same m [] [] last other agree number same (logs_with m other logs c) cs
after_same m (x ∷ xs) (y ∷ ys) last other (first, here, rest) number same logs (c ∷ cs) =
    ap (λ (ls : List Log). logs_after m xs last ls cs) (logs_same m x y first here logs c) ∙ after_same m xs ys last other rest number same (logs_with m y logs c) cs
after_same m [] (y ∷ ys) last other agree number same logs cs = absurd agree
after_same m (x ∷ xs) [] last other agree number same logs cs = absurd agree

pub transcripts_agree : TranscriptsAgree
transcripts_agree m shown others last other agree number same cs =
    closed_same m last other number same (logs_after m shown last [] cs) ∙ ap (map (closed_on m other)) (after_same m shown others last other agree number same [] cs)
