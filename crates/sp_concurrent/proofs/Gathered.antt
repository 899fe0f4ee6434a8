-- Logs of several desks, as they are put together in order of opening.
use Rattle.std.proofs.Common.{◌≡◌, ◌∙◌, sym, ap, subst, refl, arith, ℕ, ◌<◌, ◌≤◌, Bool, true, false, cond, List, [], ◌∷◌, ◌++◌, length, get_or, drop, ◌⊎◌, inl, inr, append_assoc, append-nil}
use Rattle.std.specs.Prelude.{All, Contains, MatchBool, filter, map, set}
use Rattle.std.proofs.lemmas.Bool.{cases_eq, eq-eqb, ne_eqb}
use Rattle.std.proofs.lemmas.List.{drop_all, length-set, get_or-set_same, get_or-set_other, map-append}
use Rattle.std.proofs.lemmas.List.Elements.{All-nil, All-head, All-tail, All-push, All-contains_itself}
use Rattle.sp_theory.specs.Logs.{Log}
use Rattle.sp_session.specs.declared.logs.SessionLog.{SessionLog}
use Rattle.sp_session.specs.Logs.{log_of, logs_of}
use Rattle.sp_script.specs.declared.command.Command.{Command}
use Rattle.sp_script.specs.Commands.{name_of, verb_of, is_opening}
use Rattle.sp_script.specs.Served.{opened_names}
use Rattle.sp_concurrent.specs.Deals.{is_at, hand_of}
use Rattle.sp_concurrent.specs.Gathered.{log_names, logs_at, HasLogs, IsAmong, TakesFirst}

-- ---- names
module _ (c : Command) (left : List Command) where
  names_opening : is_opening (verb_of c) ≡ true → opened_names (c ∷ left) ≡ name_of c ∷ opened_names left
  names_opening opens = ap (λ (b : Bool). map name_of (cond b (c ∷ filter (λ (d : Command). is_opening (verb_of d)) left) (filter (λ (d : Command). is_opening (verb_of d)) left))) opens

  names_plain : is_opening (verb_of c) ≡ false → opened_names (c ∷ left) ≡ opened_names left
  names_plain plain = ap (λ (b : Bool). map name_of (cond b (c ∷ filter (λ (d : Command). is_opening (verb_of d)) left) (filter (λ (d : Command). is_opening (verb_of d)) left))) plain

module _ (desk : List ℕ → ℕ) (c : Command) (left : List Command) where
  own_names : is_opening (verb_of c) ≡ true → opened_names (hand_of desk (c ∷ left) (desk (name_of c))) ≡ name_of c ∷ opened_names (hand_of desk left (desk (name_of c)))
  own_names opens =
      ap (λ (b : Bool). opened_names (cond b (c ∷ hand_of desk left (desk (name_of c))) (hand_of desk left (desk (name_of c))))) (eq-eqb (desk (name_of c)) (desk (name_of c)) refl)
      ∙ names_opening c (hand_of desk left (desk (name_of c))) opens

  other_names : (d : ℕ) → (d ≡ desk (name_of c) → ⊥) → opened_names (hand_of desk (c ∷ left) d) ≡ opened_names (hand_of desk left d)
  other_names d differ = ap (λ (b : Bool). opened_names (cond b (c ∷ hand_of desk left d) (hand_of desk left d))) (ne_eqb (desk (name_of c)) d (λ e. differ (sym e)))

  plain_names : is_opening (verb_of c) ≡ false → (d : ℕ) → opened_names (hand_of desk (c ∷ left) d) ≡ opened_names (hand_of desk left d)
  plain_names plain d = by_test (is_at desk d (name_of c))
    where
      by_test : (b : Bool) → opened_names (cond b (c ∷ hand_of desk left d) (hand_of desk left d)) ≡ opened_names (hand_of desk left d)
      by_test true = names_plain c (hand_of desk left d) plain
      by_test false = refl

-- ---- under way
-- the logs that are left of each desk are those of the sessions that are opened from here on, and the others were put together
pub record IsGathered (desk : List ℕ → ℕ) (n : ℕ) (whole : List Command) (start : ℕ → List Log) (left : List Command) (all : List SessionLog) (queues : List (List SessionLog)) : Type 0 where
  pub count : length queues ≡ n
  pub queues_left : (d : ℕ) → d < n → log_names (logs_at queues d) ≡ opened_names (hand_of desk left d)
  pub names : log_names (logs_of all) ++ opened_names left ≡ opened_names whole
  pub among : (d : ℕ) → d < n → All (Contains (start d)) (logs_at queues d)
  pub each : All (IsAmong n start) (logs_of all)

module _ (desk : List ℕ → ℕ) (n : ℕ) (whole : List Command) where
  pub gathered_first : (queues : List (List SessionLog)) → length queues ≡ n → ((d : ℕ) → d < n → log_names (logs_at queues d) ≡ opened_names (hand_of desk whole d))
      → IsGathered desk n whole (logs_at queues) whole [] queues
  gathered_first queues count dealt = record {
    count = count;
    queues_left = dealt;
    names = refl;
    among = λ d less. All-contains_itself (logs_at queues d);
    each = All-nil (IsAmong n (logs_at queues));
  }

  module _ (start : ℕ → List Log) where
    pub gathered_last : (all : List SessionLog) (queues : List (List SessionLog)) (i : ℕ) → length whole ≤ i → IsGathered desk n whole start (drop i whole) all queues
        → log_names (logs_of all) ≡ opened_names whole
    gathered_last all queues i past is =
        sym (append-nil (log_names (logs_of all))) ∙ ap (λ (cs : List Command). log_names (logs_of all) ++ opened_names cs) (sym (drop_all i whole past)) ∙ is.names

    module _ (c : Command) (left : List Command) (all : List SessionLog) (queues : List (List SessionLog)) (is : IsGathered desk n whole start (c ∷ left) all queues) where
      gathered_plain : is_opening (verb_of c) ≡ false → IsGathered desk n whole start left all queues
      gathered_plain plain = record {
        count = is.count;
        queues_left = λ d less. is.queues_left d less ∙ plain_names desk c left plain d;
        names = ap (λ (ns : List (List ℕ)). log_names (logs_of all) ++ ns) (sym (names_plain c left plain)) ∙ is.names;
        among = is.among;
        each = is.each;
      }

      pub has_logs : is_opening (verb_of c) ≡ true → desk (name_of c) < n → HasLogs queues (desk (name_of c))
      has_logs opens less = some (get_or queues (desk (name_of c)) []) (is.queues_left (desk (name_of c)) less ∙ own_names desk c left opens)
        where
          some : (logs : List SessionLog) → log_names (logs_of logs) ≡ name_of c ∷ opened_names (hand_of desk left (desk (name_of c))) → 0 < length logs
          some [] e = absurd (cc)
          some (log ∷ logs) e = omega arith

      gathered_opening : is_opening (verb_of c) ≡ true → (k : ℕ) → k ≡ desk (name_of c) → k < n → (more : List SessionLog) (after : List (List SessionLog)) → TakesFirst all queues k more after
          → IsGathered desk n whole start left more after
      gathered_opening opens k same less more after takes = record {
        count = ap (λ (qs : List (List SessionLog)). length qs) takes.behind ∙ length-set queues k takes.rest ∙ is.count;
        queues_left = λ d below. subst (λ (qs : List (List SessionLog)). log_names (logs_at qs d) ≡ opened_names (hand_of desk left d)) (sym takes.behind) (names_at d below (cases_eq d k));
        names = ap (λ (logs : List SessionLog). log_names (logs_of logs) ++ opened_names left) takes.added
            ∙ ap (λ (ns : List (List ℕ)). ns ++ opened_names left)
            (ap log_names (map-append log_of all (takes.log ∷ [])) ∙ map-append (λ (log : Log). log.name) (logs_of all) (log_of takes.log ∷ []))
            ∙ append_assoc (log_names (logs_of all)) (takes.log.name ∷ []) (opened_names left)
            ∙ ap (λ (name : List ℕ). log_names (logs_of all) ++ (name ∷ opened_names left)) head
            ∙ ap (λ (ns : List (List ℕ)). log_names (logs_of all) ++ ns) (sym (names_opening c left opens))
            ∙ is.names;
        among = λ d below. subst (λ (qs : List (List SessionLog)). All (Contains (start d)) (logs_at qs d)) (sym takes.behind) (among_at d below (cases_eq d k));
        each = subst (λ (logs : List SessionLog). All (IsAmong n start) (logs_of logs)) (sym takes.added)
            (subst (All (IsAmong n start)) (sym (map-append log_of all (takes.log ∷ [])))
            (All-push (IsAmong n start) (logs_of all) (log_of takes.log) is.each (k, less, All-head (Contains (start k)) (log_of takes.log) (logs_of takes.rest) first_among)));
      }
        where
          within : k < length queues
          within = subst (λ (m : ℕ). k < m) (sym is.count) less

          first_names : takes.log.name ∷ log_names (logs_of takes.rest) ≡ name_of c ∷ opened_names (hand_of desk left k)
          first_names =
              ap (λ (logs : List SessionLog). log_names (logs_of logs)) (sym takes.first) ∙ is.queues_left k less
              ∙ subst (λ (j : ℕ). opened_names (hand_of desk (c ∷ left) j) ≡ name_of c ∷ opened_names (hand_of desk left j)) (sym same) (own_names desk c left opens)

          head : takes.log.name ≡ name_of c
          head = cc (first_names)

          tail : log_names (logs_of takes.rest) ≡ opened_names (hand_of desk left k)
          tail = cc (first_names)

          first_among : All (Contains (start k)) (log_of takes.log ∷ logs_of takes.rest)
          first_among = subst (λ (logs : List SessionLog). All (Contains (start k)) (logs_of logs)) takes.first (is.among k less)

          rest_there : get_or (set queues k takes.rest) k [] ≡ takes.rest
          rest_there = get_or-set_same queues k takes.rest [] within

          names_at : (d : ℕ) → d < n → (d ≡ k) ⊎ (d ≡ k → ⊥) → log_names (logs_at (set queues k takes.rest) d) ≡ opened_names (hand_of desk left d)
          names_at d below (inl here) =
              subst (λ (j : ℕ). log_names (logs_at (set queues k takes.rest) j) ≡ opened_names (hand_of desk left j)) (sym here)
              (ap (λ (logs : List SessionLog). log_names (logs_of logs)) rest_there ∙ tail)
          names_at d below (inr differ) =
              ap (λ (logs : List SessionLog). log_names (logs_of logs)) (get_or-set_other queues k d takes.rest [] differ)
              ∙ is.queues_left d below ∙ other_names desk c left d (λ e. differ (e ∙ sym same))

          among_at : (d : ℕ) → d < n → (d ≡ k) ⊎ (d ≡ k → ⊥) → All (Contains (start d)) (logs_at (set queues k takes.rest) d)
          among_at d below (inl here) =
              subst (λ (j : ℕ). All (Contains (start j)) (logs_at (set queues k takes.rest) j)) (sym here)
              (subst (λ (logs : List SessionLog). All (Contains (start k)) (logs_of logs)) (sym rest_there)
              (All-tail (Contains (start k)) (log_of takes.log) (logs_of takes.rest) first_among))
          among_at d below (inr differ) =
              subst (λ (logs : List SessionLog). All (Contains (start d)) (logs_of logs)) (sym (get_or-set_other queues k d takes.rest [] differ)) (is.among d below)

      -- after a command
      pub gathered_more : desk (name_of c) < n → (more : List SessionLog) (after : List (List SessionLog))
          → MatchBool (is_opening (verb_of c)) (TakesFirst all queues (desk (name_of c)) more after) ((more ≡ all) × (after ≡ queues)) → IsGathered desk n whole start left more after
      gathered_more less more after step = by_test (is_opening (verb_of c)) refl step
        where
          by_test : (b : Bool) → is_opening (verb_of c) ≡ b → MatchBool b (TakesFirst all queues (desk (name_of c)) more after) ((more ≡ all) × (after ≡ queues)) → IsGathered desk n whole start left more after
          by_test true opens takes = gathered_opening opens (desk (name_of c)) refl less more after takes
          by_test false plain same =
              subst (λ (qs : List (List SessionLog)). IsGathered desk n whole start left more qs) (sym same.1)
              (subst (λ (logs : List SessionLog). IsGathered desk n whole start left logs queues) (sym same.0) (gathered_plain plain))

      -- before it
      pub may_gather : desk (name_of c) < n → MatchBool (is_opening (verb_of c)) (HasLogs queues (desk (name_of c))) (Unit {0})
      may_gather less = by_test (is_opening (verb_of c)) refl
        where
          by_test : (b : Bool) → is_opening (verb_of c) ≡ b → MatchBool b (HasLogs queues (desk (name_of c))) (Unit {0})
          by_test true opens = has_logs opens less
          by_test false plain = tt
