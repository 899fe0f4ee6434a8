-- The commands of some of the sessions.
use Rattle.std.proofs.Common.{◌≡◌, ◌∙◌, ℕ, zero, suc, ◌≤◌, Bool, true, false, cond, not, ◌&&◌, ◌||◌, List, [], ◌∷◌, get_or, map, take, Some, refl, sym, ap, subst, arith}
use Rattle.std.specs.Prelude.{IsTrue, filter, slice_get}
use Rattle.std.specs.Str.{bytes_eq}
use Rattle.std.proofs.lemmas.Bool.{false_from_ne_true}
use Rattle.std.proofs.lemmas.List.Elements.{All-filter, filter_passes}
use Rattle.std.proofs.lemmas.List.Sums.{sum_by-cons}
use Rattle.sp_theory.specs.Logs.{Log}
use Rattle.sp_script.specs.declared.command.Command.{Command}
use Rattle.sp_script.specs.declared.error.ScriptKind.{ScriptKind}
use Rattle.sp_script.specs.declared.error.ScriptKind.TheVariants.{BadLine, NotOpen, Twice, NoAction, UnknownValue, TooMany}
use Rattle.sp_script.specs.declared.request.Verb.{Verb}
use Rattle.sp_script.specs.Requests.{is_session_name}
use Rattle.sp_script.specs.Commands.{name_of, verb_of, request_with, is_opening, is_asking, is_observing, is_closing, asks_of, was_asked, has_answer, opening_count, BreaksAfter}
use Rattle.sp_script.specs.Served.{opened_names, asks_entry, commands_of, commands_of_some, IsWholeReply}
use Rattle.sp_script.specs.Laws.{SomeSessionsHaveCommands, SomeSessionsAreServed}
use Rattle.sp_script.proofs.CommandLemmas.{asks_of-other, bytes_same}

module _ (test : List ℕ → Bool) where
  -- ---- a session that passes
  module _ (name : List ℕ) (passes : test name ≡ true) where
    -- the commands that don't pass are of others
    other_name : (c : Command) → test (name_of c) ≡ false → bytes_eq name (name_of c) ≡ false
    other_name c fails = false_from_ne_true (bytes_eq name (name_of c)) (λ same. let e = ap test (bytes_same name (name_of c) same) in absurd (cc))

    was_asked-some : (what : Verb → Bool) (cs : List Command) → was_asked what name (commands_of_some test cs) ≡ was_asked what name cs
    was_asked-some what [] = refl
    was_asked-some what (c ∷ cs) = go (test (name_of c)) refl (was_asked-some what cs)
      where
        go : (b : Bool) → test (name_of c) ≡ b → was_asked what name (commands_of_some test cs) ≡ was_asked what name cs
            → was_asked what name (cond b (c ∷ commands_of_some test cs) (commands_of_some test cs)) ≡ (asks_of what name c || was_asked what name cs)
        go true e h = ap (λ b. asks_of what name c || b) h
        go false e h = h ∙ ap (λ b. b || was_asked what name cs) (sym (asks_of-other what name c (other_name c e)))

    has_answer-some : (cs : List Command) → has_answer name (commands_of_some test cs) ≡ has_answer name cs
    has_answer-some [] = refl
    has_answer-some (c ∷ cs) = go (test (name_of c)) refl (has_answer-some cs)
      where
        go : (b : Bool) → test (name_of c) ≡ b → has_answer name (commands_of_some test cs) ≡ has_answer name cs
            → has_answer name (cond b (c ∷ commands_of_some test cs) (commands_of_some test cs)) ≡ ((asks_of is_asking name c && not (was_asked is_observing name cs)) || has_answer name cs)
        go true e h = λ i. (asks_of is_asking name c && not (was_asked-some is_observing cs i)) || h i
        go false e h = h ∙ ap (λ b. (b && not (was_asked is_observing name cs)) || has_answer name cs) (sym (asks_of-other is_asking name c (other_name c e)))

    commands_of-some : (cs : List Command) → commands_of name (commands_of_some test cs) ≡ commands_of name cs
    commands_of-some [] = refl
    commands_of-some (c ∷ cs) = go (test (name_of c)) refl (commands_of-some cs)
      where
        go : (b : Bool) → test (name_of c) ≡ b → commands_of name (commands_of_some test cs) ≡ commands_of name cs
            → commands_of name (cond b (c ∷ commands_of_some test cs) (commands_of_some test cs)) ≡ cond (bytes_eq name (name_of c) && asks_entry c) (c ∷ commands_of name cs) (commands_of name cs)
        go true e h = ap (λ ds. cond (bytes_eq name (name_of c) && asks_entry c) (c ∷ ds) ds) h
        go false e h = h ∙ ap (λ b. cond (b && asks_entry c) (c ∷ commands_of name cs) (commands_of name cs)) (sym (other_name c e))

  opening_count-some : (cs : List Command) → opening_count (commands_of_some test cs) ≤ opening_count cs
  opening_count-some [] = omega arith
  opening_count-some (c ∷ cs) = go (test (name_of c)) (opening_count-some cs)
    where
      go : (b : Bool) → opening_count (commands_of_some test cs) ≤ opening_count cs → opening_count (cond b (c ∷ commands_of_some test cs) (commands_of_some test cs)) ≤ opening_count (c ∷ cs)
      go true h = let e = sum_by-cons (λ (d : Command). cond (is_opening (verb_of d)) 1 0) c (commands_of_some test cs) in let f = sum_by-cons (λ (d : Command). cond (is_opening (verb_of d)) 1 0) c cs in omega (arith, e, f, h)
      go false h = let f = sum_by-cons (λ (d : Command). cond (is_opening (verb_of d)) 1 0) c cs in omega (arith, f, h)

  breaks_all : (before : List Command) (verb : Verb) (name : List ℕ) → test name ≡ true → (kind : ScriptKind) → BreaksAfter (commands_of_some test before) (verb, name) kind → BreaksAfter before (verb, name) kind
  breaks_all before verb name passes BadLine h = h
  breaks_all before verb name passes NotOpen h = (h.0, (λ i. sym (was_asked-some name passes is_opening before) i && not (sym (was_asked-some name passes is_closing before) i)) ∙ h.1)
  breaks_all before verb name passes Twice h = (h.0, sym (was_asked-some name passes is_opening before) ∙ h.1)
  breaks_all before verb name passes NoAction h = (h.0, sym (has_answer-some name passes before) ∙ h.1)
  breaks_all before verb name passes UnknownValue h = h
  breaks_all before verb name passes (TooMany limit) h = (h.0, h.1, let low = h.2 in omega (arith, low, opening_count-some before))

  -- ---- places
  abbrev Place : List Command → ℕ → Command → Type 0
  Place cs k d = (j : ℕ) × (slice_get cs j ≡ Some d) × (test (name_of d) ≡ true) × (take k (commands_of_some test cs) ≡ commands_of_some test (take j cs))

  place_of : (cs : List Command) (k : ℕ) (d : Command) → slice_get (commands_of_some test cs) k ≡ Some d → Place cs k d
  place_of [] k d e = absurd (cc)
  place_of (c ∷ cs) k d e = go (test (name_of c)) refl k e (place_of cs)
    where
      go : (b : Bool) → test (name_of c) ≡ b → (k : ℕ) → slice_get (cond b (c ∷ commands_of_some test cs) (commands_of_some test cs)) k ≡ Some d
          → ((k : ℕ) (d : Command) → slice_get (commands_of_some test cs) k ≡ Some d → Place cs k d)
          → (j : ℕ) × (slice_get (c ∷ cs) j ≡ Some d) × (test (name_of d) ≡ true) × (take k (cond b (c ∷ commands_of_some test cs) (commands_of_some test cs)) ≡ commands_of_some test (take j (c ∷ cs)))
      go true is zero e rest = let same : c ≡ d = cc in (0, e, ap (λ x. test (name_of x)) (sym same) ∙ is, refl)
      go true is (suc k) e rest =
          let (j, at, passes, front) = rest k d e in
          (suc j, at, passes, ap (λ ds. c ∷ ds) front ∙ ap (λ b. cond b (c ∷ commands_of_some test (take j cs)) (commands_of_some test (take j cs))) (sym is))
      go false is k e rest =
          let (j, at, passes, front) = rest k d e in
          (suc j, at, passes, front ∙ ap (λ b. cond b (c ∷ commands_of_some test (take j cs)) (commands_of_some test (take j cs))) (sym is))

  -- ---- logs
  names-some : (logs : List Log) → map (λ log. log.name) (filter (λ log. test log.name) logs) ≡ filter test (map (λ log. log.name) logs)
  names-some [] = refl
  names-some (log ∷ logs) = go (test log.name) (names-some logs)
    where
      go : (b : Bool) → map (λ log. log.name) (filter (λ log. test log.name) logs) ≡ filter test (map (λ log. log.name) logs)
          → map (λ log. log.name) (cond b (log ∷ filter (λ log. test log.name) logs) (filter (λ log. test log.name) logs)) ≡ cond b (log.name ∷ filter test (map (λ log. log.name) logs)) (filter test (map (λ log. log.name) logs))
      go true h = ap (λ ns. log.name ∷ ns) h
      go false h = h

  opened_names-some : (cs : List Command) → opened_names (commands_of_some test cs) ≡ filter test (opened_names cs)
  opened_names-some [] = refl
  opened_names-some (c ∷ cs) = go (test (name_of c)) (is_opening (verb_of c)) refl refl (opened_names-some cs)
    where
      go : (b o : Bool) → test (name_of c) ≡ b → is_opening (verb_of c) ≡ o → opened_names (commands_of_some test cs) ≡ filter test (opened_names cs)
          → opened_names (cond b (c ∷ commands_of_some test cs) (commands_of_some test cs)) ≡ filter test (map name_of (cond o (c ∷ filter (λ c. is_opening (verb_of c)) cs) (filter (λ c. is_opening (verb_of c)) cs)))
      go true true e f h =
          ap (λ p. map name_of (cond p (c ∷ filter (λ c. is_opening (verb_of c)) (commands_of_some test cs)) (filter (λ c. is_opening (verb_of c)) (commands_of_some test cs)))) f
          ∙ ap (λ ns. name_of c ∷ ns) h
          ∙ ap (λ p. cond p (name_of c ∷ filter test (opened_names cs)) (filter test (opened_names cs))) (sym e)
      go true false e f h = ap (λ p. map name_of (cond p (c ∷ filter (λ c. is_opening (verb_of c)) (commands_of_some test cs)) (filter (λ c. is_opening (verb_of c)) (commands_of_some test cs)))) f ∙ h
      go false true e f h = h ∙ ap (λ p. cond p (name_of c ∷ filter test (opened_names cs)) (filter test (opened_names cs))) (sym e)
      go false false e f h = h

pub some_sessions_have_commands : SomeSessionsHaveCommands
some_sessions_have_commands test cs are = record {
  named = All-filter (λ c. test (name_of c)) (λ c. IsTrue (is_session_name (name_of c))) cs are.named;
  in_order = λ k d kind is h.
      let (j, at, passes, front) = place_of test cs k d is in
      are.in_order j d kind at (breaks_all test (take j cs) (verb_of d) (name_of d) passes kind (subst (λ (before : List Command). BreaksAfter before (request_with d) kind) front h));
}

pub some_sessions_are_served : SomeSessionsAreServed
some_sessions_are_served test cs logs served = record {
  sessions = names-some test logs ∙ ap (filter test) served.sessions ∙ sym (opened_names-some test cs);
  replies = λ k d less.
      All-filter (λ log. test log.name) (λ log. test log.name ≡ true → IsWholeReply (commands_of log.name (commands_of_some test cs)) log.entries) logs
      (λ j e within passes. subst (λ (ds : List Command). IsWholeReply ds (get_or logs j e).entries) (sym (commands_of-some test (get_or logs j e).name passes cs)) (served.replies j e within))
      k d less (filter_passes (λ log. test log.name) logs k d less);
}
