-- Sessions and beliefs that agree at all states, and the editions that a log names.
use Rattle.std.proofs.Common.{◌≡◌, ◌≢◌, ℕ, zero, suc, ◌*◌, ◌<◌, ◌≤◌, List, [], ◌∷◌, length, refl, sym, ap, ◌∙◌, Bool, true, false, cond, eqb, subst, Option, Some, None}
use Rattle.std.specs.Prelude.{ℤ, Contains, pos, unsigned_abs, is_some, slice_get, unwrap_or, option_and_then}
use Rattle.std.proofs.lemmas.List.Elements.{All-cons, All-nil}
use Rattle.sp_theory.specs.Points.{point_of}
use Rattle.sp_theory.specs.Draws.{thinned}
use Rattle.sp_theory.specs.Model.{Model}
use Rattle.sp_theory.specs.Values.{Weights, Edition}
use Rattle.sp_theory.specs.Scaling.{total_weight, greatest_power, scaled_weights}
use Rattle.sp_theory.specs.Beliefs.{moved, tables_of, first_state, unscaled_next, next_weights}
use Rattle.sp_theory.specs.Agreement.{WeightsAgree, EditionsAgree, NextAgree, AllAgree}
use Rattle.sp_theory.specs.Logs.{Entry, told, act, observe, unseen, closing, Session, Published, opening_session, all_of, seen_by, IsAnswer, weights_after_observation, MayEnter, after_entry, IsLog, session_after}
use Rattle.sp_theory.specs.SessionLaws.{SessionsAgree, ServesFor, AllTold, LegalLogsAgree, SeenLogsAreOfRuns, numbers_of_editions, AreNumbersRising, LogsNeverGoBack, ClosesOnce, LegalLogsCloseOnce}
use Rattle.sp_theory.proofs.Agreement.{dot_same, greatest_member_agrees}
use Rattle.sp_theory.proofs.Carried.{carried_same}
use Rattle.sp_theory.proofs.Updates.{first_state_point}

-- ---- updates of weights that agree
pub unscaled_agrees : (m : Model) (v w : Weights) (a : ℕ) (seen : List ℕ) → WeightsAgree m v w → WeightsAgree m (unscaled_next m v a seen) (unscaled_next m w a seen)
unfolding unscaled_next moved
unscaled_agrees m v w a seen agree next p = ap (λ (z : ℤ). unsigned_abs (thinned (m.sights a next) seen z)) (carried_same m.sizes next (tables_of m a) _ _ _ (λ s here. ap pos (agree s here)) (first_state m) (first_state_point m.sizes next p))

pub total_weight_same : (m : Model) (v w : Weights) → WeightsAgree m v w → total_weight m v ≡ total_weight m w
total_weight_same m v w agree = ap unsigned_abs (dot_same m v w (λ s. pos 1) (λ s. pos 1) agree (λ s p. refl))

pub scaled_agrees : (m : Model) (v w : Weights) → WeightsAgree m v w → WeightsAgree m (scaled_weights m v) (scaled_weights m w)
unfolding scaled_weights
scaled_agrees m v w agree s p = λ h. agree s p h * greatest_power 62 (total_weight_same m v w agree h)

pub next_agrees : (m : Model) (v w : Weights) (a : ℕ) (seen : List ℕ) → WeightsAgree m v w → NextAgree m (next_weights m v a seen) (next_weights m w a seen)
unfolding next_weights
next_agrees m v w a seen agree = subst (λ (n : ℕ). NextAgree m (cond (eqb (total_weight m x) 0) None (Some (scaled_weights m x))) (cond (eqb n 0) None (Some (scaled_weights m y)))) (total_weight_same m x y both) (by_test (eqb (total_weight m x) 0))
  where
    x : Weights
    x = unscaled_next m v a seen

    y : Weights
    y = unscaled_next m w a seen

    both : WeightsAgree m x y
    both = unscaled_agrees m v w a seen agree

    by_test : (b : Bool) → NextAgree m (cond b None (Some (scaled_weights m x))) (cond b None (Some (scaled_weights m y)))
    by_test true = tt
    by_test false = scaled_agrees m x y both

-- ---- sessions that agree
some_same : (m : Model) (o r : Option Weights) → NextAgree m o r → is_some o ≡ is_some r
some_same m None None h = refl
some_same m (Some w) (Some x) h = refl
some_same m None (Some x) h = absurd h
some_same m (Some w) None h = absurd h

unwrap_agrees : (m : Model) (o r : Option Weights) (v w : Weights) → NextAgree m o r → WeightsAgree m v w → WeightsAgree m (unwrap_or o v) (unwrap_or r w)
unwrap_agrees m None None v w h agree = agree
unwrap_agrees m (Some x) (Some y) v w h agree = h
unwrap_agrees m None (Some x) v w h agree = absurd h
unwrap_agrees m (Some x) None v w h agree = absurd h

module _ (m : Model) (s t : Session) (agree : SessionsAgree m s t) where
  observed_agrees : (o : ℕ) → NextAgree m (weights_after_observation m s o) (weights_after_observation m t o)
  observed_agrees o = subst (λ (acted : Option ℕ). NextAgree m (weights_after_observation m s o) (option_and_then (λ a. next_weights m t.weights a (point_of m.sight_sizes o)) acted)) agree.acted (by_acted s.acted)
    where
      by_acted : (acted : Option ℕ) → NextAgree m (option_and_then (λ a. next_weights m s.weights a (point_of m.sight_sizes o)) acted) (option_and_then (λ a. next_weights m t.weights a (point_of m.sight_sizes o)) acted)
      by_acted None = tt
      by_acted (Some a) = next_agrees m s.weights t.weights a (point_of m.sight_sizes o) agree.weights

  pub after_entry_agrees : (x : Entry) → SessionsAgree m (after_entry m s x) (after_entry m t x)
  unfolding after_entry
  after_entry_agrees (told e) = record { weights = agree.weights; newest = refl; acted = agree.acted; closed = agree.closed }
  after_entry_agrees (act e id action) = record { weights = agree.weights; newest = refl; acted = refl; closed = agree.closed }
  after_entry_agrees (observe o) = record { weights = unwrap_agrees m (weights_after_observation m s o) (weights_after_observation m t o) s.weights t.weights (observed_agrees o) agree.weights; newest = agree.newest; acted = refl; closed = agree.closed }
  after_entry_agrees (unseen o) = agree
  after_entry_agrees (closing e id action) = record { weights = agree.weights; newest = refl; acted = agree.acted; closed = refl }

  module _ (first second : Published) (serves : ServesFor m first second) where
    open_too : s.closed ≡ false → t.closed ≡ false
    open_too e = sym agree.closed ∙ e

    newest_too : (e : ℕ) → s.newest ≤ e → t.newest ≤ e
    newest_too e h = subst (λ (n : ℕ). n ≤ e) agree.newest h

    answer_too : (e id action : ℕ) → IsAnswer m first s.weights e id action → IsAnswer m second t.weights e id action
    answer_too e id action (edition, has, is, does) =
        let there = serves.has e edition has in
        let both = greatest_member_agrees m edition there.0 s.weights t.weights there.2 agree.weights in
        (there.0, there.1, is ∙ both.0, does ∙ both.1)

    pub may_enter_too : (x : Entry) → MayEnter m first s x → MayEnter m second t x
    unfolding MayEnter
    may_enter_too (told e) (is_open, newest, may) = (open_too is_open, newest_too e newest, serves.may_tell e may)
    may_enter_too (act e id action) (is_open, newest, answer) = (open_too is_open, newest_too e newest, answer_too e id action answer)
    may_enter_too (observe o) (is_open, known, some) = (open_too is_open, known, sym (some_same m _ _ (observed_agrees o)) ∙ some)
    may_enter_too (unseen o) (is_open, known, acted, none) = (open_too is_open, known, ap is_some (sym agree.acted) ∙ acted, sym (some_same m _ _ (observed_agrees o)) ∙ none)
    may_enter_too (closing e id action) (is_open, newest, last, answer) = (open_too is_open, newest_too e newest, serves.is_last e last, answer_too e id action answer)

pub log_too : (m : Model) (first second : Published) → ServesFor m first second → (s t : Session) → SessionsAgree m s t → (xs : List Entry) → IsLog m first s xs → IsLog m second t xs
unfolding IsLog
log_too m first second serves s t agree [] h = tt
log_too m first second serves s t agree (x ∷ xs) (here, rest) = (may_enter_too m s t agree first second serves x here, log_too m first second serves (after_entry m s x) (after_entry m t x) (after_entry_agrees m s t agree x) xs rest)

pub session_same : (m : Model) (s : Session) → SessionsAgree m s s
session_same m s = record { weights = λ x p. refl; newest = refl; acted = refl; closed = refl }

-- ---- editions that agree
get_agrees : (m : Model) (editions others : List Edition) → AllAgree m editions others → (e : ℕ) (edition : Edition) → slice_get editions e ≡ Some edition → (other : Edition) × (slice_get others e ≡ Some other) × EditionsAgree m edition other
get_agrees m (x ∷ xs) (y ∷ ys) (here, rest) zero edition e = (y, refl, subst (λ (z : Edition). EditionsAgree m z y) (ap (λ (o : Option Edition). unwrap_or o x) e) here)
get_agrees m (x ∷ xs) (y ∷ ys) (here, rest) (suc i) edition e = get_agrees m xs ys rest i edition e
get_agrees m [] [] h i edition e = absurd (cc)
get_agrees m [] (y ∷ ys) h i edition e = absurd h
get_agrees m (x ∷ xs) [] h i edition e = absurd h

length-agrees : (m : Model) (editions others : List Edition) → AllAgree m editions others → length editions ≡ length others
length-agrees m [] [] h = refl
length-agrees m (x ∷ xs) (y ∷ ys) (here, rest) = ap suc (length-agrees m xs ys rest)
length-agrees m [] (y ∷ ys) h = absurd h
length-agrees m (x ∷ xs) [] h = absurd h

pub legal_logs_agree : LegalLogsAgree
legal_logs_agree m editions others agree xs (log, closed) = (log_too m (all_of editions) (all_of others) serves (opening_session m) (opening_session m) same xs log, closed)
  where
    same : SessionsAgree m (opening_session m) (opening_session m)
    same = session_same m (opening_session m)

    serves : ServesFor m (all_of editions) (all_of others)
    serves = record {
      has = get_agrees m editions others agree;
      may_tell = λ e less. subst (λ (n : ℕ). e < n) (length-agrees m editions others agree) less;
      is_last = λ e last. last ∙ length-agrees m editions others agree;
    }

-- ---- editions that a session saw
pub edition_same : (m : Model) (xs : Edition) → EditionsAgree m xs xs
edition_same m [] = tt
edition_same m (x ∷ xs) = ((refl, refl, λ s p. refl), edition_same m xs)

-- with more editions seen, a log stays one
pub log_of_more : (m : Model) (shelf more : List (ℕ × Edition)) → ((e : ℕ) (edition : Edition) → Contains shelf (e, edition) → Contains more (e, edition))
    → (s : Session) (xs : List Entry) → IsLog m (seen_by shelf) s xs → IsLog m (seen_by more) s xs
log_of_more m shelf more h s xs = log_too m (seen_by shelf) (seen_by more) (record { has = λ e edition there. (edition, h e edition there, edition_same m edition); may_tell = λ e may. tt; is_last = λ e last. last }) s s (session_same m s) xs

-- a log whose told numbers may be told elsewhere too
abbrev both_tell : Published → Published → Published
both_tell first second = record { has = first.has; may_tell = λ e. first.may_tell e × second.may_tell e; is_last = first.is_last }

log_told : (m : Model) (first second : Published) (s : Session) (xs : List Entry) → AllTold second xs → IsLog m first s xs → IsLog m (both_tell first second) s xs
unfolding IsLog MayEnter
log_told m first second s [] may h = tt
log_told m first second s (told e ∷ xs) (may, rest) (here, h) = ((here.0, here.1, (here.2, may)), log_told m first second (after_entry m s (told e)) xs rest h)
log_told m first second s (act e id action ∷ xs) rest (here, h) = (here, log_told m first second (after_entry m s (act e id action)) xs rest h)
log_told m first second s (observe o ∷ xs) rest (here, h) = (here, log_told m first second (after_entry m s (observe o)) xs rest h)
log_told m first second s (unseen o ∷ xs) rest (here, h) = (here, log_told m first second (after_entry m s (unseen o)) xs rest h)
log_told m first second s (closing e id action ∷ xs) rest (here, h) = (here, log_told m first second (after_entry m s (closing e id action)) xs rest h)

pub seen_logs_are_of_runs : SeenLogsAreOfRuns
seen_logs_are_of_runs m editions shelf are s xs known log = log_too m (both_tell (seen_by shelf) (all_of editions)) (all_of editions) (record { has = are; may_tell = λ e both. both.1; is_last = λ e last. absurd last }) s s (session_same m s) xs (log_told m (seen_by shelf) (all_of editions) s xs known log)

-- ---- the editions that are named
rising : (m : Model) (published : Published) (s : Session) (xs : List Entry) → IsLog m published s xs → AreNumbersRising s.newest (numbers_of_editions xs)
unfolding IsLog MayEnter after_entry
rising m published s [] h = tt
rising m published s (told e ∷ xs) (here, rest) = (here.1, rising m published (after_entry m s (told e)) xs rest)
rising m published s (act e id action ∷ xs) (here, rest) = (here.1, rising m published (after_entry m s (act e id action)) xs rest)
rising m published s (observe o ∷ xs) (here, rest) = rising m published (after_entry m s (observe o)) xs rest
rising m published s (unseen o ∷ xs) (here, rest) = rising m published (after_entry m s (unseen o)) xs rest
rising m published s (closing e id action ∷ xs) (here, rest) = (here.1, rising m published (after_entry m s (closing e id action)) xs rest)

pub logs_never_go_back : LogsNeverGoBack
unfolding opening_session
logs_never_go_back m editions xs (log, closed) = rising m (all_of editions) (opening_session m) xs log

-- ---- the closing answer
nothing_after : (m : Model) (published : Published) (s : Session) (xs : List Entry) → s.closed ≡ true → IsLog m published s xs → xs ≡ []
unfolding IsLog MayEnter
nothing_after m published s [] closed log = refl
nothing_after m published s (told e ∷ xs) closed (here, log) = absurd (let going = here.0 in cc)
nothing_after m published s (act e id action ∷ xs) closed (here, log) = absurd (let going = here.0 in cc)
nothing_after m published s (observe o ∷ xs) closed (here, log) = absurd (let going = here.0 in cc)
nothing_after m published s (unseen o ∷ xs) closed (here, log) = absurd (let going = here.0 in cc)
nothing_after m published s (closing e id action ∷ xs) closed (here, log) = absurd (let going = here.0 in cc)

-- an entry that is no closing answer, before others
not_yet : (editions : List Edition) (x : Entry) (xs : List Entry) → ((f other answer : ℕ) → x ≢ closing f other answer) → ClosesOnce editions xs → ClosesOnce editions (x ∷ xs)
not_yet editions x xs differs (front, e, id, action, is, last, all) =
    (x ∷ front, e, id, action, ap (λ (ys : List Entry). x ∷ ys) is, last, All-cons (λ y. (f other answer : ℕ) → y ≢ closing f other answer) x front differs all)

closes : (m : Model) (editions : List Edition) (s : Session) (xs : List Entry) → s.closed ≡ false → IsLog m (all_of editions) s xs → (session_after m s xs).closed ≡ true → ClosesOnce editions xs
unfolding IsLog MayEnter after_entry session_after
closes m editions s [] going log closed = absurd (cc)
closes m editions s (told e ∷ xs) going (here, log) closed = not_yet editions _ xs (λ f other answer same. absurd (cc)) (closes m editions (after_entry m s (told e)) xs going log closed)
closes m editions s (act e id action ∷ xs) going (here, log) closed = not_yet editions _ xs (λ f other answer same. absurd (cc)) (closes m editions (after_entry m s (act e id action)) xs going log closed)
closes m editions s (observe o ∷ xs) going (here, log) closed = not_yet editions _ xs (λ f other answer same. absurd (cc)) (closes m editions (after_entry m s (observe o)) xs going log closed)
closes m editions s (unseen o ∷ xs) going (here, log) closed = not_yet editions _ xs (λ f other answer same. absurd (cc)) (closes m editions (after_entry m s (unseen o)) xs going log closed)
closes m editions s (closing e id action ∷ xs) going (here, log) closed =
    ([], e, id, action, ap (λ (ys : List Entry). closing e id action ∷ ys) (nothing_after m (all_of editions) (after_entry m s (closing e id action)) xs refl log), here.2, All-nil (λ y. (f other answer : ℕ) → y ≢ closing f other answer))

pub legal_logs_close_once : LegalLogsCloseOnce
unfolding opening_session
legal_logs_close_once m editions xs (log, closed) = closes m editions (opening_session m) xs refl log closed
