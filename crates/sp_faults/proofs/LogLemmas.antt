-- Logs that are wrong: not legal, wrong once, none is neither, and wrong alike for editions that agree.
use Rattle.std.proofs.Common.{◌≡◌, ◌∙◌, sym, ap, subst, refl, arith, inl, inr, ℕ, zero, suc, ◌<◌, ◌≤◌, List, [], ◌∷◌, length, get_or, take, drop, Bool, true, false, Option, Some, None}
use Rattle.std.specs.Prelude.{is_some, slice_get, unwrap_or, option_and_then}
use Rattle.std.proofs.lemmas.Bool.{false_from_ne_true, true_from_ne_false}
use Rattle.sp_theory.specs.Points.{point_of}
use Rattle.sp_theory.specs.Model.{Model}
use Rattle.sp_theory.specs.Values.{Weights, Edition, greatest_member}
use Rattle.sp_theory.specs.Beliefs.{next_weights}
use Rattle.sp_theory.specs.Agreement.{EditionsAgree, MembersAgree, NextAgree, AllAgree}
use Rattle.sp_theory.specs.Logs.{Entry, told, act, observe, unseen, closing, Session, all_of, opening_session, weights_after_observation, MayEnter, IsAnswer, after_entry, IsLog, session_after}
use Rattle.sp_theory.specs.SessionLaws.{SessionsAgree, ServesFor}
use Rattle.sp_theory.proofs.Agreement.{greatest_member_agrees}
use Rattle.sp_theory.proofs.LogLemmas.{next_agrees, after_entry_agrees, log_too, session_same}
use Rattle.sp_faults.specs.Clauses as clause
use Rattle.sp_faults.specs.Clauses.{Clause, IsFirstClause, entry_clauses}
use Rattle.sp_faults.specs.LogFaults.{answer_of, AreSeen, EntryBreaks, IsEntryFault, IsWrongLog}
use Rattle.sp_faults.specs.Laws.{WrongLogsAreNotLegal, LogsAreWrongOnce, NoLogIsNeither, WrongLogsAgree}
use Rattle.sp_faults.proofs.Firsts.{first_one, first_none, first_alike, none_of_six, is_same}

-- ---- an edition that is there
pub there_within : (editions : List Edition) (e : ℕ) (edition : Edition) → slice_get editions e ≡ Some edition → e < length editions
there_within [] e edition is = absurd (cc)
there_within (x ∷ xs) zero edition is = omega arith
there_within (x ∷ xs) (suc e) edition is = omega (arith, there_within xs e edition is)

pub there_is : (editions : List Edition) (e : ℕ) (edition : Edition) → slice_get editions e ≡ Some edition → get_or editions e [] ≡ edition
there_is [] e edition is = absurd (cc)
there_is (x ∷ xs) zero edition is = ap (λ (o : Option Edition). unwrap_or o x) is
there_is (x ∷ xs) (suc e) edition is = there_is xs e edition is

pub within_there : (editions : List Edition) (e : ℕ) → e < length editions → slice_get editions e ≡ Some (get_or editions e [])
within_there [] e less = absurd (omega (arith, less))
within_there (x ∷ xs) zero less = refl
within_there (x ∷ xs) (suc e) less = within_there xs e (omega (arith, less))

-- an answer names the greatest member of the edition of that number
pub answer_is : (m : Model) (editions : List Edition) (s : Session) (e id action : ℕ) → IsAnswer m (all_of editions) s.weights e id action
    → (e < length editions) × (id ≡ (answer_of m editions s e).id) × (action ≡ (answer_of m editions s e).action)
answer_is m editions s e id action (edition, has, is, does) =
    let at = there_is editions e edition has in (
      there_within editions e edition has,
      is ∙ ap (λ (x : Edition). (greatest_member m x s.weights).id) (sym at),
      does ∙ ap (λ (x : Edition). (greatest_member m x s.weights).action) (sym at),
    )

pub is_answer : (m : Model) (editions : List Edition) (s : Session) (e id action : ℕ) → e < length editions → id ≡ (answer_of m editions s e).id → action ≡ (answer_of m editions s e).action
    → IsAnswer m (all_of editions) s.weights e id action
is_answer m editions s e id action less is does = (get_or editions e [], within_there editions e less, is, does)

-- ---- an entry that may come breaks no clause
pub allowed_breaks_none : (m : Model) (editions : List Edition) (s : Session) (x : Entry) → MayEnter m (all_of editions) s x → (c : Clause) → ¬ EntryBreaks m editions s x c
unfolding MayEnter EntryBreaks
allowed_breaks_none m editions s (told e) (going, newest, may) clause.closing broken = absurd (cc)
allowed_breaks_none m editions s (told e) (going, newest, may) clause.edition broken = absurd (omega (arith, may, broken))
allowed_breaks_none m editions s (told e) (going, newest, may) clause.older broken = absurd (omega (arith, newest, broken))
allowed_breaks_none m editions s (act e id action) (going, newest, answer) clause.closing broken = absurd (cc)
allowed_breaks_none m editions s (act e id action) (going, newest, answer) clause.edition broken = absurd (let less = (answer_is m editions s e id action answer).0 in omega (arith, less, broken))
allowed_breaks_none m editions s (act e id action) (going, newest, answer) clause.older broken = absurd (omega (arith, newest, broken))
allowed_breaks_none m editions s (act e id action) (going, newest, answer) clause.greatest broken = broken (answer_is m editions s e id action answer).1
allowed_breaks_none m editions s (act e id action) (going, newest, answer) clause.action broken = broken (answer_is m editions s e id action answer).2
allowed_breaks_none m editions s (closing e id action) (going, newest, last, answer) clause.closing (inl over) = absurd (cc)
allowed_breaks_none m editions s (closing e id action) (going, newest, last, answer) clause.closing (inr other) = other last
allowed_breaks_none m editions s (closing e id action) (going, newest, last, answer) clause.edition broken = absurd (let less = (answer_is m editions s e id action answer).0 in omega (arith, less, broken))
allowed_breaks_none m editions s (closing e id action) (going, newest, last, answer) clause.older broken = absurd (omega (arith, newest, broken))
allowed_breaks_none m editions s (closing e id action) (going, newest, last, answer) clause.greatest broken = broken (answer_is m editions s e id action answer).1
allowed_breaks_none m editions s (closing e id action) (going, newest, last, answer) clause.action broken = broken (answer_is m editions s e id action answer).2
allowed_breaks_none m editions s (observe o) (going, known, some) clause.closing broken = absurd (cc)
allowed_breaks_none m editions s (observe o) (going, known, some) clause.belief broken = absurd (cc)
allowed_breaks_none m editions s (unseen o) (going, known, acted, none) clause.closing broken = absurd (cc)
allowed_breaks_none m editions s (unseen o) (going, known, acted, none) clause.belief (inl un) = absurd (cc)
allowed_breaks_none m editions s (unseen o) (going, known, acted, none) clause.belief (inr un) = absurd (cc)
allowed_breaks_none m editions s x allowed c broken = absurd broken

-- ---- logs that may not go on after a session, by what is wrong after i of their entries
record Goes (m : Model) (editions : List Edition) (s : Session) (xs : List Entry) (i : ℕ) (c : Clause) : Type 0 where
  within : i ≤ length xs
  log : IsLog m (all_of editions) s (take i xs)
  fault : IsEntryFault m editions (session_after m s (take i xs)) (drop i xs) c

module _ (m : Model) (editions : List Edition) where
  goes_on : (s : Session) (x : Entry) (xs : List Entry) (i : ℕ) (c : Clause) → Goes m editions s (x ∷ xs) (suc i) c → MayEnter m (all_of editions) s x × Goes m editions (after_entry m s x) xs i c
  unfolding IsLog session_after
  goes_on s x xs i c w = (w.log.0, record { within = let less = w.within in omega (arith, less); log = w.log.1; fault = w.fault })

  first_fault : (s : Session) (x : Entry) (xs : List Entry) (c : Clause) → Goes m editions s (x ∷ xs) 0 c → IsFirstClause (EntryBreaks m editions s x) entry_clauses c
  unfolding session_after
  first_fault s x xs c w = w.fault

  last_fault : (s : Session) (c : Clause) → Goes m editions s [] 0 c → (s.closed ≡ false) × (c ≡ clause.closing)
  unfolding session_after
  last_fault s c w = w.fault

  not_legal : (s : Session) (xs : List Entry) (i : ℕ) (c : Clause) → Goes m editions s xs i c → IsLog m (all_of editions) s xs → ¬ ((session_after m s xs).closed ≡ true)
  unfolding IsLog session_after
  not_legal s [] zero c w log over = let (going, is) = last_fault s c w in absurd (cc)
  not_legal s [] (suc i) c w log over = absurd (let less = w.within in omega (arith, less))
  not_legal s (x ∷ xs) zero c w (allowed, rest) over = first_none (EntryBreaks m editions s x) (allowed_breaks_none m editions s x allowed) entry_clauses c (first_fault s x xs c w)
  not_legal s (x ∷ xs) (suc i) c w (allowed, rest) over = not_legal (after_entry m s x) xs i c (goes_on s x xs i c w).1 rest over

  once : (s : Session) (xs : List Entry) (i j : ℕ) (c d : Clause) → Goes m editions s xs i c → Goes m editions s xs j d → (i ≡ j) × (c ≡ d)
  once s [] zero zero c d w v = (refl, (last_fault s c w).1 ∙ sym (last_fault s d v).1)
  once s [] (suc i) j c d w v = absurd (let less = w.within in omega (arith, less))
  once s [] zero (suc j) c d w v = absurd (let less = v.within in omega (arith, less))
  once s (x ∷ xs) zero zero c d w v = (refl, first_one (EntryBreaks m editions s x) entry_clauses c d (first_fault s x xs c w) (first_fault s x xs d v))
  once s (x ∷ xs) zero (suc j) c d w v = absurd (first_none (EntryBreaks m editions s x) (allowed_breaks_none m editions s x (goes_on s x xs j d v).0) entry_clauses c (first_fault s x xs c w))
  once s (x ∷ xs) (suc i) zero c d w v = absurd (first_none (EntryBreaks m editions s x) (allowed_breaks_none m editions s x (goes_on s x xs i c w).0) entry_clauses d (first_fault s x xs d v))
  once s (x ∷ xs) (suc i) (suc j) c d w v =
      let (same, is) = once (after_entry m s x) xs i j c d (goes_on s x xs i c w).1 (goes_on s x xs j d v).1 in
      (ap suc same, is)

  goes : (xs : List Entry) (i : ℕ) (c : Clause) → IsWrongLog m editions xs i c → Goes m editions (opening_session m) xs i c
  goes xs i c w = record { within = w.within; log = w.log; fault = w.fault }

pub wrong_logs_are_not_legal : WrongLogsAreNotLegal
wrong_logs_are_not_legal m editions xs i c w (log, over) = not_legal m editions (opening_session m) xs i c (goes m editions xs i c w) log over

pub logs_are_wrong_once : LogsAreWrongOnce
logs_are_wrong_once m editions xs i j c d w v = once m editions (opening_session m) xs i j c d (goes m editions xs i c w) (goes m editions xs j d v)

-- ---- no log is neither legal nor wrong
pub first_seen : (m : Model) (x : Entry) (xs : List Entry) → AreSeen m (x ∷ xs) → AreSeen m (x ∷ [])
first_seen m (told e) xs h = tt
first_seen m (act e id action) xs h = tt
first_seen m (observe o) xs h = (h.0, tt)
first_seen m (unseen o) xs h = (h.0, tt)
first_seen m (closing e id action) xs h = tt

pub rest_seen : (m : Model) (x : Entry) (xs : List Entry) → AreSeen m (x ∷ xs) → AreSeen m xs
rest_seen m (told e) xs h = h
rest_seen m (act e id action) xs h = h
rest_seen m (observe o) xs h = h.1
rest_seen m (unseen o) xs h = h.1
rest_seen m (closing e id action) xs h = h

-- an entry that breaks no clause may come
may_enter : (m : Model) (editions : List Edition) (s : Session) (x : Entry) → AreSeen m (x ∷ []) → ((c : Clause) → ¬ IsFirstClause (EntryBreaks m editions s x) entry_clauses c) → MayEnter m (all_of editions) s x
unfolding MayEnter EntryBreaks
may_enter m editions s (told e) seen none =
    let (going, there, older, other, deed, ruled) = none_of_six (EntryBreaks m editions s (told e)) clause.closing clause.edition clause.older clause.greatest clause.action clause.belief none in
    (false_from_ne_true s.closed going, omega (arith, older), omega (arith, there))
may_enter m editions s (act e id action) seen none =
    let (going, there, older, other, deed, ruled) = none_of_six (EntryBreaks m editions s (act e id action)) clause.closing clause.edition clause.older clause.greatest clause.action clause.belief none in
    let less : e < length editions = omega (arith, there) in
    (false_from_ne_true s.closed going, omega (arith, older), is_answer m editions s e id action less (is_same _ _ other) (is_same _ _ deed))
may_enter m editions s (observe o) seen none =
    let (going, there, older, other, deed, ruled) = none_of_six (EntryBreaks m editions s (observe o)) clause.closing clause.edition clause.older clause.greatest clause.action clause.belief none in
    (false_from_ne_true s.closed going, seen.0, true_from_ne_false (is_some (weights_after_observation m s o)) ruled)
may_enter m editions s (unseen o) seen none =
    let (going, there, older, other, deed, ruled) = none_of_six (EntryBreaks m editions s (unseen o)) clause.closing clause.edition clause.older clause.greatest clause.action clause.belief none in
    (false_from_ne_true s.closed going, seen.0, true_from_ne_false (is_some s.acted) (λ h. ruled (inl h)), false_from_ne_true (is_some (weights_after_observation m s o)) (λ h. ruled (inr h)))
may_enter m editions s (closing e id action) seen none =
    let (going, there, older, other, deed, ruled) = none_of_six (EntryBreaks m editions s (closing e id action)) clause.closing clause.edition clause.older clause.greatest clause.action clause.belief none in
    let less : e < length editions = omega (arith, there) in
    (false_from_ne_true s.closed (λ h. going (inl h)), omega (arith, older), is_same _ _ (λ h. going (inr h)), is_answer m editions s e id action less (is_same _ _ other) (is_same _ _ deed))

neither : (m : Model) (editions : List Edition) (s : Session) (xs : List Entry) → AreSeen m xs → ¬ (IsLog m (all_of editions) s xs × ((session_after m s xs).closed ≡ true)) → ¬ ((i : ℕ) (c : Clause) → ¬ Goes m editions s xs i c)
unfolding IsLog session_after
neither m editions s [] seen not_over none = by_end s.closed refl
  where
    by_end : (closed : Bool) → s.closed ≡ closed → ⊥
    by_end true e = not_over (tt, e)
    by_end false e = none 0 clause.closing (record { within = omega arith; log = tt; fault = (e, refl) })
neither m editions s (x ∷ xs) seen not_over none =
    let may = may_enter m editions s x (first_seen m x xs seen) (λ c first. none 0 c (record { within = omega arith; log = tt; fault = first })) in
    neither m editions (after_entry m s x) xs (rest_seen m x xs seen) (λ legal. not_over ((may, legal.0), legal.1))
    (λ i c goes. none (suc i) c (record { within = let less = goes.within in omega (arith, less); log = (may, goes.log); fault = goes.fault }))

pub no_log_is_neither : NoLogIsNeither
no_log_is_neither m editions xs seen not_legal none =
    neither m editions (opening_session m) xs seen not_legal (λ i c goes. none i c (record { within = goes.within; log = goes.log; fault = goes.fault }))

-- ---- editions and sessions that agree
pub members_back : (m : Model) (xs ys : Edition) → EditionsAgree m xs ys → EditionsAgree m ys xs
members_back m [] [] h = tt
members_back m (x ∷ xs) (y ∷ ys) (here, rest) = ((sym here.0, sym here.1, λ s p. sym (here.2 s p)), members_back m xs ys rest)
members_back m [] (y ∷ ys) h = absurd h
members_back m (x ∷ xs) [] h = absurd h

pub editions_back : (m : Model) (xs ys : List Edition) → AllAgree m xs ys → AllAgree m ys xs
editions_back m [] [] h = tt
editions_back m (x ∷ xs) (y ∷ ys) (here, rest) = (members_back m x y here, editions_back m xs ys rest)
editions_back m [] (y ∷ ys) h = absurd h
editions_back m (x ∷ xs) [] h = absurd h

pub at_agrees : (m : Model) (xs ys : List Edition) → AllAgree m xs ys → (e : ℕ) → EditionsAgree m (get_or xs e []) (get_or ys e [])
at_agrees m [] [] h e = tt
at_agrees m (x ∷ xs) (y ∷ ys) (here, rest) zero = here
at_agrees m (x ∷ xs) (y ∷ ys) (here, rest) (suc e) = at_agrees m xs ys rest e
at_agrees m [] (y ∷ ys) h e = absurd h
at_agrees m (x ∷ xs) [] h e = absurd h

pub length-agrees : (m : Model) (xs ys : List Edition) → AllAgree m xs ys → length xs ≡ length ys
length-agrees m [] [] h = refl
length-agrees m (x ∷ xs) (y ∷ ys) (here, rest) = ap suc (length-agrees m xs ys rest)
length-agrees m [] (y ∷ ys) h = absurd h
length-agrees m (x ∷ xs) [] h = absurd h

some_same : (m : Model) (o r : Option Weights) → NextAgree m o r → is_some o ≡ is_some r
some_same m None None h = refl
some_same m (Some w) (Some x) h = refl
some_same m None (Some x) h = absurd h
some_same m (Some w) None h = absurd h

pub observed_same : (m : Model) (s t : Session) → SessionsAgree m s t → (o : ℕ) → is_some (weights_after_observation m s o) ≡ is_some (weights_after_observation m t o)
observed_same m s t agree o = some_same m (weights_after_observation m s o) (weights_after_observation m t o) (subst (λ (acted : Option ℕ). NextAgree m (weights_after_observation m s o) (option_and_then (λ a. next_weights m t.weights a (point_of m.sight_sizes o)) acted)) agree.acted (by_acted s.acted))
  where
    by_acted : (acted : Option ℕ) → NextAgree m (option_and_then (λ a. next_weights m s.weights a (point_of m.sight_sizes o)) acted) (option_and_then (λ a. next_weights m t.weights a (point_of m.sight_sizes o)) acted)
    by_acted None = tt
    by_acted (Some a) = next_agrees m s.weights t.weights a (point_of m.sight_sizes o) agree.weights

pub session_back : (m : Model) (s t : Session) → SessionsAgree m s t → SessionsAgree m t s
session_back m s t agree = record { weights = λ x p. sym (agree.weights x p); newest = sym agree.newest; acted = sym agree.acted; closed = sym agree.closed }

pub after_entries_agree : (m : Model) (s t : Session) → SessionsAgree m s t → (xs : List Entry) → SessionsAgree m (session_after m s xs) (session_after m t xs)
unfolding session_after
after_entries_agree m s t agree [] = agree
after_entries_agree m s t agree (x ∷ xs) = after_entries_agree m (after_entry m s x) (after_entry m t x) (after_entry_agrees m s t agree x) xs

module _ (m : Model) (editions others : List Edition) (all : AllAgree m editions others) (s t : Session) (agree : SessionsAgree m s t) where
  count : length editions ≡ length others
  count = length-agrees m editions others all

  answers : (e : ℕ) → MembersAgree m (answer_of m editions s e) (answer_of m others t e)
  answers e = greatest_member_agrees m (get_or editions e []) (get_or others e []) s.weights t.weights (at_agrees m editions others all e) agree.weights

  closed_too : s.closed ≡ true → t.closed ≡ true
  closed_too is = sym agree.closed ∙ is

  past_too : (e : ℕ) → length editions ≤ e → length others ≤ e
  past_too e h = omega (arith, h, count)

  older_too : (e : ℕ) → e < s.newest → e < t.newest
  older_too e h = let same = agree.newest in omega (arith, h, same)

  pub breaks_too : (x : Entry) (c : Clause) → EntryBreaks m editions s x c → EntryBreaks m others t x c
  unfolding EntryBreaks
  breaks_too (closing e id action) clause.closing (inl over) = inl (closed_too over)
  breaks_too (closing e id action) clause.closing (inr other) = inr (λ last. other (last ∙ sym count))
  breaks_too (told e) clause.closing h = closed_too h
  breaks_too (act e id action) clause.closing h = closed_too h
  breaks_too (observe o) clause.closing h = closed_too h
  breaks_too (unseen o) clause.closing h = closed_too h
  breaks_too (told e) clause.edition h = past_too e h
  breaks_too (act e id action) clause.edition h = past_too e h
  breaks_too (closing e id action) clause.edition h = past_too e h
  breaks_too (told e) clause.older h = older_too e h
  breaks_too (act e id action) clause.older h = older_too e h
  breaks_too (closing e id action) clause.older h = older_too e h
  breaks_too (act e id action) clause.greatest h = λ is. h (is ∙ sym (answers e).0)
  breaks_too (closing e id action) clause.greatest h = λ is. h (is ∙ sym (answers e).0)
  breaks_too (act e id action) clause.action h = λ is. h (is ∙ sym (answers e).1)
  breaks_too (closing e id action) clause.action h = λ is. h (is ∙ sym (answers e).1)
  breaks_too (observe o) clause.belief h = sym (observed_same m s t agree o) ∙ h
  breaks_too (unseen o) clause.belief (inl un) = inl (ap is_some (sym agree.acted) ∙ un)
  breaks_too (unseen o) clause.belief (inr some) = inr (sym (observed_same m s t agree o) ∙ some)
  breaks_too x c h = absurd h

pub fault_too : (m : Model) (editions others : List Edition) → AllAgree m editions others → (s t : Session) → SessionsAgree m s t → (xs : List Entry) (c : Clause) → IsEntryFault m editions s xs c → IsEntryFault m others t xs c
fault_too m editions others all s t agree [] c (going, is) = (sym agree.closed ∙ going, is)
fault_too m editions others all s t agree (x ∷ xs) c first = first_alike (EntryBreaks m editions s x) (EntryBreaks m others t x) (breaks_too m editions others all s t agree x) (breaks_too m others editions (editions_back m editions others all) t s (session_back m s t agree) x) entry_clauses c first

pub serves : (m : Model) (editions others : List Edition) → AllAgree m editions others → ServesFor m (all_of editions) (all_of others)
serves m editions others all = record {
  has = λ e edition there.
      let less = there_within editions e edition there in
      (get_or others e [], within_there others e (omega (arith, less, length-agrees m editions others all)), subst (λ (x : Edition). EditionsAgree m x (get_or others e [])) (there_is editions e edition there) (at_agrees m editions others all e));
  may_tell = λ e less. omega (arith, less, length-agrees m editions others all);
  is_last = λ e last. last ∙ length-agrees m editions others all;
}

pub wrong_logs_agree : WrongLogsAgree
wrong_logs_agree m editions others all xs i c w = record {
  within = w.within;
  log = log_too m (all_of editions) (all_of others) (serves m editions others all) (opening_session m) (opening_session m) (session_same m (opening_session m)) (take i xs) w.log;
  fault = let s = session_after m (opening_session m) (take i xs) in fault_too m editions others all s s (session_same m s) (drop i xs) c w.fault;
}
