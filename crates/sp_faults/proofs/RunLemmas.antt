-- Runs that are wrong: not legal, wrong once, and none is neither.
use Rattle.std.proofs.Common.{◌≡◌, ◌∙◌, sym, ap, refl, arith, ℕ, zero, suc, ◌≤◌, ◌<◌, List, [], ◌∷◌, length, take, drop, Bool, true, false}
use Rattle.std.proofs.lemmas.Bool.{false_from_ne_true}
use Rattle.sp_theory.specs.Book.{Task, Book, Event, settle, publish, prune, end, opening, editions, Allowed, after_event}
use Rattle.sp_theory.specs.Runs.{IsHistory, replay}
use Rattle.sp_theory.proofs.RecordedBackups as recorded
use Rattle.sp_theory.proofs.SoundRuns.{run_is_sound}
use Rattle.sp_faults.specs.Clauses as clause
use Rattle.sp_faults.specs.Clauses.{Clause, IsFirstClause, event_clauses}
use Rattle.sp_faults.specs.RunFaults.{AreSettlesSampled, EventBreaks, IsEventFault, IsWrongRun}
use Rattle.sp_faults.specs.Laws.{WrongRunsAreNotLegal, RunsAreWrongOnce, NoRunIsNeither, LegalRunsAreSound}
use Rattle.sp_theory.proofs.Sound.{sound_opening}
use Rattle.sp_theory.proofs.Tidy.{tidy_opening}
use Rattle.sp_faults.proofs.Firsts.{first_one, first_none, none_of_six, is_same}

-- an event that is allowed breaks no clause
pub allowed_breaks_none : (t : Task) (b : Book) (x : Event) → Allowed t b x → (c : Clause) → ¬ EventBreaks t b x c
unfolding Allowed EventBreaks
allowed_breaks_none t b (settle k e a links) (going, within, there, backup) clause.after_end broken = absurd (cc)
allowed_breaks_none t b (settle k e a links) (going, within, there, backup) clause.edition broken = absurd (omega (arith, there, broken))
allowed_breaks_none t b (settle k e a links) (going, within, there, backup) clause.backup broken = broken backup
allowed_breaks_none t b publish (going, up) clause.after_end broken = absurd (cc)
allowed_breaks_none t b publish (going, up) clause.publish broken = broken up
allowed_breaks_none t b (prune pairs) (going, some, can) clause.after_end broken = absurd (cc)
allowed_breaks_none t b (prune pairs) (going, some, can) clause.prune broken = broken (some, can)
allowed_breaks_none t b end (going, none) clause.after_end broken = absurd (cc)
allowed_breaks_none t b end (going, none) clause.end broken = broken none
allowed_breaks_none t b x allowed c broken = absurd broken

-- events that may not go on after a book, by what is wrong after i of them
record Goes (t : Task) (b : Book) (es : List Event) (i : ℕ) (c : Clause) : Type 0 where
  within : i ≤ length es
  history : IsHistory t b (take i es)
  fault : IsEventFault t (replay t b (take i es)) (drop i es) c

goes_on : (t : Task) (b : Book) (x : Event) (xs : List Event) (i : ℕ) (c : Clause) → Goes t b (x ∷ xs) (suc i) c → Allowed t b x × Goes t (after_event t b x) xs i c
unfolding IsHistory replay
goes_on t b x xs i c w = (w.history.0, record { within = let less = w.within in omega (arith, less); history = w.history.1; fault = w.fault })

first_fault : (t : Task) (b : Book) (x : Event) (xs : List Event) (c : Clause) → Goes t b (x ∷ xs) 0 c → IsFirstClause (EventBreaks t b x) event_clauses c
unfolding replay
first_fault t b x xs c w = w.fault

last_fault : (t : Task) (b : Book) (c : Clause) → Goes t b [] 0 c → (b.done ≡ false) × (c ≡ clause.unfinished)
unfolding replay
last_fault t b c w = w.fault

not_legal : (t : Task) (b : Book) (es : List Event) (i : ℕ) (c : Clause) → Goes t b es i c → IsHistory t b es → ¬ ((replay t b es).done ≡ true)
unfolding IsHistory replay
not_legal t b [] zero c w history over = let (going, is) = last_fault t b c w in absurd (cc)
not_legal t b [] (suc i) c w history over = absurd (let less = w.within in omega (arith, less))
not_legal t b (x ∷ xs) zero c w (allowed, rest) over = first_none (EventBreaks t b x) (allowed_breaks_none t b x allowed) event_clauses c (first_fault t b x xs c w)
not_legal t b (x ∷ xs) (suc i) c w (allowed, rest) over = not_legal t (after_event t b x) xs i c (goes_on t b x xs i c w).1 rest over

once : (t : Task) (b : Book) (es : List Event) (i j : ℕ) (c d : Clause) → Goes t b es i c → Goes t b es j d → (i ≡ j) × (c ≡ d)
once t b [] zero zero c d w v = (refl, (last_fault t b c w).1 ∙ sym (last_fault t b d v).1)
once t b [] (suc i) j c d w v = absurd (let less = w.within in omega (arith, less))
once t b [] zero (suc j) c d w v = absurd (let less = v.within in omega (arith, less))
once t b (x ∷ xs) zero zero c d w v = (refl, first_one (EventBreaks t b x) event_clauses c d (first_fault t b x xs c w) (first_fault t b x xs d v))
once t b (x ∷ xs) zero (suc j) c d w v = absurd (first_none (EventBreaks t b x) (allowed_breaks_none t b x (goes_on t b x xs j d v).0) event_clauses c (first_fault t b x xs c w))
once t b (x ∷ xs) (suc i) zero c d w v = absurd (first_none (EventBreaks t b x) (allowed_breaks_none t b x (goes_on t b x xs i c w).0) event_clauses d (first_fault t b x xs d v))
once t b (x ∷ xs) (suc i) (suc j) c d w v =
    let (same, is) = once t (after_event t b x) xs i j c d (goes_on t b x xs i c w).1 (goes_on t b x xs j d v).1 in
    (ap suc same, is)

goes : (t : Task) (es : List Event) (i : ℕ) (c : Clause) → IsWrongRun t es i c → Goes t (opening t) es i c
goes t es i c w = record { within = w.within; history = w.history; fault = w.fault }

pub wrong_runs_are_not_legal : WrongRunsAreNotLegal
wrong_runs_are_not_legal t es i c w (history, over) = not_legal t (opening t) es i c (goes t es i c w) history over

pub runs_are_wrong_once : RunsAreWrongOnce
runs_are_wrong_once t es i j c d w v = once t (opening t) es i j c d (goes t es i c w) (goes t es j d v)

pub legal_runs_are_sound : LegalRunsAreSound
legal_runs_are_sound t lawful some es (history, over) = (run_is_sound t lawful some es history, recorded.all_close t lawful some (opening t) es (sound_opening t) (tidy_opening t) history)

-- ---- no run is neither legal nor wrong
pub first_sampled : (t : Task) (x : Event) (xs : List Event) → AreSettlesSampled t (x ∷ xs) → AreSettlesSampled t (x ∷ [])
first_sampled t (settle k e a links) xs h = (h.0, tt)
first_sampled t publish xs h = tt
first_sampled t (prune pairs) xs h = tt
first_sampled t end xs h = tt

pub rest_sampled : (t : Task) (x : Event) (xs : List Event) → AreSettlesSampled t (x ∷ xs) → AreSettlesSampled t xs
rest_sampled t (settle k e a links) xs h = h.1
rest_sampled t publish xs h = h
rest_sampled t (prune pairs) xs h = h
rest_sampled t end xs h = h

-- an event that breaks no clause can't be forbidden
not_forbidden : (t : Task) (b : Book) (x : Event) → AreSettlesSampled t (x ∷ []) → ((c : Clause) → ¬ IsFirstClause (EventBreaks t b x) event_clauses c) → ¬ ¬ Allowed t b x
unfolding Allowed EventBreaks
not_forbidden t b (settle k e a links) at none forbidden =
    let (going, there, backup, flag, pair, stage) = none_of_six (EventBreaks t b (settle k e a links)) clause.after_end clause.edition clause.backup clause.publish clause.prune clause.end none in
    let less : e < length (editions b) = omega (arith, there) in
    backup (λ is. forbidden (false_from_ne_true b.done going, at.0, less, is))
not_forbidden t b publish at none forbidden =
    let (going, there, backup, flag, pair, stage) = none_of_six (EventBreaks t b publish) clause.after_end clause.edition clause.backup clause.publish clause.prune clause.end none in
    flag (λ up. forbidden (false_from_ne_true b.done going, up))
not_forbidden t b (prune pairs) at none forbidden =
    let (going, there, backup, flag, pair, stage) = none_of_six (EventBreaks t b (prune pairs)) clause.after_end clause.edition clause.backup clause.publish clause.prune clause.end none in
    pair (λ can. forbidden (false_from_ne_true b.done going, can.0, can.1))
not_forbidden t b end at none forbidden =
    let (going, there, backup, flag, pair, stage) = none_of_six (EventBreaks t b end) clause.after_end clause.edition clause.backup clause.publish clause.prune clause.end none in
    forbidden (false_from_ne_true b.done going, is_same b.stages_left 0 stage)

neither : (t : Task) (b : Book) (es : List Event) → AreSettlesSampled t es → ¬ (IsHistory t b es × ((replay t b es).done ≡ true)) → ¬ ((i : ℕ) (c : Clause) → ¬ Goes t b es i c)
unfolding IsHistory replay
neither t b [] sampled not_over none = by_end b.done refl
  where
    by_end : (done : Bool) → b.done ≡ done → ⊥
    by_end true e = not_over (tt, e)
    by_end false e = none 0 clause.unfinished (record { within = omega arith; history = tt; fault = (e, refl) })
neither t b (x ∷ xs) sampled not_over none =
    not_forbidden t b x (first_sampled t x xs sampled) (λ c first. none 0 c (record { within = omega arith; history = tt; fault = first }))
    (λ allowed. neither t (after_event t b x) xs (rest_sampled t x xs sampled) (λ legal. not_over ((allowed, legal.0), legal.1))
    (λ i c goes. none (suc i) c (record { within = let less = goes.within in omega (arith, less); history = (allowed, goes.history); fault = goes.fault })))

pub no_run_is_neither : NoRunIsNeither
no_run_is_neither t es sampled not_legal none =
    neither t (opening t) es sampled not_legal (λ i c goes. none i c (record { within = goes.within; history = goes.history; fault = goes.fault }))
