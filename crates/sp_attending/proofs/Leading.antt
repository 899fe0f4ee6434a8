-- The pauses of a run lead from one to the next, and editions only come.
use Rattle.std.proofs.Common.{◌≡◌, ◌∙◌, sym, ap, subst, refl, arith, ℕ, suc, ◌-◌, ◌<◌, ◌≤◌, Bool, true, false, cond, List, [], ◌∷◌, ◌++◌, length, append_assoc, append-nil, length-append, Option, Some, None}
use Rattle.std.specs.Prelude.{slice_get}
use Rattle.sp_theory.specs.Values.{Member, Edition}
use Rattle.sp_theory.specs.Book.{Task, Book, Event, settle, publish, prune, end, opening, editions, entering, entered, settled_member, settled_record, pruned, after_event}
use Rattle.sp_theory.specs.Runs.{replay}
use Rattle.sp_theory.specs.OneThread.{Marks, turn, marks_after, one_thread}
use Rattle.sp_theory.proofs.Histories.{replay-append}
use Rattle.sp_theory.proofs.LogLemmas.{edition_same}
use Rattle.sp_planner.specs.Pauses.{is_pause, pauses_after, pauses}
use Rattle.sp_serving.specs.Replies.{newest_of}
use Rattle.sp_serving.specs.Laws.{IsShown, AreShown}
use Rattle.sp_attending.specs.Runs.{shown_at}

-- ---- editions only come
entered_same : (t : Task) (b : Book) (x : Option Member) → editions (entered t b x) ≡ editions b
unfolding entered
entered_same t b None = refl
entered_same t b (Some x) = refl

editions-event : (t : Task) (b : Book) (e : Event) → (more : List Edition) × (editions (after_event t b e) ≡ editions b ++ more)
unfolding after_event
editions-event t b (settle k e a links) = ([], entered_same t (record b { records = b.records ++ settled_record t b a links ∷ [] }) (entering t b k (settled_member t b a links)) ∙ sym (append-nil (editions b)))
editions-event t b publish = (b.grown ∷ [], refl)
editions-event t b (prune pairs) = (pruned b.latest pairs ∷ [], refl)
editions-event t b end = ([], sym (append-nil (editions b)))

editions-replay : (t : Task) (b : Book) (es : List Event) → (more : List Edition) × (editions (replay t b es) ≡ editions b ++ more)
unfolding replay
editions-replay t b [] = ([], sym (append-nil (editions b)))
editions-replay t b (e ∷ es) =
    let (first, here) = editions-event t b e in
    let (rest, there) = editions-replay t (after_event t b e) es in
    (first ++ rest, there ∙ ap (λ (xs : List Edition). xs ++ rest) here ∙ append_assoc (editions b) first rest)

-- the editions to which a history leads
abbrev pub editions_at : Task → List Event → List Edition
editions_at t history = editions (replay t (opening t) history)

pub editions-more : (t : Task) (h more k : List Event) → k ≡ h ++ more → (grown : List Edition) × (editions_at t k ≡ editions_at t h ++ grown)
editions-more t h more k is =
    let (grown, same) = editions-replay t (replay t (opening t) h) more in
    (grown, ap (λ (es : List Event). editions (replay t (opening t) es)) is ∙ ap editions (replay-append t (opening t) h more) ∙ same)

pub some_edition : (t : Task) (h : List Event) → 0 < length (editions_at t h)
some_edition t h = let b = replay t (opening t) h in let n = length-append b.earlier (b.latest ∷ []) in omega (arith, n)

pub counts-more : (t : Task) (h more k : List Event) → k ≡ h ++ more → length (editions_at t h) ≤ length (editions_at t k)
counts-more t h more k is =
    let (grown, same) = editions-more t h more k is in
    let n = ap (λ (xs : List Edition). length xs) same in
    let p = length-append (editions_at t h) grown in
    omega (arith, n, p)

-- ---- histories that lead from one to the next
abbrev pub Leads : List Event → List (List Event) → List Event → Type 0
Leads h [] final = (more : List Event) × (final ≡ h ++ more)
Leads h (k ∷ ks) final = ((more : List Event) × (k ≡ h ++ more)) × Leads k ks final

pub leads_to : (h : List Event) (ks : List (List Event)) (final : List Event) → Leads h ks final → (more : List Event) × (final ≡ h ++ more)
leads_to h [] final leads = leads
leads_to h (k ∷ ks) final ((first, is), rest) =
    let (more, same) = leads_to k ks final rest in
    (first ++ more, same ∙ ap (λ (es : List Event). es ++ more) is ∙ append_assoc h first more)

leads_from : (h events k : List Event) (ks : List (List Event)) (final : List Event) → k ≡ h ++ events → Leads k ks final → Leads h ks final
leads_from h events k [] final is leads = leads_to h (k ∷ []) final ((events, is), leads)
leads_from h events k (x ∷ ks) final is ((more, same), rest) = ((events ++ more, same ∙ ap (λ (es : List Event). es ++ more) is ∙ append_assoc h events more), rest)

-- a turn, and what comes after it
turn_leads : (h events later : List Event) (rest : List (List Event)) (done pause : Bool) → Leads (h ++ events) rest (h ++ (events ++ later))
    → Leads h (cond done [] (cond pause ((h ++ events) ∷ []) [] ++ rest)) (h ++ cond done [] (events ++ later))
turn_leads h events later rest true pause leads = ([], refl)
turn_leads h events later rest false true leads = ((events, refl), leads)
turn_leads h events later rest false false leads = leads_from h events (h ++ events) rest (h ++ (events ++ later)) refl leads

after_leads : (t : Task) (pruning : Bool) (h : List Event) (marks : Marks) (words : List ℕ) → Leads h (pauses_after t pruning h marks words) (h ++ one_thread t pruning (replay t (opening t) h) marks words)
unfolding pauses_after one_thread
after_leads t pruning h marks [] = ([], refl)
after_leads t pruning h marks (word ∷ words) =
    let b = replay t (opening t) h in
    let events = turn t pruning b marks word in
    let later = one_thread t pruning (replay t b events) (marks_after t b marks word) words in
    let rest = pauses_after t pruning (h ++ events) (marks_after t b marks word) words in
    let leads : Leads (h ++ events) rest (h ++ (events ++ later)) =
    subst (Leads (h ++ events) rest)
    (ap (λ (x : Book). (h ++ events) ++ one_thread t pruning x (marks_after t b marks word) words) (replay-append t (opening t) h events) ∙ append_assoc h events later)
    (after_leads t pruning (h ++ events) (marks_after t b marks word) words) in
    turn_leads h events later rest b.done (is_pause t h (h ++ events)) leads

pub pauses_lead : (t : Task) (pruning : Bool) (h : List Event) (marks : Marks) (words : List ℕ) (final : List Event) → final ≡ h ++ one_thread t pruning (replay t (opening t) h) marks words → Leads h (pauses t pruning h marks words) final
pauses_lead t pruning h marks words final is = subst (Leads h (pauses t pruning h marks words)) (sym is) (by_state (replay t (opening t) h).done)
  where
    by_state : (done : Bool) → Leads h (cond done [] (h ∷ pauses_after t pruning h marks words)) (h ++ one_thread t pruning (replay t (opening t) h) marks words)
    by_state true = (one_thread t pruning (replay t (opening t) h) marks words, refl)
    by_state false = (([], sym (append-nil h)), after_leads t pruning h marks words)

-- ---- what is shown at them
seam : (xs ys : List Edition) (x : Edition) → slice_get ((xs ++ x ∷ []) ++ ys) (length xs) ≡ Some x
seam [] ys x = refl
seam (z ∷ xs) ys x = seam xs ys x

-- the number of the newest edition is the last one
newest_is : (b : Book) → suc (length b.earlier) ≡ length (editions b)
newest_is b = let n = length-append b.earlier (b.latest ∷ []) in omega (arith, n)

pub newest_below : (t : Task) (k : List Event) → (newest_of (replay t (opening t) k)).0 < length (editions_at t k)
newest_below t k = let n = newest_is (replay t (opening t) k) in omega (arith, n)

newest_shown : (t : Task) (n : ℕ) (k more final : List Event) → final ≡ k ++ more → n < length (editions_at t k) → IsShown t.model (editions_at t final) n (newest_of (replay t (opening t) k))
newest_shown t n k more final is less =
    let b = replay t (opening t) k in
    let (grown, same) = editions-more t k more final is in
    let number = newest_is b in
    record {
      later = omega (arith, less, number);
      there = (b.latest, subst (λ (ys : List Edition). slice_get ys (length b.earlier) ≡ Some b.latest) (sym same) (seam b.earlier grown b.latest), edition_same t.model b.latest);
    }

pub leads_show : (t : Task) (n : ℕ) (h : List Event) (ks : List (List Event)) (final : List Event) → Leads h ks final → n < length (editions_at t h) → AreShown t.model (editions_at t final) n (shown_at t ks) (newest_of (replay t (opening t) final))
leads_show t n h [] final (more, is) less =
    let longer = counts-more t h more final is in
    (newest_shown t n final [] final (sym (append-nil final)) (omega (arith, less, longer)), newest_is (replay t (opening t) final))
leads_show t n h (k ∷ ks) final ((more, is), rest) less =
    let longer = counts-more t h more k is in
    let (last, whole) = leads_to k ks final rest in
    (newest_shown t n k last final whole (omega (arith, less, longer)), leads_show t (length (replay t (opening t) k).earlier) k ks final rest (newest_below t k))
