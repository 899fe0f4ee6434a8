-- The run of one thread ends: each turn raises one more flag.
use Rattle.std.proofs.Common.{◌≡◌, ℕ, zero, suc, ◌+◌, ◌*◌, ◌-◌, ◌<◌, ◌≤◌, List, [], ◌∷◌, ◌++◌, length, refl, sym, ap, ◌∙◌, subst, arith, Bool, true, false, cond, not, ◌||◌, inl, inr, eqb, Option, Some, None}
use Rattle.std.proofs.Math.Nat.{mul_comm}
use Rattle.std.specs.Prelude.{ℤ, ◌≤ℤ◌, int_lt}
use Rattle.std.proofs.lemmas.Int.{ints}
use lib.Signed.{≤ℤ_refl}
use Rattle.sp_theory.specs.Sums.{holds_below}
use Rattle.sp_theory.specs.Values.{Member, dot, greatest_member, value}
use Rattle.sp_theory.specs.Backup.{choice, links_at}
use Rattle.sp_theory.specs.Book.{Task, Book, settle, publish, end, settled_record, settled_member, entering, entered, opening, after_event}
use Rattle.sp_theory.specs.Runs.{IsHistory, replay}
use Rattle.sp_theory.specs.OneThread.{dominated, applying, IsBetweenTurns, Marks, picked, settled_at, prune_of, pruning_events, all_improved, due_events, turn, marks_after, one_thread}
use Rattle.sp_theory.specs.Laws.{SettleImproves, OneThreadCompletes, OneThreadEnds}
use Rattle.sp_theory.proofs.Extremes.{holds_below_not}
use Rattle.sp_theory.proofs.Histories.{replay-append, IsHistory-append}
use Rattle.sp_theory.proofs.Downs.{downs, downs_most, downs_less}
use Rattle.sp_theory.proofs.Publications.{after_publication}
use Rattle.sp_theory.proofs.OneThread.{kept_by_entered, picked_below, picked_down, one_thread_goes_after}

-- ---- flags
or_left : (r s : Bool) → r ≡ true → (r || s) ≡ true
or_left true s e = refl
or_left false s e = absurd (cc)

or_right : (r s : Bool) → s ≡ true → (r || s) ≡ true
or_right true s e = refl
or_right false s e = e

raises : (y z : ℤ) (r l : Bool) → int_lt y z ≡ l → z ≤ℤ y → (r || not l) ≡ true
raises y z true l e h = refl
raises y z false true e h = absurd (omega (arith, ints, e, h))
raises y z false false e h = refl

flags_kept : (t : Task) (b : Book) (o : Option Member) (j : ℕ) → b.improved j ≡ true → (entered t b o).improved j ≡ true
unfolding entered
flags_kept t b None j up = up
flags_kept t b (Some x) j up = or_left _ _ up

-- what enters at a belief raises its flag
entering_raises : (t : Task) (b book : Book) (k : ℕ) (x : Member) → book.improved ≡ b.improved → book.latest ≡ b.latest → (entered t book (entering t b k x)).improved k ≡ true
unfolding entered entering value
entering_raises t b book k x flags same = by_test (b.improved k) refl (int_lt (value t.model b.grown (t.samples k)) (dot t.model (t.samples k) x.vector)) (int_lt (dot t.model (t.samples k) x.vector) (value t.model b.latest (t.samples k))) refl
  where
    w : ℕ → List ℕ → ℕ
    w = t.samples

    by_test : (r : Bool) → b.improved k ≡ r → (g l : Bool) → int_lt (dot t.model (t.samples k) x.vector) (value t.model b.latest (t.samples k)) ≡ l
        → (entered t book (cond r (cond g (Some x) None) (cond l (Some (greatest_member t.model b.latest (t.samples k))) (Some x)))).improved k ≡ true
    by_test true e true l f = or_left _ _ (ap (λ (flag : ℕ → Bool). flag k) flags ∙ e)
    by_test true e false l f = ap (λ (flag : ℕ → Bool). flag k) flags ∙ e
    by_test false e g true f = raises (dot t.model (t.samples k) (greatest_member t.model b.latest (t.samples k)).vector) (value t.model book.latest (t.samples k)) (book.improved k) _ refl (subst (λ edition. value t.model edition (t.samples k) ≤ℤ dot t.model (t.samples k) (greatest_member t.model b.latest (t.samples k)).vector) (sym same) (≤ℤ_refl _))
    by_test false e g false f = or_right (book.improved k) _ (subst (λ edition. not (int_lt (dot t.model (t.samples k) x.vector) (value t.model edition (t.samples k))) ≡ true) (sym same) (ap not f))

pub settle_improves : SettleImproves
unfolding after_event
settle_improves t b k e a links = (
  entering_raises t b (record b { records = b.records ++ settled_record t b a links ∷ [] }) k (settled_member t b a links) refl refl,
  flags_kept t (record b { records = b.records ++ settled_record t b a links ∷ [] }) (entering t b k (settled_member t b a links)),
)

-- ---- turns
kept_by_prune : (t : Task) (b : Book) (pairs : List (ℕ × ℕ)) → ((replay t b (prune_of pairs)).done ≡ b.done) × ((replay t b (prune_of pairs)).stages_left ≡ b.stages_left) × ((replay t b (prune_of pairs)).improved ≡ b.improved)
unfolding replay after_event
kept_by_prune t b [] = (refl, refl, refl)
kept_by_prune t b (pair ∷ pairs) = (refl, refl, refl)

module _ (t : Task) (some : 0 < t.beliefs) (pruning : Bool) where
  -- one thread with these words ends the run
  abbrev Finishes : Book → Marks → List ℕ → Type 0
  Finishes b taken words = (replay t b (one_thread t pruning b taken words)).done ≡ true

  -- it does from every book of which no more is to be done than there are words
  abbrev Suffice : List ℕ → Type 0
  Suffice words = (b : Book) (taken : Marks) (n : ℕ) → b.done ≡ false → b.stages_left ≡ suc n → all_improved t b ≡ false → n * t.beliefs + downs t.beliefs b.improved ≤ length words → Finishes b taken words

  done_stays : (b : Book) (taken : Marks) (words : List ℕ) → b.done ≡ true → Finishes b taken words
  unfolding one_thread replay
  done_stays b taken [] done = done
  done_stays b taken (word ∷ words) done = subst (λ (c : Bool). (replay t b (cond c [] (turn t pruning b taken word ++ one_thread t pruning (replay t b (turn t pruning b taken word)) (marks_after t b taken word) words))).done ≡ true) (sym done) done

  -- what is due after a settle, and the other words
  due_finishes : (b : Book) (taken : Marks) (words : List ℕ) (n : ℕ) → Suffice words → b.done ≡ false → b.stages_left ≡ suc n → n * t.beliefs + downs t.beliefs b.improved ≤ length words → Finishes (replay t b (due_events t pruning b)) taken words
  unfolding due_events pruning_events all_improved replay after_event
  due_finishes b taken words n suffice going stages enough = by_flags (all_improved t b) refl
    where
      next : Book
      next = after_event t b publish

      by_pruning : (p : Bool) (n : ℕ) → b.stages_left - 1 ≡ suc n → suc n * t.beliefs + downs t.beliefs b.improved ≤ length words → Finishes (replay t next (cond p (pruning_events t next) [])) taken words
      by_pruning false n left enough = suffice next taken n going left (after_publication t b some) (let most = downs_most t.beliefs next.improved in omega (arith, enough, most))
      by_pruning true n left enough =
          let kept = kept_by_prune t next (applying next.latest (dominated t.model next.latest)) in
          suffice (replay t next (pruning_events t next)) taken n (kept.0 ∙ going) (kept.1 ∙ left)
          (ap (holds_below t.beliefs) kept.2 ∙ after_publication t b some)
          (let most = downs_most t.beliefs (replay t next (pruning_events t next)).improved in omega (arith, enough, most))

      by_left : (n : ℕ) → b.stages_left ≡ suc n → n * t.beliefs + downs t.beliefs b.improved ≤ length words → (c : Bool) → eqb (b.stages_left - 1) 0 ≡ c → Finishes (replay t next (cond c (end ∷ []) (cond pruning (pruning_events t next) []))) taken words
      by_left n stages enough true e = done_stays (after_event t next end) taken words refl
      by_left zero stages enough false e = absurd (let last = ap (λ (s : ℕ). eqb (s - 1) 0) stages in cc)
      by_left (suc n) stages enough false e = by_pruning pruning n (omega (arith, stages)) enough

      by_flags : (c : Bool) → all_improved t b ≡ c → Finishes (replay t b (cond c (publish ∷ cond (eqb next.stages_left 0) (end ∷ []) (cond pruning (pruning_events t next) [])) [])) taken words
      by_flags false down = suffice b taken n going stages down enough
      by_flags true up = by_left n stages enough (eqb next.stages_left 0) refl

  -- after a turn fewer flags are down, or a stage is done
  turn_finishes : (b : Book) (taken : Marks) (word : ℕ) (words : List ℕ) (n : ℕ) → Suffice words → b.done ≡ false → b.stages_left ≡ suc n → all_improved t b ≡ false → n * t.beliefs + downs t.beliefs b.improved ≤ suc (length words)
      → Finishes (replay t b (turn t pruning b taken word)) (marks_after t b taken word) words
  unfolding turn settled_at replay after_event
  turn_finishes b taken word words n suffice going stages down enough =
      let k = picked t b taken word in
      let a = choice t.model b.latest (t.samples k) in
      let links = links_at t.model b.latest (t.samples k) a in
      let kept = settle_keeps a links in
      let flags = settle_improves t b k (length b.earlier) a links in
      let fewer = downs_less t.beliefs b.improved (after_event t b (settle k (length b.earlier) a links)).improved (λ j within up. flags.1 j up) k (picked_below t b taken down word) (picked_down t b taken down word) flags.0 in
      due_finishes (after_event t b (settle k (length b.earlier) a links)) (marks_after t b taken word) words n suffice (kept.1 ∙ going) (kept.0 ∙ stages) (omega (arith, enough, fewer))
    where
      settle_keeps : (a : ℕ) (links : List ℕ) → ((after_event t b (settle (picked t b taken word) (length b.earlier) a links)).stages_left ≡ b.stages_left) × ((after_event t b (settle (picked t b taken word) (length b.earlier) a links)).done ≡ b.done)
      settle_keeps a links = kept_by_entered t (record b { records = b.records ++ settled_record t b a links ∷ [] }) (entering t b (picked t b taken word) (settled_member t b a links))

  pub words_suffice : (words : List ℕ) → Suffice words
  unfolding one_thread replay all_improved
  words_suffice [] b taken n going stages down enough =
      let (k, less, low) = holds_below_not t.beliefs b.improved down in
      let fewer = downs_less t.beliefs b.improved (λ j. true) (λ j within up. refl) k less low refl in
      absurd (omega (arith, enough, fewer))
  words_suffice (word ∷ words) b taken n going stages down enough =
      subst (λ (c : Bool). (replay t b (cond c [] (turn t pruning b taken word ++ one_thread t pruning (replay t b (turn t pruning b taken word)) (marks_after t b taken word) words))).done ≡ true) (sym going)
      (ap (λ (c : Book). c.done) (replay-append t b (turn t pruning b taken word) (one_thread t pruning (replay t b (turn t pruning b taken word)) (marks_after t b taken word) words))
      ∙ turn_finishes b taken word words n (words_suffice words) going stages down enough)

  pub between_finishes : (b : Book) (taken : Marks) (words : List ℕ) → IsBetweenTurns t b → t.beliefs * b.stages_left ≤ length words → Finishes b taken words
  between_finishes b taken words (inl done) enough = done_stays b taken words done
  between_finishes b taken words (inr (going, left, down)) enough = by_stages b.stages_left refl left
    where
      by_stages : (s : ℕ) → b.stages_left ≡ s → 0 < s → Finishes b taken words
      by_stages zero is some = absurd (omega (arith, some))
      by_stages (suc n) is some =
          let turned = mul_comm t.beliefs b.stages_left in
          let split = ap (λ (s : ℕ). s * t.beliefs) is in
          let most = downs_most t.beliefs b.improved in
          words_suffice words b taken n going is down (omega (arith, enough, turned, split, most))

-- ---- laws
pub one_thread_completes : OneThreadCompletes
one_thread_completes t lawful some es history ready pruning taken words enough =
    let goes = one_thread_goes_after t lawful some es history ready pruning taken words in (
      IsHistory-append t (opening t) es _ history goes.0,
      ap (λ (c : Book). c.done) (replay-append t (opening t) es _) ∙ between_finishes t some pruning (replay t (opening t) es) taken words ready enough,
    )

pub one_thread_ends : OneThreadEnds
unfolding opening all_improved after_event IsHistory replay
one_thread_ends t lawful some stages pruning taken words enough = one_thread_completes t lawful some [] tt (inr (refl, stages, after_publication t (opening t) some)) pruning taken words enough
