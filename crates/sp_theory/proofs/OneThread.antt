-- The events of one thread are allowed and prompt.
use Rattle.std.proofs.Common.{◌≡◌, ℕ, suc, ◌%◌, ◌<◌, List, [], ◌∷◌, ◌++◌, length, refl, sym, ap, ◌∙◌, subst, arith, Bool, true, false, cond, not, ◌||◌, inl, inr, eqb, length-append, zero, Option, Some, None}
use Rattle.std.specs.Prelude.{All, Contains}
use Rattle.std.specs.List.{range_with_len}
use Rattle.std.proofs.lemmas.Bool.{eqb-true, not-true}
use Rattle.std.proofs.lemmas.Nat.{mod_below}
use Rattle.std.proofs.lemmas.List.Elements.{All-filter, filter_passes}
use Rattle.std.proofs.Math.Seq.{get_or-append_seam}
use Rattle.sp_theory.specs.Sums.{holds_below}
use Rattle.sp_theory.specs.Model.{IsLawful}
use Rattle.sp_theory.specs.Values.{Member, Edition}
use Rattle.sp_theory.specs.Backup.{choice, links_at, IsBackup}
use Rattle.sp_theory.specs.Book.{Task, Book, Event, settle, publish, prune, end, CanPrune, settled_record, settled_member, entering, entered, opening, Allowed, after_event}
use Rattle.sp_theory.specs.Runs.{IsHistory, replay, IsPrompt}
use Rattle.sp_theory.specs.OneThread.{IsBetweenTurns, dominated, applying, Marks, beliefs_without_mark, open_beliefs, picked, settled_at, prune_of, pruning_events, all_improved, due_events, turn, marks_after, one_thread}
use Rattle.sp_theory.specs.Laws.{EventsGoOn, SettleGoesOn, OneThreadGoesOn}
use Rattle.sp_theory.proofs.Extremes.{holds_below_at, holds_below_all, holds_below_not}
use Rattle.sp_theory.proofs.Greatest.{Contains-filter}
use Rattle.sp_theory.proofs.Backups.{in_range, range_below}
use Rattle.sp_theory.proofs.Histories.{replay-append, IsHistory-append, IsPrompt-append}
use Rattle.sp_theory.proofs.Sound.{IsKept, latest_members, sound_opening, sound_after, sound_replay}
use Rattle.sp_theory.proofs.Dominated.{tell_by_records, dominated_may_go}

positive : (n : ℕ) → eqb n 0 ≡ false → 0 < n
positive zero e = absurd (cc)
positive (suc n) e = omega arith

-- ---- picking
module _ (t : Task) where
  unmarked_below : (marks : Marks) → All (λ k. k < t.beliefs) (beliefs_without_mark t marks)
  unmarked_below marks = All-filter (λ k. not (marks k)) (λ k. k < t.beliefs) (range_with_len 0 t.beliefs) (range_below t.beliefs)

  some_unmarked : (marks : Marks) (k : ℕ) → k < t.beliefs → marks k ≡ false → 0 < length (beliefs_without_mark t marks)
  some_unmarked marks k less e = has_some _ k (in_range (λ k. not (marks k) ≡ true → Contains (beliefs_without_mark t marks) k) t.beliefs k less (Contains-filter (λ k. not (marks k)) (range_with_len 0 t.beliefs)) (ap not e))
    where
      has_some : (xs : List ℕ) (x : ℕ) → Contains xs x → 0 < length xs
      has_some xs x (i, less, is) = omega arith

  unmarked_free : (marks : Marks) → All (λ k. marks k ≡ false) (beliefs_without_mark t marks)
  unmarked_free marks i d less = not-true _ (filter_passes (λ k. not (marks k)) (range_with_len 0 t.beliefs) i d less)

  module _ (b : Book) (taken : Marks) where
    open_below : All (λ k. k < t.beliefs) (open_beliefs t b taken)
    unfolding open_beliefs
    open_below = by_test (eqb (length (beliefs_without_mark t (λ k. b.improved k || taken k))) 0)
      where
        by_test : (c : Bool) → All (λ k. k < t.beliefs) (cond c (beliefs_without_mark t b.improved) (beliefs_without_mark t (λ k. b.improved k || taken k)))
        by_test true = unmarked_below b.improved
        by_test false = unmarked_below (λ k. b.improved k || taken k)

    some_open : all_improved t b ≡ false → 0 < length (open_beliefs t b taken)
    unfolding open_beliefs all_improved
    some_open e = by_test (eqb (length (beliefs_without_mark t (λ k. b.improved k || taken k))) 0) refl
      where
        by_test : (c : Bool) → eqb (length (beliefs_without_mark t (λ k. b.improved k || taken k))) 0 ≡ c → 0 < length (cond c (beliefs_without_mark t b.improved) (beliefs_without_mark t (λ k. b.improved k || taken k)))
        by_test true f = let (k, less, down) = holds_below_not t.beliefs b.improved e in some_unmarked b.improved k less down
        by_test false f = positive (length (beliefs_without_mark t (λ k. b.improved k || taken k))) f

    pub picked_below : all_improved t b ≡ false → (word : ℕ) → picked t b taken word < t.beliefs
    unfolding picked
    picked_below e word = open_below (word % length (open_beliefs t b taken)) 0 (mod_below word (length (open_beliefs t b taken)) (some_open e))

    open_down : All (λ k. b.improved k ≡ false) (open_beliefs t b taken)
    unfolding open_beliefs
    open_down = by_test (eqb (length (beliefs_without_mark t (λ k. b.improved k || taken k))) 0)
      where
        left_false : (r s : Bool) → (r || s) ≡ false → r ≡ false
        left_false true s e = absurd (cc)
        left_false false s e = refl

        by_test : (c : Bool) → All (λ k. b.improved k ≡ false) (cond c (beliefs_without_mark t b.improved) (beliefs_without_mark t (λ k. b.improved k || taken k)))
        by_test true = unmarked_free b.improved
        by_test false = λ i d less. left_false _ _ (unmarked_free (λ k. b.improved k || taken k) i d less)

    pub picked_down : all_improved t b ≡ false → (word : ℕ) → b.improved (picked t b taken word) ≡ false
    unfolding picked
    picked_down e word = open_down (word % length (open_beliefs t b taken)) 0 (mod_below word (length (open_beliefs t b taken)) (some_open e))

-- ---- events that go on
goes_append : (t : Task) (b : Book) (es fs : List Event) → EventsGoOn t b es → EventsGoOn t (replay t b es) fs → EventsGoOn t b (es ++ fs)
goes_append t b es fs (history, prompt, ready) (history', prompt', ready') = (IsHistory-append t b es fs history history', IsPrompt-append t b es fs prompt prompt', subst (IsBetweenTurns t) (sym (replay-append t b es fs)) ready')

-- an event before all flags are up, and before the last stage
goes_cons : (t : Task) (b : Book) (e : Event) (es : List Event) → Allowed t b e → all_improved t b ≡ false → 0 < b.stages_left → EventsGoOn t (after_event t b e) es → EventsGoOn t b (e ∷ es)
unfolding IsHistory IsPrompt replay all_improved
goes_cons t b e es allowed down left (history, prompt, ready) = ((allowed, history), ((λ up. let all = holds_below_all t.beliefs b.improved up in absurd (cc)), (λ none. absurd (omega arith)), prompt), ready)

pub kept_by_entered : (t : Task) (b : Book) (o : Option Member) → ((entered t b o).stages_left ≡ b.stages_left) × ((entered t b o).done ≡ b.done)
unfolding entered
kept_by_entered t b None = (refl, refl)
kept_by_entered t b (Some x) = (refl, refl)

module _ (t : Task) (lawful : IsLawful t.model) (some : 0 < t.beliefs) (pruning : Bool) where
  -- no flag is up after a publication
  flags_down : (b : Book) → ((k : ℕ) → b.improved k ≡ false) → all_improved t b ≡ false
  unfolding all_improved
  flags_down b down = by_test (holds_below t.beliefs b.improved) refl
    where
      by_test : (c : Bool) → holds_below t.beliefs b.improved ≡ c → c ≡ false
      by_test true e = let up = holds_below_at t.beliefs b.improved e 0 some in let low = down 0 in absurd (cc)
      by_test false e = refl

  pruning_goes : (b : Book) → IsKept t b → b.done ≡ false → 0 < b.stages_left → all_improved t b ≡ false → EventsGoOn t b (pruning_events t b)
  unfolding pruning_events IsHistory IsPrompt replay Allowed after_event all_improved
  pruning_goes b sound going left down = by_pairs (applying b.latest (dominated t.model b.latest)) (dominated_may_go t.model b.latest (tell_by_records t.model b.records b.latest (latest_members t b sound)))
    where
      by_pairs : (pairs : List (ℕ × ℕ)) → CanPrune t.model b.latest pairs → EventsGoOn t b (prune_of pairs)
      by_pairs [] can = (tt, tt, inr (going, left, down))
      by_pairs (pair ∷ pairs) can = goes_cons t b (prune (pair ∷ pairs)) [] (going, omega arith, can) down left (tt, tt, inr (going, left, down))

  -- what is due after a settle
  due_goes : (b : Book) → IsKept t b → b.done ≡ false → 0 < b.stages_left → EventsGoOn t b (due_events t pruning b)
  unfolding due_events all_improved IsHistory IsPrompt replay Allowed after_event
  due_goes b sound going left = by_flags (holds_below t.beliefs b.improved) refl
    where
      next : Book
      next = after_event t b publish

      by_flags : (c : Bool) → holds_below t.beliefs b.improved ≡ c → EventsGoOn t b (cond c (publish ∷ cond (eqb next.stages_left 0) (end ∷ []) (cond pruning (pruning_events t next) [])) [])
      by_flags false e = (tt, tt, inr (going, left, e))
      by_flags true e = published _ (after_publish (eqb next.stages_left 0) pruning refl)
        where
          down : all_improved t next ≡ false
          down = flags_down next (λ k. refl)

          all_up : (k : ℕ) → k < t.beliefs → b.improved k ≡ true
          all_up = holds_below_at t.beliefs b.improved e

          published : (es : List Event) → EventsGoOn t next es → EventsGoOn t b (publish ∷ es)
          published es (history, prompt, ready) = (((going, all_up), history), ((λ up. refl), (λ none. absurd (omega arith)), prompt), ready)

          after_publish : (c p : Bool) → eqb next.stages_left 0 ≡ c → EventsGoOn t next (cond c (end ∷ []) (cond p (pruning_events t next) []))
          after_publish true p f = (((going, eqb-true next.stages_left 0 f), tt), ((λ up. let all = holds_below_all t.beliefs next.improved up in let low = down in absurd (cc)), (λ none. refl), tt), inl refl)
          after_publish false true f = pruning_goes next (sound_after t lawful b publish sound (going, all_up)) going (positive next.stages_left f) down
          after_publish false false f = (tt, tt, inr (going, positive next.stages_left f, down))

  settled_allowed : (b : Book) (k : ℕ) → b.done ≡ false → k < t.beliefs → Allowed t b (settled_at t b k)
  unfolding settled_at Allowed
  settled_allowed b k going less = (going, less, omega (arith, length-append b.earlier (b.latest ∷ [])), subst (λ (edition : Edition). IsBackup t.model edition (t.samples k) (choice t.model b.latest (t.samples k)) (links_at t.model b.latest (t.samples k) (choice t.model b.latest (t.samples k)))) (sym (get_or-append_seam b.earlier b.latest [] b.latest)) (refl, refl))

  -- a settle that may come next, with what is due then
  pub settle_goes : (b : Book) (k e a : ℕ) (links : List ℕ) → IsKept t b → b.done ≡ false → 0 < b.stages_left → all_improved t b ≡ false → Allowed t b (settle k e a links) → EventsGoOn t b (settle k e a links ∷ due_events t pruning (after_event t b (settle k e a links)))
  unfolding after_event
  settle_goes b k e a links sound going left down allowed =
      let kept = kept_by_entered t (record b { records = b.records ++ settled_record t b a links ∷ [] }) (entering t b k (settled_member t b a links)) in
      goes_cons t b (settle k e a links) _ allowed down left
      (due_goes _ (sound_after t lawful b (settle k e a links) sound allowed) (kept.1 ∙ going) (subst (λ (n : ℕ). 0 < n) (sym kept.0) left))

  turn_goes : (b : Book) (taken : Marks) (word : ℕ) → IsKept t b → b.done ≡ false → 0 < b.stages_left → all_improved t b ≡ false → EventsGoOn t b (turn t pruning b taken word)
  unfolding turn settled_at
  turn_goes b taken word sound going left down = settle_goes b _ _ _ _ sound going left down (settled_allowed b (picked t b taken word) going (picked_below t b taken down word))

  pub one_thread_goes : (b : Book) (taken : Marks) (words : List ℕ) → IsKept t b → IsBetweenTurns t b → EventsGoOn t b (one_thread t pruning b taken words)
  unfolding one_thread IsHistory IsPrompt replay
  one_thread_goes b taken [] sound ready = (tt, tt, ready)
  one_thread_goes b taken (word ∷ words) sound (inl done) = subst (λ (c : Bool). EventsGoOn t b (cond c [] (turn t pruning b taken word ++ one_thread t pruning (replay t b (turn t pruning b taken word)) (marks_after t b taken word) words))) (sym done) (tt, tt, inl done)
  one_thread_goes b taken (word ∷ words) sound (inr (going, left, down)) =
      let first = turn_goes b taken word sound going left down in
      let rest = one_thread_goes (replay t b (turn t pruning b taken word)) (marks_after t b taken word) words (sound_replay t lawful b _ sound first.0) first.2 in
      subst (λ (c : Bool). EventsGoOn t b (cond c [] (turn t pruning b taken word ++ one_thread t pruning (replay t b (turn t pruning b taken word)) (marks_after t b taken word) words))) (sym going)
      (goes_append t b _ _ first rest)

-- a prune that may come next
pub prune_goes : (t : Task) (b : Book) → IsBetweenTurns t b → (pairs : List (ℕ × ℕ)) → Allowed t b (prune pairs) → EventsGoOn t b (prune pairs ∷ [])
unfolding Allowed IsHistory IsPrompt replay after_event all_improved
prune_goes t b (inl done) pairs allowed = absurd (let going = allowed.0 in cc)
prune_goes t b (inr (going, left, down)) pairs allowed = goes_cons t b (prune pairs) [] allowed down left (tt, tt, inr (going, left, down))

pub prompt_from_opening : (t : Task) → IsLawful t.model → 0 < t.beliefs → 0 < t.stages → (pruning : Bool) (taken : Marks) (words : List ℕ)
    → IsHistory t (opening t) (one_thread t pruning (opening t) taken words) × IsPrompt t (opening t) (one_thread t pruning (opening t) taken words)
unfolding opening
prompt_from_opening t lawful some stages pruning taken words =
    let goes = one_thread_goes t lawful some pruning (opening t) taken words (sound_opening t) (inr (refl, stages, flags_down t lawful some pruning (opening t) (λ k. refl))) in
    (goes.0, goes.1)

-- after the events of a run
pub settle_goes_after : SettleGoesOn
unfolding Allowed
settle_goes_after t lawful some es history (inl done) k e a links allowed pruning = absurd (let going = allowed.0 in cc)
settle_goes_after t lawful some es history (inr (going, left, down)) k e a links allowed pruning = settle_goes t lawful some pruning (replay t (opening t) es) k e a links (sound_replay t lawful (opening t) es (sound_opening t) history) going left down allowed

pub one_thread_goes_after : OneThreadGoesOn
one_thread_goes_after t lawful some es history ready pruning taken words = one_thread_goes t lawful some pruning (replay t (opening t) es) taken words (sound_replay t lawful (opening t) es (sound_opening t) history) ready
