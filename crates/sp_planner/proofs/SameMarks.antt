-- Marks that agree on the sampled beliefs lead to the same events.
use Rattle.std.proofs.Common.{◌≡◌, ◌∙◌, ap, refl, ℕ, ◌%◌, List, [], ◌∷◌, ◌++◌, length, get_or, Bool, true, false, cond, not, ◌||◌, eqb}
use Rattle.sp_theory.specs.Book.{Task, Book, Event, after_event}
use Rattle.sp_theory.specs.Runs.{replay}
use Rattle.sp_theory.specs.OneThread.{Marks, beliefs_without_mark, open_beliefs, picked, settled_at, all_improved, due_events, turn, marks_after, one_thread}
use Rattle.sp_core.proofs.Counting.{filter_same}
use Rattle.sp_planner.specs.Turns.{MarksAgree}

module _ (t : Task) (pruning : Bool) where
  module _ (b : Book) (m n : Marks) (agree : MarksAgree t m n) (word : ℕ) where
    fresh_same : beliefs_without_mark t (λ k. b.improved k || m k) ≡ beliefs_without_mark t (λ k. b.improved k || n k)
    fresh_same = filter_same (λ k. not (b.improved k || m k)) (λ k. not (b.improved k || n k)) t.beliefs (λ k less. ap (λ (c : Bool). not (b.improved k || c)) (agree k less))

    picked_same : picked t b m word ≡ picked t b n word
    unfolding picked open_beliefs
    picked_same = ap (λ (fresh : List ℕ). let open_now = cond (eqb (length fresh) 0) (beliefs_without_mark t b.improved) fresh in get_or open_now (word % length open_now) 0) fresh_same

    pub turn_same : turn t pruning b m word ≡ turn t pruning b n word
    unfolding turn
    turn_same = ap (λ (k : ℕ). settled_at t b k ∷ due_events t pruning (after_event t b (settled_at t b k))) picked_same

    pub after_same : MarksAgree t (marks_after t b m word) (marks_after t b n word)
    unfolding marks_after
    after_same j less = ap (λ (k : ℕ). cond {A = Marks} (all_improved t (after_event t b (settled_at t b k))) (λ (i : ℕ). false) (λ (i : ℕ). eqb i k || m i) j) picked_same ∙ by_test (all_improved t (after_event t b (settled_at t b (picked t b n word))))
      where
        by_test : (c : Bool) → cond {A = Marks} c (λ (i : ℕ). false) (λ (i : ℕ). eqb i (picked t b n word) || m i) j ≡ cond {A = Marks} c (λ (i : ℕ). false) (λ (i : ℕ). eqb i (picked t b n word) || n i) j
        by_test true = refl
        by_test false = ap (λ (c : Bool). eqb j (picked t b n word) || c) (agree j less)

  pub one_thread_same : (b : Book) (m n : Marks) → MarksAgree t m n → (words : List ℕ) → one_thread t pruning b m words ≡ one_thread t pruning b n words
  unfolding one_thread
  one_thread_same b m n agree [] = refl
  one_thread_same b m n agree (word ∷ words) =
      ap (λ (es : List Event). cond b.done [] (es ++ one_thread t pruning (replay t b es) (marks_after t b m word) words)) (turn_same b m n agree word)
      ∙ ap (λ (rest : List Event). cond b.done [] (turn t pruning b n word ++ rest)) (one_thread_same (replay t b (turn t pruning b n word)) (marks_after t b m word) (marks_after t b n word) (after_same b m n agree word) words)
