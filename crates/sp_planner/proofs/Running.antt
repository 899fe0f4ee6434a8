-- A run on its way, from word to word.
use Rattle.std.proofs.Common.{◌≡◌, ◌∙◌, sym, ap, refl, subst, arith, ℕ, suc, ◌+◌, ◌-◌, ◌<◌, ◌≤◌, List, [], ◌∷◌, ◌++◌, append_assoc, Bool, true, false, cond}
use Rattle.std.specs.Prelude.{map}
use Rattle.std.specs.List.{range_with_len}
use Rattle.std.proofs.lemmas.List.{append-nil}
use Rattle.rand_core.specs.Stream.{Stream, next_u64}
use Rattle.sp_theory.specs.Book.{Task, Book, Event, opening}
use Rattle.sp_theory.specs.Runs.{replay}
use Rattle.sp_theory.specs.OneThread.{Marks, turn, marks_after, one_thread}
use Rattle.sp_theory.proofs.Histories.{replay-append}
use Rattle.sp_value.specs.Tasks.{TaskParts, task_of}
use Rattle.sp_core.specs.Books.{BookParts, state_of}
use Rattle.sp_core.specs.Marks.{marks_of}
use Rattle.sp_sampler.specs.Words.{left_after, word_at, first_words}
use Rattle.sp_sampler.proofs.WordLemmas.{left_after-zero, left_after-suc}
use Rattle.sp_planner.specs.Turns.{IsTurned, IsUnderWay, IsRun, MarksAgree, words_from, events_with}
use Rattle.sp_planner.proofs.SameMarks.{one_thread_same}

-- the first word of those that are left
first_left : (i n : ℕ) (words : Stream) → i < n → words_from i n words ≡ word_at words i ∷ words_from (i + 1) n words
first_left i n words less = ap (λ (m : ℕ). map (word_at words) (range_with_len i m)) (more i n less)
  where
    more : (i n : ℕ) → i < n → n - i ≡ suc (n - (i + 1))
    more i n less = omega arith

-- a finished book
over : (t : Task) (pruning : Bool) (b : Book) (taken : Marks) (words : List ℕ) → b.done ≡ true → one_thread t pruning b taken words ≡ []
unfolding one_thread
over t pruning b taken [] done = refl
over t pruning b taken (word ∷ words) done = ap (λ (c : Bool). cond c [] (turn t pruning b taken word ++ one_thread t pruning (replay t b (turn t pruning b taken word)) (marks_after t b taken word) words)) done

-- one that isn't
goes_on : (t : Task) (pruning : Bool) (b : Book) (taken : Marks) (word : ℕ) (words : List ℕ) → b.done ≡ false
    → one_thread t pruning b taken (word ∷ words) ≡ turn t pruning b taken word ++ one_thread t pruning (replay t b (turn t pruning b taken word)) (marks_after t b taken word) words
unfolding one_thread
goes_on t pruning b taken word words going = ap (λ (c : Bool). cond c [] (turn t pruning b taken word ++ one_thread t pruning (replay t b (turn t pruning b taken word)) (marks_after t b taken word) words)) going

module _ (pruning : Bool) (start : BookParts) (n : ℕ) (words : Stream) where
  abbrev t : Task
  t = task_of start.task

  -- before any turn
  pub run_first : (left : Stream) → left ≡ words → IsUnderWay pruning start n words 0 start left
  run_first left same = record {
    task = refl;
    ahead = ap (λ (m : ℕ). events_with start.task pruning start (map (word_at words) (range_with_len 0 m))) (none n);
    stream = same ∙ sym (left_after-zero words);
  }
    where
      none : (n : ℕ) → n ≡ n - 0
      none n = omega arith

  -- a turn brings what its word brings
  pub state_more : (b d : BookParts) (word : ℕ) → b.task ≡ start.task → IsTurned pruning b word d → state_of d ≡ replay t (state_of b) (turn t pruning (state_of b) (marks_of b.taken) word)
  state_more b d word task next =
      (λ h. replay (task_of (next.task h)) (opening (task_of (next.task h))) (next.history h))
      ∙ replay-append (task_of b.task) (opening (task_of b.task)) b.history (turn (task_of b.task) pruning (state_of b) (marks_of b.taken) word)
      ∙ ap (λ (u : TaskParts). replay (task_of u) (state_of b) (turn (task_of u) pruning (state_of b) (marks_of b.taken) word)) task

  pub history_more : (b d : BookParts) (word : ℕ) → b.task ≡ start.task → IsTurned pruning b word d → d.history ≡ b.history ++ turn t pruning (state_of b) (marks_of b.taken) word
  history_more b d word task next = next.history ∙ ap (λ (u : TaskParts). b.history ++ turn (task_of u) pruning (state_of b) (marks_of b.taken) word) task

  pub marks_more : (b d : BookParts) (word : ℕ) → b.task ≡ start.task → IsTurned pruning b word d → MarksAgree t (marks_of d.taken) (marks_after t (state_of b) (marks_of b.taken) word)
  marks_more b d word task next = subst (λ (u : TaskParts). MarksAgree (task_of u) (marks_of d.taken) (marks_after (task_of u) (state_of b) (marks_of b.taken) word)) task next.taken

  turn_more : (b : BookParts) → b.task ≡ start.task → (state_of b).done ≡ false → (word : ℕ) (d : BookParts) → IsTurned pruning b word d → (ws : List ℕ) → events_with start.task pruning b (word ∷ ws) ≡ events_with start.task pruning d ws
  turn_more b task going word d next ws =
      let marks = marks_of b.taken in
      let events = turn t pruning (state_of b) marks word in
      let after : Marks = marks_after t (state_of b) marks word in
      let history = history_more b d word task next in
      let state = state_more b d word task next in
      ap (λ (es : List Event). b.history ++ es) (goes_on t pruning (state_of b) marks word ws going)
      ∙ sym (append_assoc b.history events (one_thread t pruning (replay t (state_of b) events) after ws))
      ∙ (λ h. sym history h ++ one_thread t pruning (sym state h) after ws)
      ∙ ap (λ (es : List Event). d.history ++ es) (sym (one_thread_same t pruning (state_of d) (marks_of d.taken) after (marks_more b d word task next) ws))

  module _ (i : ℕ) (less : i < n) (b : BookParts) (left : Stream) (run : IsUnderWay pruning start n words i b left) where
    next_stream : (next_u64 left).1 ≡ left_after (i + 1) words
    next_stream = ap (λ (s : Stream). (next_u64 s).1) run.stream ∙ sym (left_after-suc words i) ∙ ap (λ (k : ℕ). left_after k words) (next i)
      where
        next : (i : ℕ) → suc i ≡ i + 1
        next i = omega arith

    pub word_here : (word : ℕ) (after : Stream) → (word, after) ≡ next_u64 left → word ≡ word_at words i
    word_here word after drawn = ap (λ (p : ℕ × Stream). p.0) drawn ∙ ap (λ (s : Stream). (next_u64 s).0) run.stream

    pub words_here : words_from i n words ≡ word_at words i ∷ words_from (i + 1) n words
    words_here = first_left i n words less

    pub run_more : (d : BookParts) (word : ℕ) (after : Stream) → (word, after) ≡ next_u64 left → (state_of b).done ≡ false → IsTurned pruning b word d → IsUnderWay pruning start n words (i + 1) d after
    run_more d word after drawn going turned =
        let next : IsTurned pruning b (word_at words i) d = subst (λ (w : ℕ). IsTurned pruning b w d) (word_here word after drawn) turned in
        record {
          task = next.task ∙ run.task;
          ahead = run.ahead ∙ ap (events_with start.task pruning b) words_here ∙ turn_more b run.task going (word_at words i) d next (words_from (i + 1) n words);
          stream = ap (λ (p : ℕ × Stream). p.1) drawn ∙ next_stream;
        }

  -- all words are used up, or the book is finished
  pub run_last : (i : ℕ) → n ≤ i → (b : BookParts) (left : Stream) → IsUnderWay pruning start n words i b left → IsRun pruning start (first_words n words) b
  unfolding one_thread
  run_last i many b left run = record {
    task = run.task;
    history = sym (run.ahead ∙ ap (λ (m : ℕ). b.history ++ one_thread t pruning (state_of b) (marks_of b.taken) (map (word_at words) (range_with_len i m))) (none n i many) ∙ append-nil b.history);
  }
    where
      none : (n i : ℕ) → n ≤ i → n - i ≡ 0
      none n i many = omega arith

  pub run_over : (i : ℕ) (b : BookParts) (left : Stream) → IsUnderWay pruning start n words i b left → (state_of b).done ≡ true → IsRun pruning start (first_words n words) b
  run_over i b left run done = record {
    task = run.task;
    history = sym (run.ahead ∙ ap (λ (es : List Event). b.history ++ es) (over t pruning (state_of b) (marks_of b.taken) (words_from i n words) done) ∙ append-nil b.history);
  }
