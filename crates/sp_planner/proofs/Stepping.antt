-- One turn of a run, with what is served after it.
use Rattle.std.proofs.Common.{◌≡◌, ◌∙◌, sym, ap, refl, subst, arith, ℕ, ◌+◌, ◌-◌, ◌<◌, ◌≤◌, List, [], ◌∷◌, ◌++◌, length, map, Bool, true, false, cond, not, ◌&&◌, nat_lt, MatchBool}
use Rattle.std.specs.List.{range_with_len}
use Rattle.std.proofs.lemmas.List.{length-map}
use Rattle.std.proofs.lemmas.Bool.Decides.{Decides-ltb}
use Rattle.rand_core.specs.Stream.{Stream, next_u64}
use Rattle.sp_theory.specs.Book.{Event, opening, editions}
use Rattle.sp_theory.specs.Runs.{replay}
use Rattle.sp_theory.specs.OneThread.{turn, marks_after}
use Rattle.sp_theory.proofs.BooksAgreement.{editions-length}
use Rattle.sp_model.specs.Problem.{problem}
use Rattle.sp_value.specs.Tasks.{TaskParts, task_of}
use Rattle.sp_value.specs.Editions.{members_in}
use Rattle.sp_core.specs.Books.{BookParts, IsBook, state_of}
use Rattle.sp_core.specs.Marks.{marks_of}
use Rattle.sp_sampler.specs.Words.{word_at, first_words}
use Rattle.sp_planner.specs.Turns.{IsTurn, IsTurned, IsUnderWay, MarksAgree, words_from}
use Rattle.sp_planner.specs.Pauses.{is_pause, pauses_after, pauses, IsServedAt, IsServedSoFar}
use Rattle.sp_planner.proofs.Running.{history_more, marks_more, word_here, words_here}
use Rattle.sp_planner.proofs.Pausing.{pauses_turn, served_step}

pub turned_of : (pruning : Bool) (b : BookParts) (word : ℕ) (d : BookParts) → (state_of b).done ≡ false → IsTurn pruning b word d → IsTurned pruning b word d
turned_of pruning b word d going turned = subst (λ (c : Bool). MatchBool c (d ≡ b) (IsTurned pruning b word d)) going turned

pub turn_task : (pruning : Bool) (b : BookParts) (word : ℕ) (d : BookParts) → IsTurn pruning b word d → d.task ≡ b.task
turn_task pruning b word d turned = by_state (state_of b).done turned
  where
    by_state : (c : Bool) → MatchBool c (d ≡ b) (IsTurned pruning b word d) → d.task ≡ b.task
    by_state true same = ap (λ (x : BookParts). x.task) same
    by_state false turned = turned.task

-- ---- whether a run pauses

-- a book has as many editions as its history leads to
count_is : (b : BookParts) → IsBook b → length b.editions ≡ length (editions (state_of b))
count_is b is = sym (length-map b.editions members_in) ∙ editions-length (problem b.task.model) (map members_in b.editions) (editions (state_of b)) is.editions

module _ (b d : BookParts) (is : IsBook b) (new : IsBook d) (task : d.task ≡ b.task) where
  pause_is : is_pause (task_of b.task) b.history d.history ≡ (nat_lt (length b.editions) (length d.editions) && not (state_of d).done)
  pause_is =
      let same = ap (λ (u : TaskParts). replay (task_of u) (opening (task_of u)) d.history) (sym task) in
      λ h. nat_lt (sym (count_is b is) h) (by_count h) && not (same h).done
    where
      by_count : length (editions (replay (task_of b.task) (opening (task_of b.task)) d.history)) ≡ length d.editions
      by_count = ap (λ (u : TaskParts). length (editions (replay (task_of u) (opening (task_of u)) d.history))) (sym task) ∙ sym (count_is d new)

  pub pauses_here : length b.editions < length d.editions → (state_of d).done ≡ false → is_pause (task_of b.task) b.history d.history ≡ true
  pauses_here more going =
      pause_is ∙ ap (λ (c : Bool). c && not (state_of d).done) ((Decides-ltb (length b.editions) (length d.editions)).1 more) ∙ ap not going

  pub goes_silently : length d.editions ≤ length b.editions → is_pause (task_of b.task) b.history d.history ≡ false
  goes_silently few = pause_is ∙ ap (λ (c : Bool). c && not (state_of d).done) (low (nat_lt (length b.editions) (length d.editions)) refl)
    where
      low : (c : Bool) → nat_lt (length b.editions) (length d.editions) ≡ c → nat_lt (length b.editions) (length d.editions) ≡ false
      low true e = absurd (omega (arith, few, (Decides-ltb (length b.editions) (length d.editions)).0 e))
      low false e = e

  pub ends_silently : (state_of d).done ≡ true → is_pause (task_of b.task) b.history d.history ≡ false
  ends_silently done = pause_is ∙ ap (λ (c : Bool). nat_lt (length b.editions) (length d.editions) && not c) done ∙ none (nat_lt (length b.editions) (length d.editions))
    where
      none : (c : Bool) → (c && false) ≡ false
      none true = refl
      none false = refl

pub served_there : (c : Bool) (X Y : Type 0) → c ≡ true → X → MatchBool c X Y
served_there true X Y e x = x
served_there false X Y e x = absurd (cc)

pub served_not : (c : Bool) (X Y : Type 0) → c ≡ false → Y → MatchBool c X Y
served_not false X Y e y = y
served_not true X Y e y = absurd (cc)

-- ---- what has been served

match_map : (c : Bool) (X X' Y : Type 0) → (X → X') → MatchBool c X Y → MatchBool c X' Y
match_map true X X' Y f x = f x
match_map false X X' Y f y = y

module _ {S : Type 0} (serves : S → BookParts → S → Type 0) (pruning : Bool) (start : BookParts) (n : ℕ) (words : Stream) where
  -- before the first turn
  pub first_served : IsBook start → (state_of start).done ≡ false → (s e : S) → serves s start e
      → IsServedSoFar serves start.task (pauses (task_of start.task) pruning start.history (marks_of start.taken) (first_words n words)) (pauses_after (task_of start.task) pruning start.history (marks_of start.taken) (words_from 0 n words)) s e
  first_served known going s e at = record {
    past = start.history ∷ [];
    ahead = ap (λ (c : Bool). cond c [] (start.history ∷ pauses_after (task_of start.task) pruning start.history (marks_of start.taken) (first_words n words))) going
        ∙ ap (λ (m : ℕ). start.history ∷ pauses_after (task_of start.task) pruning start.history (marks_of start.taken) (map (word_at words) (range_with_len 0 m))) (none n);
    served = (e, record { book = start; known = known; task = refl; at = refl; served = at }, refl);
  }
    where
      none : (n : ℕ) → n ≡ n - 0
      none n = omega arith

  -- a turn more
  pub turn_served : (i : ℕ) → i < n → (b : BookParts) (left : Stream) → IsUnderWay pruning start n words i b left → (d : BookParts) (word : ℕ) (after : Stream) → (word, after) ≡ next_u64 left → (state_of b).done ≡ false → IsTurned pruning b word d → IsBook d
      → (all : List (List Event)) (s m e : S) → IsServedSoFar serves start.task all (pauses_after (task_of start.task) pruning b.history (marks_of b.taken) (words_from i n words)) s m
      → MatchBool (is_pause (task_of b.task) b.history d.history) (serves m d e) (e ≡ m)
      → IsServedSoFar serves start.task all (pauses_after (task_of start.task) pruning d.history (marks_of d.taken) (words_from (i + 1) n words)) s e
  turn_served i less b left run d word after drawn going turned known all s m e so served =
      let t = task_of start.task in
      let here = word_here pruning start n words i less b left run word after drawn in
      let rest = pauses_after t pruning d.history (marks_of d.taken) (words_from (i + 1) n words) in
      let still : (replay t (opening t) b.history).done ≡ false = ap (λ (u : TaskParts). (replay (task_of u) (opening (task_of u)) b.history).done) (sym run.task) ∙ going in
      let state = ap (λ (u : TaskParts). replay (task_of u) (opening (task_of u)) b.history) run.task in
      let marks = marks_of b.taken in
      let is = history_more pruning start n words b d word run.task turned ∙ (λ h. b.history ++ turn t pruning (state h) marks (here h)) in
      let agree : MarksAgree t (marks_of d.taken) (marks_after t (replay t (opening t) b.history) marks (word_at words i)) = λ j low. marks_more pruning start n words b d word run.task turned j low ∙ (λ h. marks_after t (state h) marks (here h) j) in
      served_step serves start.task all (pauses_after t pruning b.history marks (words_from i n words)) rest d.history (is_pause t b.history d.history) s m e so
      (ap (pauses_after t pruning b.history marks) (words_here pruning start n words i less b left run) ∙ pauses_turn t pruning b.history d.history marks (marks_of d.taken) (word_at words i) (words_from (i + 1) n words) still is agree)
      (match_map (is_pause t b.history d.history) (serves m d e) (IsServedAt serves start.task d.history m e) (e ≡ m)
      (λ at. record { book = d; known = known; task = turned.task ∙ run.task; at = refl; served = at })
      (subst (λ (u : TaskParts). MatchBool (is_pause (task_of u) b.history d.history) (serves m d e) (e ≡ m)) run.task served))
