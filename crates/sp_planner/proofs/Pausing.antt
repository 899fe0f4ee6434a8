-- The pauses of a run, and what is served at them.
use Rattle.std.proofs.Common.{◌≡◌, ◌∙◌, sym, ap, refl, subst, ℕ, List, [], ◌∷◌, ◌++◌, append_assoc, Bool, true, false, cond, MatchBool}
use Rattle.std.proofs.lemmas.List.{append-nil}
use Rattle.sp_theory.specs.Book.{Task, Event, opening}
use Rattle.sp_theory.specs.Runs.{replay}
use Rattle.sp_theory.specs.OneThread.{Marks, turn, marks_after}
use Rattle.sp_value.specs.Tasks.{TaskParts}
use Rattle.sp_core.specs.Books.{BookParts}
use Rattle.sp_planner.specs.Turns.{MarksAgree}
use Rattle.sp_planner.specs.Pauses.{is_pause, pauses_after, IsServedAt, IsServed, IsServedSoFar}
use Rattle.sp_planner.proofs.SameMarks.{turn_same, after_same}

-- marks that agree on the sampled beliefs lead to the same pauses
pub pauses_same : (t : Task) (pruning : Bool) (history : List Event) (m n : Marks) → MarksAgree t m n → (words : List ℕ) → pauses_after t pruning history m words ≡ pauses_after t pruning history n words
unfolding pauses_after
pauses_same t pruning history m n agree [] = refl
pauses_same t pruning history m n agree (word ∷ words) =
    let b = replay t (opening t) history in
    let events = turn_same t pruning b m n agree word in
    ap (λ (es : List Event). cond b.done [] (cond (is_pause t history (history ++ es)) ((history ++ es) ∷ []) [] ++ pauses_after t pruning (history ++ es) (marks_after t b m word) words)) events
    ∙ ap (λ (ps : List (List Event)). cond b.done [] (cond (is_pause t history (history ++ turn t pruning b n word)) ((history ++ turn t pruning b n word) ∷ []) [] ++ ps))
    (pauses_same t pruning (history ++ turn t pruning b n word) (marks_after t b m word) (marks_after t b n word) (after_same t pruning b m n agree word) words)

-- a finished run doesn't pause
pub pauses_over : (t : Task) (pruning : Bool) (history : List Event) (marks : Marks) (words : List ℕ) → (replay t (opening t) history).done ≡ true → pauses_after t pruning history marks words ≡ []
unfolding pauses_after
pauses_over t pruning history marks [] done = refl
pauses_over t pruning history marks (word ∷ words) done =
    let after = history ++ turn t pruning (replay t (opening t) history) marks word in
    ap (λ (c : Bool). cond c [] (cond (is_pause t history after) (after ∷ []) [] ++ pauses_after t pruning after (marks_after t (replay t (opening t) history) marks word) words)) done

pub pauses_none : (t : Task) (pruning : Bool) (history : List Event) (marks : Marks) → pauses_after t pruning history marks [] ≡ []
unfolding pauses_after
pauses_none t pruning history marks = refl

-- a turn, and the pause after it
pub pauses_turn : (t : Task) (pruning : Bool) (history after : List Event) (marks next : Marks) (word : ℕ) (words : List ℕ) → (replay t (opening t) history).done ≡ false
    → after ≡ history ++ turn t pruning (replay t (opening t) history) marks word → MarksAgree t next (marks_after t (replay t (opening t) history) marks word)
    → pauses_after t pruning history marks (word ∷ words) ≡ cond (is_pause t history after) (after ∷ []) [] ++ pauses_after t pruning after next words
unfolding pauses_after
pauses_turn t pruning history after marks next word words going is agree =
    let b = replay t (opening t) history in
    let last = history ++ turn t pruning b marks word in
    ap (λ (c : Bool). cond c [] (cond (is_pause t history last) (last ∷ []) [] ++ pauses_after t pruning last (marks_after t b marks word) words)) going
    ∙ ap (λ (es : List Event). cond (is_pause t history es) (es ∷ []) [] ++ pauses_after t pruning es (marks_after t b marks word) words) (sym is)
    ∙ ap (λ (ps : List (List Event)). cond (is_pause t history after) (after ∷ []) [] ++ ps) (sym (pauses_same t pruning after next (marks_after t b marks word) agree words))

module _ {S : Type 0} (serves : S → BookParts → S → Type 0) (t : TaskParts) where
  -- one more
  served_more : (histories : List (List Event)) (history : List Event) (s m e : S) → IsServed serves t histories s m → IsServedAt serves t history m e → IsServed serves t (histories ++ history ∷ []) s e
  served_more [] history s m e done at = (e, subst (λ (x : S). IsServedAt serves t history x e) done at, refl)
  served_more (first ∷ histories) history s m e (x, here, rest) at = (x, here, served_more histories history x m e rest at)

  -- where the run pauses, and where it doesn't
  pub served_step : (all left rest : List (List Event)) (history : List Event) (c : Bool) (s m e : S) → IsServedSoFar serves t all left s m → left ≡ cond c (history ∷ []) [] ++ rest
      → MatchBool c (IsServedAt serves t history m e) (e ≡ m) → IsServedSoFar serves t all rest s e
  served_step all left rest history true s m e so is at = record {
    past = so.past ++ history ∷ [];
    ahead = so.ahead ∙ ap (λ (ps : List (List Event)). so.past ++ ps) is ∙ sym (append_assoc so.past (history ∷ []) rest);
    served = served_more so.past history s m e so.served at;
  }
  served_step all left rest history false s m e so is same = record {
    past = so.past;
    ahead = so.ahead ∙ ap (λ (ps : List (List Event)). so.past ++ ps) is;
    served = subst (IsServed serves t so.past s) (sym same) so.served;
  }

  pub served_last : (all left : List (List Event)) (s e : S) → IsServedSoFar serves t all left s e → left ≡ [] → IsServed serves t all s e
  served_last all left s e so none = subst (λ (ps : List (List Event)). IsServed serves t ps s e) (sym (so.ahead ∙ ap (λ (ps : List (List Event)). so.past ++ ps) none ∙ append-nil so.past)) so.served
