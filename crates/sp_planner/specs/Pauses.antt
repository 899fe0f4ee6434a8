-- Where a planning run pauses for other work, and what is done then.
use Rattle.std.specs.Prelude.{◌≡◌, ℕ, List, [], ◌∷◌, ◌++◌, length, Bool, cond, not, nat_lt, ◌&&◌}
use Rattle.sp_theory.specs.Book.{Task, Event, opening, editions}
use Rattle.sp_theory.specs.Runs.{replay}
use Rattle.sp_theory.specs.OneThread.{Marks, turn, marks_after}
use Rattle.sp_value.specs.Tasks.{TaskParts}
use Rattle.sp_core.specs.Books.{BookParts, IsBook}

-- a run pauses after a turn that has added an edition and doesn't end it
abbrev pub is_pause : Task → List Event → List Event → Bool
is_pause t before after = nat_lt (length (editions (replay t (opening t) before))) (length (editions (replay t (opening t) after))) && not (replay t (opening t) after).done

-- the histories at which it pauses after the turns of some words
unfoldable pub pauses_after : Task → Bool → List Event → Marks → List ℕ → List (List Event)
pauses_after t pruning history taken [] = []
pauses_after t pruning history taken (word ∷ words) =
    let b = replay t (opening t) history in
    let after = history ++ turn t pruning b taken word in
    cond b.done [] (cond (is_pause t history after) (after ∷ []) [] ++ pauses_after t pruning after (marks_after t b taken word) words)

-- all histories at which it pauses, the first one before any turn
abbrev pub pauses : Task → Bool → List Event → Marks → List ℕ → List (List Event)
pauses t pruning history taken words = cond (replay t (opening t) history).done [] (history ∷ pauses_after t pruning history taken words)

-- what is done at a book of the task that stands at that history
pub record IsServedAt {S : Type 0} (serves : S → BookParts → S → Type 0) (t : TaskParts) (history : List Event) (s e : S) : Type 0 where
  pub book : BookParts
  pub known : IsBook book
  pub task : book.task ≡ t
  pub at : book.history ≡ history
  pub served : serves s book e

-- what is done at these histories, one after another
abbrev pub IsServed : {S : Type 0} → (S → BookParts → S → Type 0) → TaskParts → List (List Event) → S → S → Type 0
IsServed {S} serves t [] s e = e ≡ s
IsServed {S} serves t (history ∷ histories) s e = (m : S) × IsServedAt serves t history s m × IsServed serves t histories m e

-- what has been done before the turn of word i: all pauses are those so far and those of the words left
pub record IsServedSoFar {S : Type 0} (serves : S → BookParts → S → Type 0) (t : TaskParts) (all : List (List Event)) (left : List (List Event)) (s e : S) : Type 0 where
  pub past : List (List Event)
  pub ahead : all ≡ past ++ left
  pub served : IsServed serves t past s e
