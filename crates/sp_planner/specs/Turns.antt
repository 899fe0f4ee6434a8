-- What a turn does to a book.
use Rattle.std.specs.Prelude.{◌≡◌, ℕ, ◌+◌, ◌-◌, ◌<◌, ◌++◌, [], ◌∷◌, List, length, map, replicate, Bool, cond, false, MatchBool}
use Rattle.std.specs.List.{range_with_len}
use mathlib.Core.List.{IsPrefix}
use Rattle.rand_core.specs.Stream.{Stream}
use Rattle.sp_theory.specs.Book.{Task, Book, Event, after_event}
use Rattle.sp_theory.specs.OneThread.{Marks, settled_at, all_improved, due_events, turn, marks_after, pruning_events, one_thread}
use Rattle.sp_value.specs.Tasks.{TaskParts, task_of}
use Rattle.sp_core.specs.Books.{BookParts, state_of}
use Rattle.sp_core.specs.Marks.{marks_of}
use Rattle.sp_sampler.specs.Words.{left_after, word_at, first_words}

-- one book stands later in the run of another
pub record IsLaterBook (b d : BookParts) : Type 0 where
  pub task : d.task ≡ b.task
  pub more : List Event
  pub history : d.history ≡ b.history ++ more
  -- its editions, and more of them if any
  pub editions : IsPrefix b.editions d.editions

-- ---- the backup
-- the book right after the settle at a belief on its latest edition
abbrev pub settled_state : BookParts → ℕ → Book
settled_state b k = after_event (task_of b.task) (state_of b) (settled_at (task_of b.task) (state_of b) k)

-- whether a publication is due then
abbrev pub publishes : BookParts → ℕ → Bool
publishes b k = all_improved (task_of b.task) (settled_state b k)

-- one book comes of another by the backup at a belief on the latest edition, with the publication and the end that are due then. A publication adds an edition, and no belief is taken then
pub record IsBackedUp (b : BookParts) (k : ℕ) (d : BookParts) : Type 0 where
  pub task : d.task ≡ b.task
  pub history : d.history ≡ b.history ++ settled_at (task_of b.task) (state_of b) k ∷ due_events (task_of b.task) false (settled_state b k)
  pub count : length d.editions ≡ length b.editions + cond (publishes b k) 1 0
  pub taken : d.taken ≡ cond (publishes b k) (replicate (length b.taken) false) b.taken

-- ---- the prune
-- the prune that is due after a publication, where pruning is asked for and the book isn't finished
abbrev pub prune_due : Bool → BookParts → List Event
prune_due pruning b = cond (state_of b).done [] (cond pruning (pruning_events (task_of b.task) (state_of b)) [])

-- one book comes of another by it
pub record IsPruning (pruning : Bool) (b d : BookParts) : Type 0 where
  pub task : d.task ≡ b.task
  pub history : d.history ≡ b.history ++ prune_due pruning b
  pub taken : d.taken ≡ b.taken

-- ---- the turn
-- the same mark on each sampled belief
abbrev pub MarksAgree : Task → Marks → Marks → Type 0
MarksAgree t a b = (k : ℕ) → k < t.beliefs → a k ≡ b k

-- one book comes of another by a turn of one thread
pub record IsTurned (pruning : Bool) (b : BookParts) (word : ℕ) (d : BookParts) : Type 0 where
  pub task : d.task ≡ b.task
  pub history : d.history ≡ b.history ++ turn (task_of b.task) pruning (state_of b) (marks_of b.taken) word
  pub taken : MarksAgree (task_of b.task) (marks_of d.taken) (marks_after (task_of b.task) (state_of b) (marks_of b.taken) word)

-- a book after a turn: a finished one is as it was
abbrev pub IsTurn : Bool → BookParts → ℕ → BookParts → Type 0
IsTurn pruning b word d = MatchBool (state_of b).done (d ≡ b) (IsTurned pruning b word d)

-- ---- the run
-- the words from number i on, of the first n
abbrev pub words_from : ℕ → ℕ → Stream → List ℕ
words_from i n words = map (word_at words) (range_with_len i (n - i))

-- what words bring after the events of a book
abbrev pub events_with : TaskParts → Bool → BookParts → List ℕ → List Event
events_with t pruning b words = b.history ++ one_thread (task_of t) pruning (state_of b) (marks_of b.taken) words

-- a run on its way from a book, before the turn of word i: the events so far, and those that the words left bring, are what all words bring
pub record IsUnderWay (pruning : Bool) (start : BookParts) (n : ℕ) (words : Stream) (i : ℕ) (b : BookParts) (left : Stream) : Type 0 where
  pub task : b.task ≡ start.task
  pub ahead : events_with start.task pruning start (first_words n words) ≡ events_with start.task pruning b (words_from i n words)
  pub stream : left ≡ left_after i words

-- one book comes of another by all turns of these words
pub record IsRun (pruning : Bool) (b : BookParts) (words : List ℕ) (d : BookParts) : Type 0 where
  pub task : d.task ≡ b.task
  pub history : d.history ≡ events_with b.task pruning b words
