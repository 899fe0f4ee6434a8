-- The run that one thread makes: dominated members, the belief that a word picks, and the events.
use Rattle.std.proofs.Common.{true, ◌≡◌, ◌⊎◌, ◌<◌, ℕ, ◌%◌, List, [], ◌∷◌, ◌++◌, length, get_or, Bool, false, cond, not, ◌||◌, ◌&&◌, eqb}
use Rattle.std.specs.Prelude.{int_lt, nat_lt, filter}
use Rattle.std.specs.List.{range_with_len, list_any, flat_map}
use Rattle.sp_theory.specs.Sums.{holds_below}
use Rattle.sp_theory.specs.Points.{holds_over}
use Rattle.sp_theory.specs.Model.{Model}
use Rattle.sp_theory.specs.Values.{Member, Edition}
use Rattle.sp_theory.specs.Backup.{choice, links_at}
use Rattle.sp_theory.specs.Book.{Task, Book, Event, settle, publish, prune, end, without, after_event}
use Rattle.sp_theory.specs.Runs.{replay}

-- ---- dominated members
-- x is at no state above y
unfoldable pub nowhere_above : Model → Member → Member → Bool
nowhere_above m x y = holds_over m.sizes (λ s. not (int_lt (y.vector s) (x.vector s)))

-- x may go for y: another member under which it is, and of two equal ones the greater id goes
unfoldable pub yields : Model → Member → Member → Bool
yields m x y = not (eqb x.id y.id) && (nowhere_above m x y && (not (nowhere_above m y x) || nat_lt y.id x.id))

-- the least of these ids
unfoldable pub least_id : ℕ → List Member → ℕ
least_id id [] = id
least_id id (y ∷ ys) = least_id (cond (nat_lt y.id id) y.id id) ys

-- x with the least id of those, where there is one
abbrev pub pair_of : Member → List Member → List (ℕ × ℕ)
pair_of x [] = []
pair_of x (y ∷ ys) = (x.id, least_id y.id ys) ∷ []

-- the dominated members of an edition: each that may go, in order, with the least id of the edition for which it may
unfoldable pub dominated : Model → Edition → List (ℕ × ℕ)
dominated m edition = flat_map (λ x. pair_of x (filter (yields m x) edition)) edition

-- the pairs that apply, in order: both members are present in what the pairs before have left
unfoldable pub applying : Edition → List (ℕ × ℕ) → List (ℕ × ℕ)
applying edition [] = []
applying edition ((x, y) ∷ pairs) = cond (list_any (λ z. eqb z.id x) edition && list_any (λ z. eqb z.id y) edition) ((x, y) ∷ applying (without edition x) pairs) (applying edition pairs)

-- ---- picking a belief
-- beliefs as a mark on their numbers
abbrev pub Marks : Type 0
Marks = ℕ → Bool

-- the beliefs without a mark, in order
abbrev pub beliefs_without_mark : Task → Marks → List ℕ
beliefs_without_mark t marks = filter (λ k. not (marks k)) (range_with_len 0 t.beliefs)

-- the beliefs to pick from: neither improved nor taken; where there is none, not improved
unfoldable pub open_beliefs : Task → Book → Marks → List ℕ
open_beliefs t b taken =
    let fresh = beliefs_without_mark t (λ k. b.improved k || taken k) in
    cond (eqb (length fresh) 0) (beliefs_without_mark t b.improved) fresh

-- the one at the word modulo their count
unfoldable pub picked : Task → Book → Marks → ℕ → ℕ
picked t b taken word = get_or (open_beliefs t b taken) (word % length (open_beliefs t b taken)) 0

-- ---- the events
-- the backup at the belief on the latest edition
unfoldable pub settled_at : Task → Book → ℕ → Event
settled_at t b k =
    let w = t.samples k in
    let a = choice t.model b.latest w in
    settle k (length b.earlier) a (links_at t.model b.latest w a)

-- the prune of these pairs, if there are any
abbrev pub prune_of : List (ℕ × ℕ) → List Event
prune_of [] = []
prune_of (pair ∷ pairs) = prune (pair ∷ pairs) ∷ []

-- the prune of the dominated pairs of the latest edition that apply
unfoldable pub pruning_events : Task → Book → List Event
pruning_events t b = prune_of (applying b.latest (dominated t.model b.latest))

-- the test of all flags
unfoldable pub all_improved : Task → Book → Bool
all_improved t b = holds_below t.beliefs b.improved

-- what is due where all flags are up: the publication, and then the end, or with pruning a prune
unfoldable pub due_events : Task → Bool → Book → List Event
due_events t pruning b =
    let next = after_event t b publish in
    cond (all_improved t b) (publish ∷ cond (eqb next.stages_left 0) (end ∷ []) (cond pruning (pruning_events t next) [])) []

-- a book between turns: done, or with a stage left and a flag down, so that neither a publication nor the end is due
abbrev pub IsBetweenTurns : Task → Book → Type 0
IsBetweenTurns t b = (b.done ≡ true) ⊎ ((b.done ≡ false) × (0 < b.stages_left) × (all_improved t b ≡ false))

-- one turn: a settle at the picked belief, and what is due then
unfoldable pub turn : Task → Bool → Book → Marks → ℕ → List Event
turn t pruning b taken word =
    let first = settled_at t b (picked t b taken word) in
    first ∷ due_events t pruning (after_event t b first)

-- the marks after a turn: the picked belief is taken, and a publication clears all marks
unfoldable pub marks_after : Task → Book → Marks → ℕ → Marks
marks_after t b taken word =
    let k = picked t b taken word in
    cond (all_improved t (after_event t b (settled_at t b k))) (λ j. false) (λ j. eqb j k || taken j)

-- the events of one thread, a turn for each word while the book is not done
unfoldable pub one_thread : Task → Bool → Book → Marks → List ℕ → List Event
one_thread t pruning b taken [] = []
one_thread t pruning b taken (word ∷ words) =
    let events = turn t pruning b taken word in
    cond b.done [] (events ++ one_thread t pruning (replay t b events) (marks_after t b taken word) words)
