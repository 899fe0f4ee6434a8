-- What a prune does to a book.
use Rattle.std.specs.Prelude.{◌≡◌, ℕ, List, [], ◌∷◌, ◌++◌, length, slice_get, slice_index_or, ◌-◌, false, MatchBool, option_map}
use Rattle.std.specs.Arc.{arc_value}
use Rattle.sp_theory.specs.Book.{prune}
use Rattle.sp_theory.specs.OneThread.{applying}
use Rattle.sp_model.specs.Problem.{problem}
use Rattle.sp_value.specs.Editions.{EditionParts, members_in}
use Rattle.sp_core.specs.declared.answers.Pruned.{Pruned}
use Rattle.sp_core.specs.declared.answers.Pruned.TheVariants.{Dropped, Nothing, Over}
use Rattle.sp_core.specs.declared.answers.PruneError.{PruneError}
use Rattle.sp_core.specs.declared.answers.PruneError.TheVariants.{NotOurs, NoMemory}
use Rattle.sp_core.specs.Books.{BookParts, state_of}
use Rattle.sp_core.specs.Settling.{IsOurs}
use Rattle.sp_drops.specs.Drops.{left_by}
use Rattle.sp_core.specs.Dominated.{AreDominatedPairs}
use Rattle.sp_core.specs.Ledgers.{LedgerContents}

-- each pair names two different members of the edition, the first nowhere above the second
abbrev pub AreDominatedIn : EditionParts → List (ℕ × ℕ) → Type 0
AreDominatedIn e pairs = AreDominatedPairs (problem e.task.model) (members_in e) pairs

-- one book comes of another by a prune of these pairs
pub record IsPrunedBy (b : BookParts) (applied : List (ℕ × ℕ)) (d : BookParts) : Type 0 where
  pub task : d.task ≡ b.task
  pub history : d.history ≡ b.history ++ prune applied ∷ []
  pub editions : (e : EditionParts) × (d.editions ≡ b.editions ++ e ∷ [])
  pub taken : d.taken ≡ b.taken

-- the answer where these pairs apply, and the book then
abbrev pub IsPruneOf : BookParts → List (ℕ × ℕ) → Pruned → BookParts → Type 0
IsPruneOf b [] answer d = (answer ≡ Nothing) × (d ≡ b)
IsPruneOf b (pair ∷ pairs) answer d = (answer ≡ Dropped (length (pair ∷ pairs))) × IsPrunedBy b (pair ∷ pairs) d

-- the answer to pairs of members of the edition, and the book then: those that apply to the latest edition are pruned
abbrev pub IsPruned : BookParts → EditionParts → List (ℕ × ℕ) → Pruned → BookParts → Type 0
IsPruned b e pairs answer d =
    MatchBool (state_of b).done
    ((answer ≡ Over) × (d ≡ b))
    (IsOurs b e × IsPruneOf b (applying (state_of b).latest pairs) answer d)

-- a refusal, which comes only where the run isn't over
abbrev pub RefusesPrune : BookParts → EditionParts → PruneError → Type 0
RefusesPrune b e (NotOurs base kept) =
    ((state_of b).done ≡ false) × (¬ IsOurs b e) × (arc_value base ≡ e) × (option_map (λ k. arc_value k) kept ≡ slice_get b.editions e.number)
RefusesPrune b e NoMemory = (state_of b).done ≡ false

-- ---- on a ledger
-- the latest edition
abbrev pub latest_in : LedgerContents → EditionParts
latest_in c = slice_index_or c.editions (length c.editions - 1) (record { number = 0; task = c.task; members = [] })

-- the edition that the pairs leave
abbrev pub left_in : LedgerContents → List (ℕ × ℕ) → EditionParts
left_in c pairs = record { number = length c.editions; task = c.task; members = left_by pairs (latest_in c).members }

-- the contents after a prune of these pairs
abbrev pub pruned_in : LedgerContents → List (ℕ × ℕ) → LedgerContents
pruned_in c pairs = record c { events = c.events ++ prune pairs ∷ []; editions = c.editions ++ left_in c pairs ∷ [] }
