-- What is done to the book while the lock is held: one settle with what is due then, one prune, or no event.
use Rattle.std.specs.Prelude.{◌≡◌, ◌⊎◌, ℕ, ◌-◌, ◌<◌, ◌≤◌, List, length, slice_get, Some, true, false}
use Rattle.logbook.specs.Pages.{Book}
use Rattle.sp_value.specs.Tasks.{TaskParts}
use Rattle.sp_value.specs.Editions.{EditionParts}
use Rattle.sp_value.specs.Candidates.{CandidateParts, IsCandidate}
use Rattle.sp_core.specs.declared.answers.Settled.{Settled}
use Rattle.sp_core.specs.declared.answers.Pruned.{Pruned}
use Rattle.sp_core.specs.declared.answers.Pruned.TheVariants.{Nothing}
use Rattle.sp_core.specs.Books.{BookParts, state_of}
use Rattle.sp_core.specs.Settling.{IsOurs, IsSettled}
use Rattle.sp_core.specs.Pruning.{IsPruned}
use Rattle.sp_publish.specs.Published.{PublishedList, newest_in}
use Rattle.sp_workers.specs.declared.sections.Look.{Look}
use Rattle.sp_workers.specs.declared.sections.Look.TheVariants.{Over, Examined, Newer}

-- no event was recorded
pub record HasSameEvents (b d : BookParts) : Type 0 where
  pub task : d.task ≡ b.task
  pub history : d.history ≡ b.history
  pub editions : d.editions ≡ b.editions

-- the edition is the latest one of the book
abbrev pub IsLatest : BookParts → EditionParts → Type 0
IsLatest b e = slice_get b.editions (length b.editions - 1) ≡ Some e

-- ---- taking work
-- a sampled belief of the task, and what was seen of a list whose newest edition is of it
pub record IsWorkOf (t : TaskParts) (belief : ℕ) (seen : PublishedList) : Type 0 where
  pub below : belief < t.options.beliefs
  pub task : (base : EditionParts) → newest_in seen ≡ Some base → base.task ≡ t

-- ---- settling
-- a backup at the belief on the latest edition is settled
pub record IsSettledAnew (b : BookParts) (belief : ℕ) (answer : Settled) (d : BookParts) : Type 0 where
  pub candidate : CandidateParts
  pub known : IsCandidate candidate
  pub belief_is : candidate.belief ≡ belief
  pub base : IsLatest b candidate.base
  pub settled : IsSettled b candidate answer d

-- the candidate is settled; where its base isn't one of the book's editions, a backup at its belief on the latest edition is
abbrev pub IsSettledFor : BookParts → CandidateParts → Settled → BookParts → Type 0
IsSettledFor b c answer d = IsSettled b c answer d ⊎ ((¬ IsOurs b c.base) × IsSettledAnew b c.belief answer d)

-- one settle for the candidate, or no change
abbrev pub MaySettle : BookParts → CandidateParts → BookParts → Type 0
MaySettle b c d = (d ≡ b) ⊎ ((answer : Settled) × IsSettledFor b c answer d)

-- ---- pruning
-- the pairs are pruned; where their base isn't one of the book's editions, nothing is
abbrev pub IsPrunedFor : BookParts → EditionParts → List (ℕ × ℕ) → Pruned → BookParts → Type 0
IsPrunedFor b e pairs answer d = IsPruned b e pairs answer d ⊎ ((¬ IsOurs b e) × (answer ≡ Nothing) × (d ≡ b))

-- one prune of the pairs, or no change
abbrev pub MayPrune : BookParts → EditionParts → List (ℕ × ℕ) → BookParts → Type 0
MayPrune b e pairs d = (d ≡ b) ⊎ ((answer : Pruned) × IsPrunedFor b e pairs answer d)

-- ---- looking
-- whether there is something to prune: not where the run is over or no worker is at work; not where the latest
-- edition is one of those up to the number that was examined; else that edition, as the newest one of the list
abbrev pub IsLook : Book → BookParts → ℕ → ℕ → Look → Type 0
IsLook list b working examined Over = ((state_of b).done ≡ true) ⊎ (working ≡ 0)
IsLook list b working examined Examined = ((state_of b).done ≡ false) × (0 < working) × (length b.editions - 1 ≤ examined)
IsLook list b working examined (Newer seen) =
    ((state_of b).done ≡ false) × (0 < working) × (examined < length b.editions - 1) × (seen.list ≡ list) × (seen.editions ≡ b.editions)
