-- What a settle does to a book.
use Rattle.std.specs.Prelude.{◌≡◌, ℤ, List, ◌∷◌, ◌++◌, length, replicate, slice_get, Bool, false, cond, MatchBool, Some, option_map}
use Rattle.std.specs.Arc.{arc_value}
use Rattle.sp_theory.specs.Values.{greatest_member}
use Rattle.sp_theory.specs.Book.{Event, settle, settled_member, after_event}
use Rattle.sp_theory.specs.OneThread.{all_improved, due_events}
use Rattle.sp_value.specs.Tasks.{TaskParts, task_of}
use Rattle.sp_value.specs.Editions.{EditionParts}
use Rattle.sp_value.specs.Candidates.{CandidateParts}
use Rattle.sp_core.specs.declared.answers.Settled.{Settled}
use Rattle.sp_core.specs.declared.answers.Settled.TheVariants.{Added, Kept, Late, Over}
use Rattle.sp_core.specs.declared.answers.SettleError.{SettleError}
use Rattle.sp_core.specs.declared.answers.SettleError.TheVariants.{NotOurs, NoMemory}
use Rattle.sp_dd.specs.Func.{Func}
use Rattle.sp_model.specs.Problem.{vector_of}
use Rattle.sp_ledger.specs.Accounts.{AreWorths, by_values}
use Rattle.sp_core.specs.Books.{BookParts, state_of}

-- the edition is one of the book's
abbrev pub IsOurs : BookParts → EditionParts → Type 0
IsOurs b e = slice_get b.editions e.number ≡ Some e

-- the event that records the candidate
abbrev pub settle_of : CandidateParts → Event
settle_of c = settle c.belief c.base.number c.action c.links

-- the event, and what is due after it: a publication where all flags are up then, and the end where no stage is left then
abbrev pub events_for : BookParts → CandidateParts → List Event
events_for b c = settle_of c ∷ due_events (task_of b.task) false (after_event (task_of b.task) (state_of b) (settle_of c))

-- late, added or kept, by the values at its belief
abbrev pub answer_for : BookParts → CandidateParts → Settled
answer_for b c =
    by_values (task_of b.task) (state_of b) c.belief (settled_member (task_of b.task) (state_of b) c.action c.links)
    Late
    (Added (length (state_of b).records))
    (Kept (greatest_member (task_of b.task).model (state_of b).latest ((task_of b.task).samples c.belief)).id)

-- no mark where a publication is among the events, else the marks that were
abbrev pub taken_after : BookParts → CandidateParts → List Bool
taken_after b c = cond (all_improved (task_of b.task) (after_event (task_of b.task) (state_of b) (settle_of c))) (replicate (length b.taken) false) b.taken

-- one book comes of another by a candidate
pub record IsSettledBy (b : BookParts) (c : CandidateParts) (d : BookParts) : Type 0 where
  pub task : d.task ≡ b.task
  pub history : d.history ≡ b.history ++ events_for b c
  pub editions : (more : List EditionParts) × (d.editions ≡ b.editions ++ more)
  pub taken : d.taken ≡ taken_after b c

-- the answer to a candidate, and the book then
abbrev pub IsSettled : BookParts → CandidateParts → Settled → BookParts → Type 0
IsSettled b c answer d =
    MatchBool (state_of b).done
    ((answer ≡ Over) × (d ≡ b))
    (IsOurs b c.base × (answer ≡ answer_for b c) × IsSettledBy b c d)

-- what a vector is worth at each sampled belief of a task
pub record AreSampledWorths (t : TaskParts) (vector : Func) (worths : List ℤ) : Type 0 where
  pub count : length worths ≡ t.options.beliefs
  pub each : AreWorths (task_of t) (vector_of t.model vector) worths

-- a refusal of the candidate, which comes only where the run isn't over
abbrev pub RefusesSettle : BookParts → CandidateParts → SettleError → Type 0
RefusesSettle b c (NotOurs candidate kept) =
    ((state_of b).done ≡ false) × (¬ IsOurs b c.base) × (candidate ≡ c) × (option_map (λ e. arc_value e) kept ≡ slice_get b.editions c.base.number)
RefusesSettle b c (NoMemory candidate) = ((state_of b).done ≡ false) × (candidate ≡ c)
