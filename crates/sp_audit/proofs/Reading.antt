-- What is read of a replay.
use Rattle.std.proofs.Common.{◌≡◌, refl, ℕ, ◌<◌, length, get_or, Bool, cond, Some}
use Rattle.std.specs.Prelude.{ℤ, int_lt, slice_get, List}
use Rattle.sp_dd.specs.Func.{Func}
use Rattle.sp_theory.specs.Values as theory
use Rattle.sp_theory.specs.Book.{Event, opening}
use Rattle.sp_theory.specs.Runs.{replay}
use Rattle.sp_model.specs.Problem.{problem, vector_of}
use Rattle.sp_value.specs.Tasks.{TaskParts, task_of, weights_at}
use Rattle.sp_value.specs.Candidates.{CandidateParts, IsCandidate}
use Rattle.sp_ledger.specs.declared.flags.Choice.{Choice}
use Rattle.sp_ledger.specs.declared.flags.Choice.TheVariants.{Neither, New, Old}
use Rattle.sp_ledger.proofs.Numbers as numbers
use Rattle.sp_ledger.proofs.Ours.{own_belief}
use Rattle.sp_ledger.proofs.Reading as reading
use Rattle.sp_audit.specs.States.{ReplayContents, account_in, IsStateAfter, choice_for}

module _ (es : List Event) (c : ReplayContents) (state : IsStateAfter es c) where
  -- there is an edition
  pub some_edition : 0 < length c.editions
  some_edition = numbers.some_edition c.task (replay (task_of c.task) (opening (task_of c.task)) es) (account_in c) state.replayed.account c.editions refl

  -- what is chosen by the values that were read
  module _ (d : CandidateParts) (is : IsCandidate d) (ours : slice_get c.editions d.base.number ≡ Some d.base) where
    pub chosen_is : (k : ℕ) → k ≡ d.belief → (r : Bool) (latest grown worth zl zg zw : ℤ) → r ≡ get_or c.improved k r → latest ≡ get_or c.latest_values k latest → grown ≡ get_or c.grown_values k grown
        → zl ≡ latest → zg ≡ grown → zw ≡ worth
        → (t : TaskParts) (b : ℕ) (v : Func) → t ≡ c.task → b ≡ d.belief → v ≡ d.vector → worth ≡ theory.dot (problem t.model) (weights_at t b) (vector_of t.model v)
        → (result choice : Choice) → result ≡ cond r (cond (int_lt zg zw) New Neither) (cond (int_lt zw zl) Old New) → result ≡ choice → choice_for c d ≡ choice
    chosen_is = reading.chosen_is c.task (replay (task_of c.task) (opening (task_of c.task)) es) (account_in c) state.replayed.account d.belief (own_belief c.task c.editions state.numbered d is ours) d.vector
