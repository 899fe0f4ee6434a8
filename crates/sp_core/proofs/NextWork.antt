-- The belief that is picked of a ledger.
use Rattle.std.proofs.Common.{◌≡◌, subst, ℕ, ◌<◌, length, false, inl, inr}
use Rattle.sp_theory.specs.OneThread.{IsBetweenTurns, all_improved, picked}
use Rattle.sp_theory.proofs.OneThread.{picked_below}
use Rattle.sp_value.specs.Tasks.{task_of}
use Rattle.sp_core.specs.Books.{state_of}
use Rattle.sp_core.specs.Ledgers.{LedgerContents, account_in, parts_in, IsLedger}
use Rattle.sp_core.specs.Marks.{marks_of, neither, picked_from}
use Rattle.sp_core.proofs.Picked.{picked_is, some_down}

module _ (c : LedgerContents) (ledger : IsLedger c) where
  pub work_is : (word : ℕ) → picked (task_of c.task) (state_of (parts_in c)) (marks_of c.taken) word ≡ picked_from c.improved c.taken word
  work_is word = picked_is (task_of c.task) (state_of (parts_in c)) (account_in c) ledger.running.replayed.account c.taken word

  module _ (going : c.done ≡ false) where
    flag_down : all_improved (task_of c.task) (state_of (parts_in c)) ≡ false
    flag_down = by_turns ledger.running.turns
      where
        by_turns : IsBetweenTurns (task_of c.task) (state_of (parts_in c)) → all_improved (task_of c.task) (state_of (parts_in c)) ≡ false
        by_turns (inl done) = absurd (let same = ledger.running.replayed.account.done in cc)
        by_turns (inr (on, left, down)) = down

    pub some_work : 0 < length (neither c.improved c.improved)
    some_work = some_down (task_of c.task) (state_of (parts_in c)) (account_in c) ledger.running.replayed.account c.taken flag_down

    pub work_below : (word : ℕ) → picked_from c.improved c.taken word < c.task.options.beliefs
    work_below word = subst (λ (n : ℕ). n < c.task.options.beliefs) (work_is word) (picked_below (task_of c.task) (state_of (parts_in c)) (marks_of c.taken) flag_down word)
