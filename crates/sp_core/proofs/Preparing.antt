-- What is read of a ledger while a settle is prepared.
use Rattle.std.proofs.Common.{◌≡◌, refl, ℕ, ◌-◌, ◌<◌, length, get_or}
use Rattle.sp_theory.specs.Values as theory
use Rattle.sp_model.specs.Problem.{problem}
use Rattle.sp_value.specs.declared.editions.Member.{Member}
use Rattle.sp_value.specs.Tasks.{weights_at}
use Rattle.sp_value.specs.Editions.{EditionParts, IsMemberOf, member_of, members_in}
use Rattle.sp_value.specs.Candidates.{CandidateParts, IsCandidate}
use Rattle.sp_ledger.specs.Accounts.{last_of}
use Rattle.sp_ledger.proofs.Numbers as numbers
use Rattle.sp_ledger.proofs.Ours.{own_member}
use Rattle.sp_ledger.proofs.Reading as reading
use Rattle.sp_core.specs.Books.{state_of}
use Rattle.sp_core.specs.Ledgers.{LedgerContents, account_in, parts_in, IsLedger}
use Rattle.sp_core.specs.Settling.{IsOurs}
use Rattle.sp_core.specs.Plans.{new_member, IsGreatestAtBelief}

module _ (c : LedgerContents) (ledger : IsLedger c) where
  -- there is an edition
  pub some_edition : 0 < length c.editions
  some_edition = numbers.some_edition c.task (state_of (parts_in c)) (account_in c) ledger.running.replayed.account c.editions refl

  module _ (e : EditionParts) (is : e ≡ get_or c.editions (length c.editions - 1) e) where
    pub latest_task : e.task ≡ c.task
    latest_task = reading.latest_task c.task c.editions ledger.numbered some_edition e is

    pub latest_members : members_in e ≡ last_of (account_in c).editions
    latest_members = reading.latest_members c.task c.editions ledger.numbered some_edition e is

    pub greatest_is : (k b : ℕ) (x : Member) → b ≡ k → member_of e.task.model x ≡ theory.greatest_member (problem e.task.model) (members_in e) (weights_at e.task b) → IsGreatestAtBelief c k x
    greatest_is = reading.greatest_is c.task c.editions ledger.numbered some_edition e is

  pub new_known : (d : CandidateParts) → IsCandidate d → IsOurs (parts_in c) d.base → IsMemberOf c.task.model (new_member c d)
  new_known d is ours = own_member c.task c.editions ledger.numbered d is ours ledger.task.model c.records
