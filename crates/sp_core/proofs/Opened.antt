-- A run under way before any event.
use Rattle.std.proofs.Common.{◌≡◌, refl, ℕ, ◌<◌, List, [], length, get_or, Bool, false, inr}
use Rattle.std.specs.Prelude.{ℤ}
use Rattle.sp_theory.specs.Values.{Member, leaf_member}
use Rattle.sp_theory.specs.Book.{Task, opening, after_event}
use Rattle.sp_theory.specs.Runs.{replay, IsPrompt}
use Rattle.sp_theory.specs.OneThread.{all_improved}
use Rattle.sp_theory.specs.Agreement.{MembersAgree}
use Rattle.sp_theory.proofs.Publications.{after_publication}
use Rattle.sp_ledger.specs.Accounts.{AreWorths}
use Rattle.sp_ledger.proofs.Opened.{first_account, replay_opening}
use Rattle.sp_core.specs.Running.{IsRunning}

module _ (t : Task) (x : Member) (agree : MembersAgree t.model x (leaf_member t.model)) (flags : List Bool) (values others : List ℤ)
    (count : length flags ≡ t.beliefs) (down : (k : ℕ) → k < t.beliefs → get_or flags k false ≡ false)
    (value_count : length values ≡ t.beliefs) (worths : AreWorths t x.vector values) (other_count : length others ≡ t.beliefs) where
  pub run_opening : 0 < t.beliefs → 0 < t.stages → IsRunning t [] (first_account t x agree flags values others count down value_count worths other_count)
  unfolding IsPrompt replay opening all_improved after_event
  run_opening some stages = record {
    replayed = replay_opening t x agree flags values others count down value_count worths other_count;
    prompt = tt;
    turns = inr (refl, stages, after_publication t (opening t) some);
  }
