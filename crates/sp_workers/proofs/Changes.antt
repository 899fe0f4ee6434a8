-- What changes a book, and the publications before and after it.
use Rattle.std.proofs.Common.{◌≡◌, ℕ, List, sym, subst}
use Rattle.std.specs.Prelude.{Result, Ok, Err, IfOk, OnErr}
use Rattle.sp_value.specs.Editions.{EditionParts}
use Rattle.sp_value.specs.Candidates.{CandidateParts}
use Rattle.sp_core.specs.declared.answers.Settled.{Settled}
use Rattle.sp_core.specs.declared.answers.Pruned.{Pruned}
use Rattle.sp_core.specs.Books.{BookParts}
use Rattle.sp_core.specs.Settling.{IsSettled}
use Rattle.sp_core.specs.Pruning.{IsPruned}
use Rattle.sp_planner.specs.Turns.{IsLaterBook}
use Rattle.sp_planner.proofs.Later.{later_same, later_settled, later_pruned}
use Rattle.sp_publish.specs.Published.{PublishedList, ListGoesOn}
use Rattle.sp_publish.proofs.PublishedLemmas.{goes_on_trans}

-- ---- later books
pub later_by_settle : {E : Type 0} (b : BookParts) (c : CandidateParts) (r : Result Settled E) (d : BookParts) → IfOk r (λ answer. IsSettled b c answer d) → OnErr r (d ≡ b) → IsLaterBook b d
later_by_settle b c (Ok answer) d ok err = later_settled b c answer d ok
later_by_settle b c (Err e) d ok err = later_same b d err

pub later_by_prune : {E : Type 0} (b : BookParts) (e : EditionParts) (pairs : List (ℕ × ℕ)) (r : Result Pruned E) (d : BookParts) → IfOk r (λ answer. IsPruned b e pairs answer d) → OnErr r (d ≡ b) → IsLaterBook b d
later_by_prune b e pairs (Ok answer) d ok err = later_pruned b e pairs answer d ok
later_by_prune b e pairs (Err x) d ok err = later_same b d err

-- ---- publications change no book
pub between : (P : BookParts → BookParts → Type 0) (a b c d : BookParts) → b ≡ a → P b c → d ≡ c → P a d
between P a b c d before change after = subst (λ (x : BookParts). P x d) before (subst (P b) (sym after) change)

-- nor does the change the list
pub on_to : (p q r : PublishedList) → ListGoesOn p q → r ≡ q → ListGoesOn p r
on_to p q r on same = subst (ListGoesOn p) (sym same) on

pub on_between : (p q r s : PublishedList) → ListGoesOn p q → r ≡ q → ListGoesOn r s → ListGoesOn p s
on_between p q r s first same next = goes_on_trans p r s (on_to p q r first same) next
