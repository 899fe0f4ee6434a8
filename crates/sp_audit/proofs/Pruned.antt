-- A replay after a prune.
use Rattle.std.proofs.Common.{◌≡◌, ◌∙◌, sym, ap, subst, refl, arith, inl, inr, ℕ, ◌<◌, List, [], ◌∷◌, ◌++◌, length, false, Some, length-append}
use Rattle.std.specs.Prelude.{All}
use Rattle.std.proofs.lemmas.List.{map-append, length-map}
use Rattle.sp_theory.specs.Values as theory
use Rattle.sp_theory.specs.Agreement.{EditionsAgree}
use Rattle.sp_theory.specs.Book.{Task, Book, Event, prune, opening, pruned, CanPrune, Allowed, after_event}
use Rattle.sp_theory.specs.Runs.{replay}
use Rattle.sp_theory.proofs.PairsAgreement.{pruned_agrees}
use Rattle.sp_theory.proofs.Pruning.{pruned_filled}
use Rattle.sp_theory.proofs.Tidy.{at_last}
use Rattle.sp_model.specs.declared.parts.Parts.{Parts}
use Rattle.sp_model.specs.Problem.{problem}
use Rattle.sp_value.specs.declared.editions.Member.{Member}
use Rattle.sp_value.specs.Tasks.{task_of}
use Rattle.sp_value.specs.Editions.{IsEdition, IsMemberOf, edition_of, member_of, members_in}
use Rattle.sp_faults.specs.RunFaults.{EventBreaks}
use Rattle.sp_faults.specs.PruneTests.{can_prune}
use Rattle.sp_faults.proofs.PruneTests.{can_at, can_from, can_same}
use Rattle.sp_ledger.specs.Accounts.{Account, IsAccount, last_of}
use Rattle.sp_ledger.proofs.Accounting.{account_pruned}
use Rattle.sp_ledger.proofs.Replaying.{goes_on, latest_agrees, some_agree}
use Rattle.sp_ledger.proofs.Distinct.{tidy_book}
use Rattle.sp_audit.specs.declared.clause.Clause.TheVariants as clauses
use Rattle.sp_audit.specs.States.{ReplayContents, account_in, IsStateAfter, Follows, edition_with, with_edition}
use Rattle.sp_audit.specs.Judging.{IsWrongNext}
use Rattle.sp_audit.specs.Pruning.{IsLeftOf}
use Rattle.sp_ledger.proofs.Numbers.{numbered_more}
use Rattle.sp_audit.proofs.Following.{lawful, some}
use Rattle.sp_audit.proofs.Faults.{going_on}

module _ (c : ReplayContents) (p : Parts) (same : p ≡ c.task.model) (members : List Member) (is : edition_of p members ≡ last_of (account_in c).editions) (pairs : List (ℕ × ℕ)) (es : List Event) (rep : IsStateAfter es c) where
  abbrev t : Task
  t = task_of c.task

  abbrev f : Account
  f = account_in c

  abbrev book : Book
  book = replay t (opening t) es

  tested : can_prune (problem p) (edition_of p members) pairs ≡ can_prune t.model book.latest pairs
  tested = (λ i. can_prune (problem (same i)) (is i) pairs) ∙ can_same t.model (last_of f.editions) book.latest pairs (latest_agrees t es f rep.replayed)

  pub not_can : can_prune (problem p) (edition_of p members) pairs ≡ false → ¬ CanPrune t.model (replay t (opening t) es).latest pairs
  not_can no_more can = let yes_more = tested ∙ can_from t.model book.latest pairs can in absurd (cc)

  module _ (going : c.done ≡ false) (left : List Member) (ok : IsLeftOf p members pairs (Some left)) where
    can : CanPrune t.model book.latest pairs
    can = can_at t.model book.latest pairs (sym tested ∙ ok.0)

    left_is : edition_of c.task.model left ≡ pruned (last_of f.editions) pairs
    left_is = ap (λ (q : Parts). edition_of q left) (sym same) ∙ ok.1 ∙ ap (λ (ed : theory.Edition). pruned ed pairs) is

    agrees : EditionsAgree t.model (edition_of c.task.model left) (pruned book.latest pairs)
    agrees = subst (λ (ed : theory.Edition). EditionsAgree t.model ed (pruned book.latest pairs)) (sym left_is) (pruned_agrees t.model (last_of f.editions) book.latest pairs (latest_agrees t es f rep.replayed))

    filled : 0 < length left
    filled =
        let there = pruned_filled t.model book.latest pairs (at_last (λ (ed : theory.Edition). 0 < length ed) book (tidy_book t (lawful es c rep) (some es c rep) es f rep.replayed).filled) can in
        let here = some_agree t.model (edition_of c.task.model left) (pruned book.latest pairs) agrees there in
        omega (arith, here, length-map left (member_of c.task.model))

    pub left_edition : IsEdition (edition_with c left)
    left_edition = record { task = rep.task; some = filled; different = ok.3; members = subst (λ (q : Parts). All (IsMemberOf q) left) same ok.2 }

    pub pruned_replay : 0 < length pairs → IsStateAfter (es ++ prune pairs ∷ []) (with_edition c (edition_with c left))
    unfolding Allowed
    pruned_replay more = record {
      task = rep.task;
      replayed = goes_on t es f rep.replayed (prune pairs) (account_in (with_edition c (edition_with c left))) (sym rep.replayed.account.done ∙ going, more, can)
          (subst (IsAccount t (after_event t book (prune pairs))) (sym account_is) (account_pruned t book f rep.replayed.account pairs can (edition_of c.task.model left) agrees));
      numbered = numbered_more c.task c.editions (edition_with c left) rep.numbered refl refl;
      grown = rep.grown;
      worths = rep.worths;
      few = let before = rep.few in omega (arith, before, length-append es (prune pairs ∷ []));
    }
      where
        account_is : account_in (with_edition c (edition_with c left)) ≡ record f { editions = f.editions ++ edition_of c.task.model left ∷ [] }
        account_is = let editions_is = map-append members_in c.editions (edition_with c left ∷ []) in (λ i. let r : Account = record f { editions = editions_is i } in r)

-- ---- as the calls say it
pub prune_wrong : (c : ReplayContents) → c.done ≡ false → (pairs : List (ℕ × ℕ))
    → ((es : List Event) → IsStateAfter es c → ¬ ((0 < length pairs) × CanPrune (task_of c.task).model (replay (task_of c.task) (opening (task_of c.task)) es).latest pairs)) → IsWrongNext c (prune pairs) clauses.Prune
unfolding EventBreaks
prune_wrong c going pairs wrong es rep = inr (going_on c es rep going, inr ((λ un. un), inr ((λ un. un), inr ((λ un. un), inl (refl, wrong es rep)))))

pub pruned_follows : (c : ReplayContents) (going : c.done ≡ false) (p : Parts) (same : p ≡ c.task.model) (members : List Member) (is : edition_of p members ≡ last_of (account_in c).editions) (pairs : List (ℕ × ℕ)) → 0 < length pairs
    → (left : List Member) → IsLeftOf p members pairs (Some left) → (d : ReplayContents) → d ≡ with_edition c (edition_with c left) → Follows c (prune pairs) d
pruned_follows c going p same members is pairs more left ok d is_d = record {
  task = ap (λ (y : ReplayContents). y.task) is_d;
  replay = λ es rep. subst (IsStateAfter (es ++ prune pairs ∷ [])) (sym is_d) (pruned_replay c p same members is pairs es rep going left ok more);
}
