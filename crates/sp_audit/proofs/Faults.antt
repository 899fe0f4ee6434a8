-- What is wrong with an event, where a replay finds it so.
use Rattle.std.proofs.Common.{◌≡◌, ◌∙◌, sym, ap, subst, refl, arith, inl, inr, ℕ, ◌<◌, ◌≤◌, List, [], length, get_or, true, false, Some}
use Rattle.std.specs.Prelude.{slice_get}
use Rattle.std.proofs.lemmas.List.{length-map}
use Rattle.sp_theory.specs.Model.{Model}
use Rattle.sp_theory.specs.Values as theory
use Rattle.sp_theory.specs.Backup.{IsBackup, links_at}
use Rattle.sp_theory.specs.Agreement.{EditionsAgree}
use Rattle.sp_theory.specs.Book.{Task, Book, Event, settle, publish, end, opening, editions}
use Rattle.sp_theory.specs.Runs.{replay}
use Rattle.sp_theory.proofs.Agreement.{backup_same}
use Rattle.sp_theory.proofs.BooksAgreement.{editions-length, edition_at-agrees}
use Rattle.sp_theory.proofs.Pruning.{get_or_any}
use Rattle.sp_value.specs.Tasks.{task_of, weights_at}
use Rattle.sp_value.specs.Editions.{members_in}
use Rattle.sp_value.specs.Candidates.{CandidateParts, IsCandidate}
use Rattle.sp_faults.specs.RunFaults.{EventBreaks}
use Rattle.sp_faults.proofs.LogLemmas.{members_back}
use Rattle.sp_audit.specs.declared.clause.Clause.TheVariants as clauses
use Rattle.sp_audit.specs.States.{ReplayContents, account_in, IsStateAfter}
use Rattle.sp_audit.specs.Judging.{IsWrongNext}
use Rattle.sp_ledger.proofs.Ours.{own_backup}

module _ (c : ReplayContents) (es : List Event) (rep : IsStateAfter es c) where
  abbrev t : Task
  t = task_of c.task

  abbrev book : Book
  book = replay t (opening t) es

  pub book_done : book.done ≡ c.done
  book_done = sym rep.replayed.account.done

  -- the book has as many editions
  pub book_count : length (editions book) ≡ length c.editions
  book_count = let same = editions-length t.model (account_in c).editions (editions book) rep.replayed.account.editions in sym same ∙ length-map c.editions members_in

  pub going_on : c.done ≡ false → ¬ (book.done ≡ true)
  going_on going over = let done = book_done in absurd (cc)

  -- an edition of the book agrees with that of the account
  pub edition_agrees : (e : ℕ) → e < length c.editions → EditionsAgree t.model (get_or (editions book) e book.latest) (get_or (account_in c).editions e [])
  edition_agrees e less =
      let count = book_count in
      let has : e < length (editions book) = omega (arith, less, count) in
      members_back t.model _ _ (subst (λ (y : theory.Edition). EditionsAgree t.model (get_or (account_in c).editions e []) y) (get_or_any (editions book) e [] book.latest has)
      (edition_at-agrees t.model (account_in c).editions (editions book) e [] [] rep.replayed.account.editions tt))

pub after_end_wrong : (c : ReplayContents) (x : Event) → c.done ≡ true → IsWrongNext c x clauses.AfterEnd
unfolding EventBreaks
after_end_wrong c x over es rep = inl (refl, book_done c es rep ∙ over)

pub edition_wrong : (c : ReplayContents) → c.done ≡ false → (k e a : ℕ) (links : List ℕ) → length c.editions ≤ e → IsWrongNext c (settle k e a links) clauses.Edition
unfolding EventBreaks
edition_wrong c going k e a links past es rep = inr (going_on c es rep going, inl (refl, (let count = book_count c es rep in omega (arith, past, count))))

pub backup_wrong : (c : ReplayContents) → c.done ≡ false → (d : CandidateParts) → IsCandidate d → slice_get c.editions d.base.number ≡ Some d.base
    → (k e a : ℕ) (links : List ℕ) → d.belief ≡ k → d.base.number ≡ e → ¬ ((d.action ≡ a) × (d.links ≡ links)) → e < length c.editions → IsWrongNext c (settle k e a links) clauses.Backup
unfolding EventBreaks
backup_wrong c going d is ours k e a links at on other less es rep = inr (going_on c es rep going, inr ((λ past. absurd (let count = book_count c es rep in omega (arith, less, past, count))), inl (refl, not_backup)))
  where
    m : Model
    m = (task_of c.task).model

    edition : theory.Edition
    edition = get_or (account_in c).editions e []

    book : Book
    book = replay (task_of c.task) (opening (task_of c.task)) es

    own : IsBackup m edition (weights_at c.task k) d.action d.links
    own = subst (λ (n : ℕ). IsBackup m (get_or (account_in c).editions n []) (weights_at c.task k) d.action d.links) on
        (subst (λ (n : ℕ). IsBackup m (get_or (account_in c).editions d.base.number []) (weights_at c.task n) d.action d.links) at (own_backup c.task c.editions rep.numbered d is ours))

    not_backup : ¬ IsBackup m (get_or (editions book) e book.latest) (weights_at c.task k) a links
    not_backup backup =
        let here = backup_same m (get_or (editions book) e book.latest) edition (weights_at c.task k) (weights_at c.task k) (edition_agrees c es rep e less) (λ s p. refl) a links backup in
        let same : d.action ≡ a = own.0 ∙ sym here.0 in
        other (same, own.1 ∙ ap (links_of edition) same ∙ sym here.1)
      where
        links_of : theory.Edition → ℕ → List ℕ
        links_of edition a = links_at m edition (weights_at c.task k) a

pub publish_wrong : (c : ReplayContents) → c.done ≡ false → (k : ℕ) → k < length c.improved → get_or c.improved k false ≡ false → IsWrongNext c publish clauses.Publish
unfolding EventBreaks
publish_wrong c going k less down es rep = inr (
  going_on c es rep going,
  inr (
    (λ un. un),
    inr (
      (λ un. un),
      inl (
        refl,
        λ all.
            let account = rep.replayed.account in
            let within = subst (λ (n : ℕ). k < n) account.flags less in
            let up = all k within in
            let same = account.improved k within in
            absurd (cc),
      ),
    ),
  ),
)

pub end_wrong : (c : ReplayContents) → c.done ≡ false → 0 < c.stages_left → IsWrongNext c end clauses.End
unfolding EventBreaks
end_wrong c going left es rep = inr (going_on c es rep going, inr ((λ un. un), inr ((λ un. un), inr ((λ un. un), inr ((λ un. un), inl (refl, λ none. let same = rep.replayed.account.stages_left in absurd (omega (arith, left, none, same))))))))
