-- Pairs of members of one edition of a book may be pruned from its latest edition, as far as they apply there.
use Rattle.std.proofs.Common.{◌≡◌, ◌∙◌, sym, ap, subst, arith, ℕ, suc, ◌<◌, List, [], ◌∷◌, ◌++◌, length, get_or, false}
use Rattle.std.specs.Prelude.{◌≤ℤ◌, All}
use Rattle.std.proofs.lemmas.List.Elements.{All-nil, All-cons}
use Rattle.sp_theory.specs.Points.{IsPoint}
use Rattle.sp_theory.specs.Model.{Model, State, IsLawful}
use Rattle.sp_theory.specs.Plan.{Record, record_at}
use Rattle.sp_theory.specs.Values.{Member, Edition}
use Rattle.sp_theory.specs.Book.{Task, Book, Event, prune, opening, editions, IsMember, pruned, CanPrune, Allowed}
use Rattle.sp_theory.specs.Runs.{replay}
use Rattle.sp_theory.specs.OneThread.{applying}
use Rattle.sp_theory.specs.Agreement.{VectorsAgree, EditionsAgree}
use Rattle.sp_theory.proofs.Weighing.{le_same}
use Rattle.sp_theory.proofs.Whole.{≤ℤ_trans}
use Rattle.sp_theory.proofs.BooksAgreement.{editions-length, edition_at-agrees}
use Rattle.sp_theory.proofs.PairsAgreement.{applying_same, pruned_agrees}
use Rattle.sp_theory.proofs.Dominated.{IsPair, applying_can}
use Rattle.sp_theory.proofs.OneThread.{prune_goes}
use Rattle.sp_theory.proofs.Sound.{latest_members}
use Rattle.sp_ledger.specs.Accounts.{Account, last_of}
use Rattle.sp_core.specs.Running.{IsRunning}
use Rattle.sp_core.specs.Dominated.{IsDominatedPair, AreDominatedPairs}
use Rattle.sp_ledger.proofs.Accounting.{account_pruned}
use Rattle.sp_ledger.proofs.Replaying.{kept_book, latest_agrees}
use Rattle.sp_core.proofs.Running.{goes_on}

module _ (m : Model) (records : List Record) where
  -- the vector agrees with that of its record
  abbrev IsRecorded : Member → Type 0
  IsRecorded x = VectorsAgree m x.vector (record_at m records x.id).vector

  recorded_by : (xs ys : Edition) → EditionsAgree m xs ys → All (IsMember m records) ys → All IsRecorded xs
  recorded_by xs ys agree members = by_lists xs ys agree (λ k d less. (members k d less).1)
    where
      by_lists : (xs ys : Edition) → EditionsAgree m xs ys → All (λ y. y.vector ≡ (record_at m records y.id).vector) ys → All IsRecorded xs
      by_lists [] [] agree members = All-nil IsRecorded
      by_lists (x ∷ xs) (y ∷ ys) (first, rest) members =
          All-cons IsRecorded x xs (λ s p. first.2 s p ∙ (λ h. members 0 y (omega arith) h s) ∙ (λ h. (record_at m records (sym first.0 h)).vector s))
          (by_lists xs ys rest (λ k d less. members (suc k) d (omega arith)))
      by_lists [] (y ∷ ys) agree members = absurd agree
      by_lists (x ∷ xs) [] agree members = absurd agree

  -- the record of the first is nowhere above that of the second
  records_under : (edition : Edition) → All IsRecorded edition → (pair : ℕ × ℕ) → IsDominatedPair m edition pair
      → (s : State) → IsPoint m.sizes s → (record_at m records pair.0).vector s ≤ℤ (record_at m records pair.1).vector s
  records_under edition recorded pair dominated s p =
      let (k, x, less, is, id) = dominated.one in
      let own : (get_or edition k x).id ≡ pair.0 = ap (λ (z : Member). z.id) is ∙ id in
      let (j, y, within, at, (other, under)) = dominated.under k x less own in
      ≤ℤ_trans (le_same (sym (recorded k x less s p ∙ ap (λ (i : ℕ). (record_at m records i).vector s) own)))
      (≤ℤ_trans (under s p)
      (le_same (ap (λ (z : Member). z.vector s) (sym at) ∙ recorded j y within s p ∙ ap (λ (i : ℕ). (record_at m records i).vector s) (ap (λ (z : Member). z.id) at ∙ other))))

  -- so it is a pair of each edition whose members are of the records
  pair_of_records : (edition latest : Edition) → All IsRecorded edition → All (IsMember m records) latest → (pair : ℕ × ℕ) → IsDominatedPair m edition pair → IsPair m latest pair
  pair_of_records edition latest recorded members pair dominated = (
    dominated.differ,
    λ k d less e j c within f s p.
        ≤ℤ_trans (le_same ((λ h. (members k d less).1 h s) ∙ ap (λ (i : ℕ). (record_at m records i).vector s) e))
        (≤ℤ_trans (records_under edition recorded pair dominated s p)
        (le_same (sym ((λ h. (members j c within).1 h s) ∙ ap (λ (i : ℕ). (record_at m records i).vector s) f)))),
  )

module _ (t : Task) (es : List Event) (f : Account) (run : IsRunning t es f) where
  abbrev book : Book
  book = replay t (opening t) es

  module _ (lawful : IsLawful t.model) (some : 0 < t.beliefs) (going : f.done ≡ false) (e : ℕ) (exists : e < length f.editions) (pairs : List (ℕ × ℕ)) (dominated : AreDominatedPairs t.model (get_or f.editions e []) pairs) where
    pub applied_can : CanPrune t.model (replay t (opening t) es).latest (applying (replay t (opening t) es).latest pairs)
    applied_can =
        let kept = kept_book t es f run.replayed lawful some going in
        let has : e < length (editions book) = subst (λ (n : ℕ). e < n) (editions-length t.model f.editions (editions book) run.replayed.account.editions) exists in
        let recorded = recorded_by t.model book.records (get_or f.editions e []) (get_or (editions book) e [])
        (edition_at-agrees t.model f.editions (editions book) e [] [] run.replayed.account.editions tt) (kept.members e [] has) in
        applying_can t.model book.latest pairs (λ k d less. pair_of_records t.model book.records (get_or f.editions e []) book.latest recorded (latest_members t book kept) _ (dominated k d less))

    -- a prune of the pairs that apply
    pub run_pruned : (applied : List (ℕ × ℕ)) → applied ≡ applying (last_of f.editions) pairs → 0 < length applied
        → IsRunning t (es ++ prune applied ∷ []) (record f { editions = f.editions ++ pruned (last_of f.editions) applied ∷ [] })
    unfolding replay Allowed
    run_pruned applied is more =
        let can : CanPrune t.model book.latest applied = subst (CanPrune t.model book.latest) (sym (is ∙ applying_same t.model (last_of f.editions) book.latest pairs (latest_agrees t es f run.replayed))) applied_can in
        goes_on t es f run (prune applied ∷ []) _ (prune_goes t book run.turns applied (sym run.replayed.account.done ∙ going, more, can))
        (account_pruned t book f run.replayed.account applied can (pruned (last_of f.editions) applied) (pruned_agrees t.model (last_of f.editions) book.latest applied (latest_agrees t es f run.replayed)))
