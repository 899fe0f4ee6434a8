-- Editions numbered from 0, and flags that are down.
use Rattle.std.proofs.Common.{◌≡◌, ◌∙◌, sym, ap, subst, refl, arith, ℕ, zero, suc, ◌<◌, List, [], ◌∷◌, ◌++◌, length, map, get_or, replicate, false, length-append}
use Rattle.std.proofs.Math.ListN.{get_or-append}
use Rattle.std.proofs.Math.Seq.{get_or-append_seam}
use Rattle.std.proofs.lemmas.List.{length-map}
use Rattle.sp_theory.specs.Book.{Book, editions}
use Rattle.sp_theory.proofs.BooksAgreement.{editions-length}
use Rattle.sp_theory.proofs.Order.{by_order}
use Rattle.sp_value.specs.Tasks.{TaskParts, task_of}
use Rattle.sp_value.specs.Editions.{EditionParts, members_in}
use Rattle.sp_ledger.specs.Accounts.{Account, IsAccount}
use Rattle.sp_ledger.specs.Opening.{AreNumbered, first_edition}

-- edition 0 alone
pub first_numbered : (t : TaskParts) → AreNumbered t (first_edition t ∷ [])
first_numbered t k d less = let first : k ≡ 0 = omega (arith, less) in subst (λ (n : ℕ). ((get_or (first_edition t ∷ []) n d).number ≡ n) × ((get_or (first_edition t ∷ []) n d).task ≡ t)) (sym first) (refl, refl)

-- one more edition of the task
pub numbered_more : (t : TaskParts) (es : List EditionParts) (e : EditionParts) → AreNumbered t es → e.number ≡ length es → e.task ≡ t → AreNumbered t (es ++ e ∷ [])
numbered_more t es e numbered number task k d less =
    by_order k (length es)
    (λ before. subst (λ (x : EditionParts). (x.number ≡ k) × (x.task ≡ t)) (sym (get_or-append es (e ∷ []) d k before)) (numbered k d before))
    (λ last. subst (λ (i : ℕ). ((get_or (es ++ e ∷ []) i d).number ≡ i) × ((get_or (es ++ e ∷ []) i d).task ≡ t)) (sym last)
    (subst (λ (x : EditionParts). (x.number ≡ length es) × (x.task ≡ t)) (sym (get_or-append_seam es e [] d)) (number, task)))
    (λ past. absurd (omega (arith, less, length-append es (e ∷ []))))

-- a book has an edition
pub some_edition : (t : TaskParts) (b : Book) (f : Account) → IsAccount (task_of t) b f → (es : List EditionParts) → f.editions ≡ map members_in es → 0 < length es
some_edition t b f account es is =
    let count = editions-length (task_of t).model f.editions (editions b) account.editions in
    let same = ap length is ∙ length-map es members_in in
    omega (arith, count, same, length-append b.earlier (b.latest ∷ []))

pub down_at : (n k : ℕ) → get_or (replicate n false) k false ≡ false
down_at zero k = refl
down_at (suc n) zero = refl
down_at (suc n) (suc k) = down_at n k
