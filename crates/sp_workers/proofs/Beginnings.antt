-- Published lists beside the book whose editions they begin.
use Rattle.std.proofs.Common.{◌≡◌, ℕ, ◌+◌, ◌≤◌, true, false, List, [], ◌∷◌, ◌++◌, length, get_or, Some, slice_get, refl, sym, ◌∙◌, ap, subst, arith, inr, length-append}
use Rattle.std.specs.Prelude.{Result, Ok, Err, OnErr}
use Rattle.std.proofs.lemmas.Option.{slice_get_within, get_or_from_slice_get}
use mathlib.Core.List.{IsPrefix}
use Rattle.logbook.specs.Pages.{Book}
use Rattle.sp_value.specs.Editions.{EditionParts}
use Rattle.sp_core.specs.Books.{BookParts, IsBook}
use Rattle.sp_publish.specs.Published.{PublishedList, IsOfTask, IsOf, ListGoesOn, with_edition, with_end}
use Rattle.sp_publish.proofs.Prefixes.{prefix_get, prefix_length, prefix_whole}
use Rattle.sp_publish.proofs.PublishedLemmas.{goes_on_self, goes_on_next}
use Rattle.sp_workers.specs.Shared.{IsBeginning, AreShared}

-- the next item after a beginning
next_begins : {A : Type 0} (xs ys : List A) (x : A) → IsPrefix xs ys → slice_get ys (length xs) ≡ Some x → IsPrefix (xs ++ x ∷ []) ys
next_begins {A} [] [] x p at = absurd (cc (at))
next_begins {A} [] (y ∷ ys) x p at = let same : y ≡ x = cc (at) in (ys, ap (λ (z : A). z ∷ ys) (sym same))
next_begins {A} (z ∷ xs) [] x p at = absurd (cc (p.1))
next_begins {A} (z ∷ xs) (y ∷ ys) x p at =
    let rest = next_begins xs ys x (p.0, cc (p.1)) at in
    let head : z ≡ y = cc (p.1) in
    (rest.0, cc (head, rest.1))

-- number and task of an edition of a book
pub edition_at : (b : BookParts) → IsBook b → (k : ℕ) (e : EditionParts) → slice_get b.editions k ≡ Some e → (e.number ≡ k) × (e.task ≡ b.task)
edition_at b is k e at =
    let read : get_or b.editions k e ≡ e = get_or_from_slice_get b.editions k e e at in
    let n = is.numbered k e (slice_get_within b.editions k e at) in
    (ap (λ (x : EditionParts). x.number) (sym read) ∙ n.0, ap (λ (x : EditionParts). x.task) (sym read) ∙ n.1)

-- the list is of the book's task
pub list_task : (p : PublishedList) (b : BookParts) → IsBook b → IsBeginning p b → IsOfTask p b.task
list_task p b is begins e opens = (edition_at b is 0 e (prefix_get p.editions b.editions 0 e begins.editions opens)).1

-- so is the edition 0 that names it
pub named_task : (list : Book) (first : EditionParts) (b : BookParts) (p : PublishedList) → IsBook b → IsBeginning p b → IsOf list first p → first.task ≡ b.task
named_task list first b p is begins named = list_task p b is begins first named.1

-- ---- one edition more
module _ (p q : PublishedList) (e : EditionParts) (is : q ≡ with_edition p e) where
  pub begins_more : (b : BookParts) → IsBeginning p b → slice_get b.editions (length p.editions) ≡ Some e → IsBeginning q b
  begins_more b begins at =
      subst (λ (t : PublishedList). IsBeginning t b) (sym is) (record { editions = next_begins p.editions b.editions e begins.editions at; going = begins.going })

  pub on_more : p.ended ≡ false → ListGoesOn p q
  on_more going = goes_on_next p q (inr (e, going, is))

  pub count_more : length q.editions ≡ length p.editions + 1
  count_more = omega (arith, ap (λ (t : PublishedList). length t.editions) is, length-append p.editions (e ∷ []))

-- ---- all of them
pub count_most : (p : PublishedList) (b : BookParts) → IsBeginning p b → length p.editions ≤ length b.editions
count_most p b begins = prefix_length p.editions b.editions begins.editions

pub begins_whole : (p : PublishedList) (b : BookParts) → IsBeginning p b → length b.editions ≤ length p.editions → p.editions ≡ b.editions
begins_whole p b begins most = prefix_whole p.editions b.editions begins.editions most

pub ended_whole : (p q r : PublishedList) (es : List EditionParts) → ListGoesOn p q → q.editions ≡ es → r ≡ with_end q → r ≡ record p { editions = es; ended = true }
ended_whole p q r es on whole is = is ∙ (λ h. record { list = on.list h; editions = whole h; ended = true })

-- ---- a list that goes on
pub named_on : (list : Book) (first : EditionParts) (p q : PublishedList) → IsOf list first p → ListGoesOn p q → IsOf list first q
named_on list first p q named on = (on.list ∙ named.0, prefix_get p.editions q.editions 0 first on.editions named.1)

pub shared_list : (list : Book) (first : EditionParts) (b : BookParts) (p q : PublishedList) → AreShared list first b p → IsBeginning q b → ListGoesOn p q → AreShared list first b q
shared_list list first b p q are begins on = record { book = are.book; beginning = begins; named = named_on list first p q are.named on }

-- ---- the first list
-- a list of edition 0 alone is a beginning of a book that has it
pub first_begins : (p : PublishedList) (b : BookParts) (e : EditionParts) → p.editions ≡ e ∷ [] → p.ended ≡ false → slice_get b.editions 0 ≡ Some e → IsBeginning p b
first_begins p b e alone going at = record {
  editions = subst (λ (es : List EditionParts). IsPrefix es b.editions) (sym alone) (next_begins [] b.editions e (b.editions, refl) at);
  going = going;
}

-- ---- the same list
pub begins_same : (p q : PublishedList) (b : BookParts) → q ≡ p → IsBeginning p b → IsBeginning q b
begins_same p q b same begins = subst (λ (t : PublishedList). IsBeginning t b) (sym same) begins

pub on_same : (p q : PublishedList) → q ≡ p → ListGoesOn p q
on_same p q same = subst (λ (t : PublishedList). ListGoesOn p t) (sym same) (goes_on_self p)

-- a fact holds at an error too
pub on_err : {T E Q : Type 0} (r : Result T E) → Q → OnErr r Q
on_err (Ok x) q = tt
on_err (Err e) q = q
