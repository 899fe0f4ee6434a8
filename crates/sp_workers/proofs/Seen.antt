-- Editions that were seen in a published list, beside the book whose editions are all published in it.
use Rattle.std.proofs.Common.{◌≡◌, ℕ, ◌+◌, ◌-◌, ◌<◌, ◌≤◌, Bool, true, false, List, length, Some, slice_get, MatchBool, sym, ap, subst, arith, leb, ⊎_elim}
use Rattle.std.proofs.lemmas.Option.{slice_get_within}
use Rattle.std.proofs.lemmas.Bool.Decides.{leb_tells}
use mathlib.Core.List.{IsPrefix}
use Rattle.sp_value.specs.Editions.{EditionParts}
use Rattle.sp_core.specs.Books.{BookParts, IsBook}
use Rattle.sp_core.specs.Settling.{IsOurs}
use Rattle.sp_planner.proofs.Backing.{latest_task}
use Rattle.sp_publish.specs.Published.{PublishedList, IsList, ListGoesOn, newest_in}
use Rattle.sp_publish.proofs.Prefixes.{prefix_self, prefix_get, prefix_whole}
use Rattle.sp_workers.proofs.Beginnings.{edition_at}

-- of two notices of one list the one that tells no more editions is a beginning of the other
seen_begins : (p q : PublishedList) (before : Bool) → MatchBool before (ListGoesOn p q) (ListGoesOn q p) → length p.editions ≤ length q.editions → IsPrefix p.editions q.editions
seen_begins p q true on few = on.editions
seen_begins p q false on few = subst (λ (es : List EditionParts). IsPrefix es q.editions) (prefix_whole q.editions p.editions on.editions few) (prefix_self q.editions)

module _ (b : BookParts) (is : IsBook b) (p : PublishedList) (e : EditionParts) (newest : newest_in p ≡ Some e) where
  -- of all editions the newest one is of the book's task
  pub seen_task : p.editions ≡ b.editions → e.task ≡ b.task
  seen_task whole = latest_task b is e (subst (λ (es : List EditionParts). slice_get es (length es - 1) ≡ Some e) whole newest)

  module _ (q : PublishedList) (whole : q.editions ≡ b.editions) where
    -- the newest edition of a beginning is the book's
    seen_ours : (before : Bool) → MatchBool before (ListGoesOn p q) (ListGoesOn q p) → length p.editions ≤ length q.editions → IsOurs b e
    seen_ours before on few =
        let at : slice_get b.editions (length p.editions - 1) ≡ Some e =
        subst (λ (es : List EditionParts). slice_get es (length p.editions - 1) ≡ Some e) whole
        (prefix_get p.editions q.editions (length p.editions - 1) e (seen_begins p q before on few) newest) in
        subst (λ (n : ℕ). slice_get b.editions n ≡ Some e) (sym (edition_at b is (length p.editions - 1) e at).0) at

    -- that of a longer list isn't
    seen_other : IsList p → length q.editions < length p.editions → ¬ IsOurs b e
    seen_other known more ours =
        let within = slice_get_within b.editions e.number e ours in
        let number = known.numbered (length p.editions - 1) e newest in
        let count = ap (λ (es : List EditionParts). length es) whole in
        omega (arith, within, number, count, more)

    -- the numbers of the newest editions tell
    pub seen_tells : (before : Bool) → MatchBool before (ListGoesOn p q) (ListGoesOn q p) → IsList p → (m n : ℕ) → length p.editions ≡ m + 1 → length q.editions ≡ n + 1
        → MatchBool (leb m n) (IsOurs b e) (¬ IsOurs b e)
    seen_tells before on known m n mine theirs =
        ⊎_elim (λ (t : (leb m n ≡ true) × (m ≤ n)). rw t.0 (seen_ours before on (omega (arith, mine, theirs, t.1))))
        (λ (t : (leb m n ≡ false) × (n < m)). rw t.0 (seen_other known (omega (arith, mine, theirs, t.1)))) (leb_tells m n)
