-- How a published list goes on.
use Rattle.std.proofs.Common.{◌≡◌, ℕ, ◌-◌, ◌≤◌, Bool, true, false, Some, List, [], ◌∷◌, ◌++◌, length, slice_get, refl, sym, ◌∙◌, ap, subst, arith, inl, inr, length-append}
use mathlib.Core.List.{IsPrefix}
use Rattle.sp_value.specs.Editions.{EditionParts}
use Rattle.sp_publish.specs.Published.{PublishedList, IsList, ListGoesOn, newest_in, with_edition, with_end}
use Rattle.sp_publish.specs.Snapshot.{IsNewestOf, HasOneMore}
use Rattle.sp_publish.specs.Laws.{ListsNeverGoBack}
use Rattle.sp_publish.proofs.Prefixes.{prefix_self, prefix_trans, prefix_get, prefix_length}

pub goes_on_self : (x : PublishedList) → ListGoesOn x x
goes_on_self x = record { list = refl; editions = prefix_self x.editions; ended = λ _. refl }

pub goes_on_trans : (x y z : PublishedList) → ListGoesOn x y → ListGoesOn y z → ListGoesOn x z
goes_on_trans x y z p q = record {
  list = q.list ∙ p.list;
  editions = prefix_trans x.editions y.editions z.editions p.editions q.editions;
  ended = λ e. let same : y ≡ x = p.ended e in q.ended (ap (λ (t : PublishedList). t.ended) same ∙ e) ∙ same;
}

seam : (es : List EditionParts) (e : EditionParts) → slice_get (es ++ e ∷ []) (length es) ≡ Some e
seam [] e = refl
seam (x ∷ es) e = seam es e

-- the last of a list with one edition more
pub newest_more : (es : List EditionParts) (e : EditionParts) → slice_get (es ++ e ∷ []) (length (es ++ e ∷ []) - 1) ≡ Some e
newest_more es e = subst (λ (n : ℕ). slice_get (es ++ e ∷ []) n ≡ Some e) (omega (arith, length-append es (e ∷ []))) (seam es e)

pub at_edition : (p : PublishedList) (e : EditionParts) → p.ended ≡ false → e.number ≡ length p.editions → IsList (with_edition p e) → IsNewestOf (with_edition p e) e false
at_edition p e fresh num known = record {
  newest = newest_more p.editions e;
  count = omega (arith, length-append p.editions (e ∷ []));
  ended_is = fresh;
  known = known;
}

pub at_end : (p : PublishedList) (e : EditionParts) (ended : Bool) → IsNewestOf p e ended → IsNewestOf (with_end p) e true
at_end p e ended at = record {
  newest = at.newest;
  count = at.count;
  ended_is = refl;
  known = record { some = at.known.some; numbered = at.known.numbered; of_one_task = at.known.of_one_task };
}

ended_self : (p : PublishedList) → p.ended ≡ true → with_end p ≡ p
ended_self p e = ap (λ (b : Bool). record p { ended = b }) (sym e)

pub goes_on_next : (p w : PublishedList) → HasOneMore p w → ListGoesOn p w
goes_on_next p w (inl is) = record {
  list = ap (λ (t : PublishedList). t.list) is;
  editions = subst (λ (t : PublishedList). IsPrefix p.editions t.editions) (sym is) (prefix_self p.editions);
  ended = λ e. is ∙ ended_self p e;
}
goes_on_next p w (inr (x, fresh, is)) = record {
  list = ap (λ (t : PublishedList). t.list) is;
  editions = subst (λ (t : PublishedList). IsPrefix p.editions t.editions) (sym is) (x ∷ [], refl);
  ended = λ e. absurd (cc (fresh, e));
}

-- what waits is the list with this edition, where it has that as its newest one and isn't ended
pub waits_edition : (p w : PublishedList) (e : EditionParts) → HasOneMore p w → w.ended ≡ false → newest_in w ≡ Some e → w ≡ with_edition p e
waits_edition p w e (inl is) fresh new = absurd (cc (fresh, ap (λ (t : PublishedList). t.ended) is))
waits_edition p w e (inr (x, is_open, is)) fresh new =
    let last : newest_in (with_edition p x) ≡ Some e = subst (λ (t : PublishedList). newest_in t ≡ Some e) is new in
    let same : x ≡ e = cc (newest_more p.editions x, last) in is ∙ ap (λ (y : EditionParts). with_edition p y) same

-- what waits is the list with its end mark, where that is ended
pub waits_end : (p w : PublishedList) → HasOneMore p w → p.ended ≡ false → w.ended ≡ true → w ≡ with_end p
waits_end p w (inl is) fresh ended = is
waits_end p w (inr (x, is_open, is)) fresh ended = absurd (cc (fresh, ended, ap (λ (t : PublishedList). t.ended) is))

-- the two newest editions of a list that goes on, by their numbers and tasks
pub never_back : ListsNeverGoBack
never_back x y e f on known new last =
    let there : slice_get y.editions (length x.editions - 1) ≡ Some e = prefix_get x.editions y.editions (length x.editions - 1) e on.editions new in
    let num : e.number ≡ length x.editions - 1 = known.numbered (length x.editions - 1) e there in
    let top : f.number ≡ length y.editions - 1 = known.numbered (length y.editions - 1) f last in
    let le : length x.editions ≤ length y.editions = prefix_length x.editions y.editions on.editions in
    (omega arith, same_task y.editions (length x.editions - 1) (length y.editions - 1) e f known.of_one_task there last)
  where
    same_task : (es : List EditionParts) (j k : ℕ) (e f : EditionParts) → ((i : ℕ) (a b : EditionParts) → slice_get es 0 ≡ Some a → slice_get es i ≡ Some b → b.task ≡ a.task) → slice_get es j ≡ Some e → slice_get es k ≡ Some f → f.task ≡ e.task
    same_task [] j k e f h a b = absurd cc
    same_task (x ∷ es) j k e f h a b = h k x f refl b ∙ sym (h j x e refl a)
