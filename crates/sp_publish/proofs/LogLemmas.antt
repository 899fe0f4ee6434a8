-- The log of a published list, and the list that it tells.
use Rattle.std.proofs.Common.{◌≡◌, ℕ, zero, suc, ◌+◌, ◌<◌, ◌≤◌, Bool, true, false, Some, List, [], ◌∷◌, ◌++◌, length, slice_get, refl, sym, ◌∙◌, ap, subst, arith, inl, inr, length-append, ⊎_elim, ◌⊎◌}
use Rattle.std.proofs.lemmas.List.{append-nil}
use mathlib.Core.List.{IsPrefix}
use Rattle.logbook.specs.Pages.{Book}
use Rattle.sp_value.specs.Editions.{EditionParts}
use Rattle.sp_publish.specs.declared.item.Item.{Item}
use Rattle.sp_publish.specs.declared.item.Item.TheVariants.{Made, End}
use Rattle.sp_publish.specs.Published.{PublishedList, AreAtTheirPlaces, AreOfOneTask, IsList, ListGoesOn, size_of}
use Rattle.sp_publish.specs.Logs.{editions_in, has_end, NothingFollowsEnd, IsLegalLog, MayFollow, published_by, with_item}
use Rattle.sp_publish.proofs.Prefixes.{prefix_shorter}

editions_append : (xs ys : List Item) → editions_in (xs ++ ys) ≡ editions_in xs ++ editions_in ys
editions_append [] ys = refl
editions_append (Made e ∷ xs) ys = ap (λ (es : List EditionParts). e ∷ es) (editions_append xs ys)
editions_append (End ∷ xs) ys = editions_append xs ys

made_open : (log : List Item) (e : EditionParts) → has_end (log ++ Made e ∷ []) ≡ has_end log
made_open [] e = refl
made_open (Made f ∷ xs) e = made_open xs e
made_open (End ∷ xs) e = refl

end_there : (log : List Item) → has_end (log ++ End ∷ []) ≡ true
end_there [] = refl
end_there (Made f ∷ xs) = end_there xs
end_there (End ∷ xs) = refl

abbrev told : Book → List EditionParts × Bool → PublishedList
told b t = record { list = b; editions = t.0; ended = t.1 }

-- the list that the log tells with one item more
pub published_more : (b : Book) (log : List Item) (x : Item) → published_by b (log ++ x ∷ []) ≡ with_item (published_by b log) x
published_more b log (Made e) =
    ap (told b) (cc (editions_append log (Made e ∷ []), made_open log e))
published_more b log End =
    ap (told b) (cc (editions_append log (End ∷ []) ∙ append-nil (editions_in log), end_there log))

closed_more : (log : List Item) (x : Item) → has_end log ≡ false → NothingFollowsEnd log → NothingFollowsEnd (log ++ x ∷ [])
closed_more [] (Made e) fresh h = tt
closed_more [] End fresh h = refl
closed_more (Made f ∷ xs) x fresh h = closed_more xs x fresh h
closed_more (End ∷ xs) x fresh h = absurd (cc (fresh))

-- what stands in a list with one edition more
more_at : (es : List EditionParts) (e f : EditionParts) (k : ℕ) → slice_get (es ++ e ∷ []) k ≡ Some f → (slice_get es k ≡ Some f) ⊎ ((k ≡ length es) × (f ≡ e))
more_at [] e f zero h = inr (refl, cc (h))
more_at [] e f (suc k) h = absurd (cc (h))
more_at (x ∷ es) e f zero h = inl h
more_at (x ∷ es) e f (suc k) h = ⊎_elim (λ (t : slice_get es k ≡ Some f). inl t) (λ (t : (k ≡ length es) × (f ≡ e)). inr (omega arith, t.1)) (more_at es e f k h)

first_more : (es : List EditionParts) (e a : EditionParts) → slice_get (es ++ e ∷ []) 0 ≡ Some a → (slice_get es 0 ≡ Some a) ⊎ ((es ≡ []) × (a ≡ e))
first_more [] e a h = inr (refl, cc (h))
first_more (x ∷ es) e a h = inl h

numbered_more : (es : List EditionParts) (e : EditionParts) → AreAtTheirPlaces es → e.number ≡ length es → AreAtTheirPlaces (es ++ e ∷ [])
numbered_more es e h num k f at =
    ⊎_elim (λ (t : slice_get es k ≡ Some f). h k f t) (λ (t : (k ≡ length es) × (f ≡ e)). ap (λ (x : EditionParts). x.number) t.1 ∙ (num ∙ sym t.0)) (more_at es e f k at)

one_task_more : (es : List EditionParts) (e : EditionParts) → AreOfOneTask es → ((a : EditionParts) → slice_get es 0 ≡ Some a → a.task ≡ e.task) → AreOfOneTask (es ++ e ∷ [])
one_task_more [] e h task k a f first at = by_place (more_at [] e f k at) (cc (first))
  where
    by_place : ((slice_get {X = EditionParts} [] k ≡ Some f) ⊎ ((k ≡ zero) × (f ≡ e))) → e ≡ a → f.task ≡ a.task
    by_place (inl t) same = absurd cc
    by_place (inr t) same = ap (λ (x : EditionParts). x.task) (t.1 ∙ same)
one_task_more (x ∷ es) e h task k a f first at =
    ⊎_elim (λ (t : slice_get (x ∷ es) k ≡ Some f). h k a f first t) (λ (t : (k ≡ length (x ∷ es)) × (f ≡ e)). ap (λ (y : EditionParts). y.task) t.1 ∙ sym (task a first)) (more_at (x ∷ es) e f k at)

-- a legal log with an item that may follow is legal
pub legal_more : (b : Book) (log : List Item) (x : Item) → IsLegalLog log → MayFollow (published_by b log) x → IsLegalLog (log ++ x ∷ [])
legal_more b log (Made e) h may =
    let is : editions_in (log ++ Made e ∷ []) ≡ editions_in log ++ e ∷ [] = editions_append log (Made e ∷ []) in record {
      numbered = subst AreAtTheirPlaces (sym is) (numbered_more (editions_in log) e h.numbered may.1);
      of_one_task = subst AreOfOneTask (sym is) (one_task_more (editions_in log) e h.of_one_task may.2);
      closed = closed_more log (Made e) may.0 h.closed;
    }
legal_more b log End h may =
    let is : editions_in (log ++ End ∷ []) ≡ editions_in log = editions_append log (End ∷ []) ∙ append-nil (editions_in log) in record {
      numbered = subst AreAtTheirPlaces (sym is) h.numbered;
      of_one_task = subst AreOfOneTask (sym is) h.of_one_task;
      closed = closed_more log End may.0 h.closed;
    }

some_more : (p : PublishedList) (x : Item) → MayFollow p x → 0 < length (with_item p x).editions
some_more p (Made e) may = omega (arith, length-append p.editions (e ∷ []))
some_more p End may = may.1

-- the list that such a log tells keeps what each list keeps
pub list_more : (b : Book) (log : List Item) (x : Item) → IsLegalLog log → MayFollow (published_by b log) x → IsList (published_by b (log ++ x ∷ []))
list_more b log x h may =
    let legal : IsLegalLog (log ++ x ∷ []) = legal_more b log x h may in record {
      some = subst (λ (p : PublishedList). 0 < length p.editions) (sym (published_more b log x)) (some_more (published_by b log) x may);
      numbered = legal.numbered;
      of_one_task = legal.of_one_task;
    }

-- a log has as many items as its list
pub size_is : (b : Book) (log : List Item) → NothingFollowsEnd log → length log ≡ size_of (published_by b log)
size_is b [] h = refl
size_is b (Made e ∷ xs) h = let rest = size_is b xs h in omega arith
size_is b (End ∷ []) h = refl
size_is b (End ∷ x ∷ xs) h = absurd (cc (h))

-- an ended beginning of a log in which nothing follows the end is the whole log
ended_whole : (xs ys : List Item) → IsPrefix xs ys → has_end xs ≡ true → NothingFollowsEnd ys → xs ≡ ys
ended_whole [] ys p e f = absurd (cc (e))
ended_whole (x ∷ xs) [] p e f = absurd (cc (p.1))
ended_whole (Made a ∷ xs) (Made c ∷ ys) p e f =
    let rest = ended_whole xs ys (p.0, cc (p.1)) e f in cc (p.1, rest)
ended_whole (Made a ∷ xs) (End ∷ ys) p e f = absurd (cc (p.1))
ended_whole (End ∷ xs) (Made c ∷ ys) p e f = absurd (cc (p.1))
ended_whole (End ∷ []) (End ∷ ys) p e f = ap (λ (zs : List Item). End ∷ zs) (sym f)
ended_whole (End ∷ x ∷ xs) (End ∷ ys) p e f = absurd (cc (p.1, f))

-- the list of a log goes on from that of each beginning of the log
pub goes_on_by_log : (b : Book) (xs ys : List Item) → IsPrefix xs ys → IsLegalLog ys → ListGoesOn (published_by b xs) (published_by b ys)
goes_on_by_log b xs ys p h = record {
  list = refl;
  editions = (editions_in p.0, sym (editions_append xs p.0) ∙ ap editions_in p.1);
  ended = λ e. ap (published_by b) (sym (ended_whole xs ys p e h.closed));
}

-- of two lists told by beginnings of one log the one with more items goes on from the other
pub shorter_goes_on : (b : Book) (xs ys zs : List Item) → IsPrefix xs zs → IsPrefix ys zs → IsLegalLog xs → IsLegalLog ys
    → size_of (published_by b xs) ≤ size_of (published_by b ys) → ListGoesOn (published_by b xs) (published_by b ys)
shorter_goes_on b xs ys zs p q hx hy le =
    let short : length xs ≤ length ys = omega (arith, size_is b xs hx.closed, size_is b ys hy.closed) in
    goes_on_by_log b xs ys (prefix_shorter xs ys zs p q short) hy

-- what a step that adds an item tells of the list
pub added_is : (b c : Book) (log new : List Item) (x y : Item) (p q r : PublishedList) → published_by b log ≡ p → p ≡ q → c ≡ b → new ≡ log ++ x ∷ [] → x ≡ y → r ≡ published_by c new → r ≡ with_item q y
added_is b c log new x y p q r told view one is ask of_is =
    of_is ∙ (ap (λ (d : Book). published_by d new) one ∙ (ap (published_by b) is ∙ (published_more b log x ∙ (ap (λ (t : PublishedList). with_item t x) (told ∙ view) ∙ ap (with_item q) ask))))

pub added_size : (b c : Book) (log new : List Item) (x : Item) (p r : PublishedList) (n : ℕ) → published_by b log ≡ p → r ≡ published_by c new → new ≡ log ++ x ∷ [] → NothingFollowsEnd log → NothingFollowsEnd new
    → n ≡ size_of p → n + 1 ≡ size_of r
added_size b c log new x p r n told of_is is closed closed' num =
    let old : length log ≡ size_of p = subst (λ (t : PublishedList). length log ≡ size_of t) told (size_is b log closed) in
    let now : length new ≡ size_of r = subst (λ (t : PublishedList). length new ≡ size_of t) (sym of_is) (size_is c new closed') in
    omega (arith, old, now, num, ap length is ∙ length-append log (x ∷ []))

pub added_list : (b c : Book) (log new : List Item) (x y : Item) (p q r : PublishedList) → published_by b log ≡ p → p ≡ q → c ≡ b → new ≡ log ++ x ∷ [] → x ≡ y → r ≡ published_by c new
    → IsLegalLog log → MayFollow q y → IsList r
added_list b c log new x y p q r told view one is ask of_is legal may =
    let may' : MayFollow (published_by b log) x = subst (λ (t : PublishedList). MayFollow t x) (sym (told ∙ view)) (subst (MayFollow q) (sym ask) may) in
    subst IsList (sym (of_is ∙ (ap (λ (d : Book). published_by d new) one ∙ ap (published_by b) is))) (list_more b log x legal may')
