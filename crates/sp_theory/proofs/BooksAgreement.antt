-- What may come next after a book, and what it leads to, is the same after a book that agrees with it.
use Rattle.std.proofs.Common.{◌≡◌, ℕ, zero, suc, ◌<◌, ◌-◌, List, [], ◌∷◌, ◌++◌, length, get_or, refl, sym, ap, ◌∙◌, subst, arith, Bool, true, false, cond, not, ◌||◌, Option, Some, None, eqb}
use Rattle.std.specs.Prelude.{◌≤ℤ◌, int_lt}
use Rattle.std.proofs.lemmas.Bool.{eqb-true}
use Rattle.std.proofs.lemmas.Bool.Decides.{Decides-eqb}
use Rattle.std.proofs.lemmas.List.Folds.{Any-from_list_any, list_any-from_Any}
use Rattle.sp_theory.specs.Model.{Model}
use Rattle.sp_theory.specs.Plan.{Record, record_at, link_of}
use Rattle.sp_theory.specs.Values.{Member, Edition, dot, greatest_member, value}
use Rattle.sp_theory.specs.Book.{Task, Book, Event, settle, publish, prune, end, editions, settled_record, settled_member, entering, entered, without, IsPresent, AreUnder, CanPrune, Allowed, after_event}
use Rattle.sp_theory.proofs.Pruning.{get_or_any}
use Rattle.sp_theory.specs.Agreement.{WeightsAgree, MembersAgree, EditionsAgree, AllAgree}
use Rattle.sp_theory.specs.BooksAgreement.{RecordAgrees, RecordsAgree, EntrantsAgree, BooksAgree}
use Rattle.sp_theory.proofs.Steps.{step_same}
use Rattle.sp_theory.proofs.Agreement.{dot_same, greatest_member_agrees, value_same, backup_same}
use Rattle.sp_theory.proofs.PairsAgreement.{list_any_same, without_agrees, pruned_agrees}

-- ---- lists
module _ (m : Model) where
  pub records-length : (rs ss : List Record) → RecordsAgree m rs ss → length rs ≡ length ss
  records-length [] [] agree = refl
  records-length (r ∷ rs) (s ∷ ss) (first, rest) = ap suc (records-length rs ss rest)
  records-length [] (s ∷ ss) agree = absurd agree
  records-length (r ∷ rs) [] agree = absurd agree

  pub records-push : (rs ss : List Record) (r s : Record) → RecordsAgree m rs ss → RecordAgrees m r s → RecordsAgree m (rs ++ r ∷ []) (ss ++ s ∷ [])
  records-push [] [] r s agree last = (last, tt)
  records-push (x ∷ rs) (y ∷ ss) r s (first, rest) last = (first, records-push rs ss r s rest last)
  records-push [] (y ∷ ss) r s agree last = absurd agree
  records-push (x ∷ rs) [] r s agree last = absurd agree

  pub record_at-agrees : (rs ss : List Record) (i : ℕ) → RecordsAgree m rs ss → RecordAgrees m (record_at m rs i) (record_at m ss i)
  unfolding record_at
  record_at-agrees [] [] i agree = (refl, refl, λ s p. refl)
  record_at-agrees (r ∷ rs) (s ∷ ss) zero (first, rest) = first
  record_at-agrees (r ∷ rs) (s ∷ ss) (suc i) (first, rest) = record_at-agrees rs ss i rest
  record_at-agrees [] (s ∷ ss) i agree = absurd agree
  record_at-agrees (r ∷ rs) [] i agree = absurd agree

  pub members-push : (xs ys : Edition) (x y : Member) → EditionsAgree m xs ys → MembersAgree m x y → EditionsAgree m (xs ++ x ∷ []) (ys ++ y ∷ [])
  members-push [] [] x y agree last = (last, tt)
  members-push (v ∷ xs) (w ∷ ys) x y (first, rest) last = (first, members-push xs ys x y rest last)
  members-push [] (w ∷ ys) x y agree last = absurd agree
  members-push (v ∷ xs) [] x y agree last = absurd agree

  pub editions-length : (xs ys : List Edition) → AllAgree m xs ys → length xs ≡ length ys
  editions-length [] [] agree = refl
  editions-length (x ∷ xs) (y ∷ ys) (first, rest) = ap suc (editions-length xs ys rest)
  editions-length [] (y ∷ ys) agree = absurd agree
  editions-length (x ∷ xs) [] agree = absurd agree

  pub editions-push : (xs ys : List Edition) (x y : Edition) → AllAgree m xs ys → EditionsAgree m x y → AllAgree m (xs ++ x ∷ []) (ys ++ y ∷ [])
  editions-push [] [] x y agree last = (last, tt)
  editions-push (v ∷ xs) (w ∷ ys) x y (first, rest) last = (first, editions-push xs ys x y rest last)
  editions-push [] (w ∷ ys) x y agree last = absurd agree
  editions-push (v ∷ xs) [] x y agree last = absurd agree

  pub edition_at-agrees : (xs ys : List Edition) (i : ℕ) (d e : Edition) → AllAgree m xs ys → EditionsAgree m d e → EditionsAgree m (get_or xs i d) (get_or ys i e)
  edition_at-agrees [] [] i d e agree none = none
  edition_at-agrees (x ∷ xs) (y ∷ ys) zero d e (first, rest) none = first
  edition_at-agrees (x ∷ xs) (y ∷ ys) (suc i) d e (first, rest) none = edition_at-agrees xs ys i d e rest none
  edition_at-agrees [] (y ∷ ys) i d e agree none = absurd agree
  edition_at-agrees (x ∷ xs) [] i d e agree none = absurd agree

  -- ---- prunes
  present_agrees : (xs ys : Edition) (id : ℕ) → EditionsAgree m xs ys → IsPresent xs id → IsPresent ys id
  present_agrees xs ys id agree (k, x, less, is, same) =
      let there = list_any-from_Any (λ z. eqb z.id id) xs (k, x, less, is, (Decides-eqb x.id id).1 same) in
      let (j, y, within, at, equal) = Any-from_list_any (λ z. eqb z.id id) ys (sym (list_any_same m id xs ys agree) ∙ there) in
      (j, y, within, at, eqb-true y.id id equal)

  members-length : (xs ys : Edition) → EditionsAgree m xs ys → length xs ≡ length ys
  members-length [] [] agree = refl
  members-length (x ∷ xs) (y ∷ ys) (first, rest) = ap suc (members-length xs ys rest)
  members-length [] (y ∷ ys) agree = absurd agree
  members-length (x ∷ xs) [] agree = absurd agree

  member_at-agrees : (xs ys : Edition) (k : ℕ) (d e : Member) → EditionsAgree m xs ys → k < length ys → MembersAgree m (get_or xs k d) (get_or ys k e)
  member_at-agrees [] [] k d e agree less = absurd (omega (arith, less))
  member_at-agrees (x ∷ xs) (y ∷ ys) zero d e (first, rest) less = first
  member_at-agrees (x ∷ xs) (y ∷ ys) (suc k) d e (first, rest) less = member_at-agrees xs ys k d e rest (omega (arith, less))
  member_at-agrees [] (y ∷ ys) k d e agree less = absurd agree
  member_at-agrees (x ∷ xs) [] k d e agree less = absurd agree

  under_agrees : (xs ys : Edition) (x y : ℕ) → EditionsAgree m xs ys → AreUnder m xs x y → AreUnder m ys x y
  under_agrees xs ys x y agree under k e less id =
      let same = members-length xs ys agree in
      let here = member_at-agrees xs ys k e e agree less in
      let (j, r, within, is, (its, low)) = under k e (omega (arith, less, same)) (here.0 ∙ id) in
      let there_less : j < length ys = omega (arith, within, same) in
      let there = member_at-agrees xs ys j r r agree there_less in (
        j,
        get_or ys j r,
        there_less,
        get_or_any ys j (get_or ys j r) r there_less,
        (
          sym there.0 ∙ ap (λ (z : Member). z.id) is ∙ its,
          λ s p. subst (λ z. z ≤ℤ (get_or ys j r).vector s) (here.2 s p) (subst (λ z. (get_or xs k e).vector s ≤ℤ z) (ap (λ (z : Member). z.vector s) (sym is) ∙ there.2 s p) (low s p)),
        ),
      )

  can_prune_agrees : (xs ys : Edition) (pairs : List (ℕ × ℕ)) → EditionsAgree m xs ys → CanPrune m xs pairs → CanPrune m ys pairs
  can_prune_agrees xs ys [] agree can = tt
  can_prune_agrees xs ys ((x, y) ∷ pairs) agree (differ, has_x, has_y, under, rest) =
      (differ, present_agrees xs ys x agree has_x, present_agrees xs ys y agree has_y, under_agrees xs ys x y agree under, can_prune_agrees (without xs x) (without ys x) pairs (without_agrees m xs ys x agree) rest)

-- ---- books
module _ (t : Task) (b c : Book) (agree : BooksAgree t b c) where
  same_weights : (k : ℕ) → WeightsAgree t.model (t.samples k) (t.samples k)
  same_weights k s p = refl

  editions_agree : AllAgree t.model (editions b) (editions c)
  editions_agree = editions-push t.model b.earlier c.earlier b.latest c.latest agree.earlier agree.latest

  pub allowed_agrees : (e : Event) → Allowed t b e → Allowed t c e
  unfolding Allowed
  allowed_agrees (settle k e a links) (going, within, exists, backup) = (
    sym agree.done ∙ going,
    within,
    subst (λ (n : ℕ). e < n) (editions-length t.model (editions b) (editions c) editions_agree) exists,
    backup_same t.model (get_or (editions b) e b.latest) (get_or (editions c) e c.latest) (t.samples k) (t.samples k) (edition_at-agrees t.model (editions b) (editions c) e b.latest c.latest editions_agree agree.latest) (same_weights k) a links backup,
  )
  allowed_agrees publish (going, up) = (sym agree.done ∙ going, λ k less. sym (agree.improved k less) ∙ up k less)
  allowed_agrees (prune pairs) (going, some, can) = (sym agree.done ∙ going, some, can_prune_agrees t.model b.latest c.latest pairs agree.latest can)
  allowed_agrees end (going, none) = (sym agree.done ∙ going, sym agree.stages_left ∙ none)

  pub settled_agrees : (a : ℕ) (links : List ℕ) → RecordAgrees t.model (settled_record t b a links) (settled_record t c a links)
  settled_agrees a links = (refl, refl, λ s p. step_same t.model a _ _ s (λ seen next o n. (record_at-agrees t.model b.records c.records (link_of t.model links seen) agree.records).2 next n))

  -- what enters, for members that agree
  pub entering_agrees : (k : ℕ) (x y : Member) → k < t.beliefs → MembersAgree t.model x y → EntrantsAgree t.model (entering t b k x) (entering t c k y)
  unfolding entering
  entering_agrees k x y less members =
      subst (λ (r : Bool). EntrantsAgree t.model (cond (b.improved k) (cond better (Some x) None) (cond worse (Some old) (Some x))) (cond r (cond better' (Some y) None) (cond worse' (Some old') (Some y)))) (agree.improved k less)
      (subst (λ (r : Bool). EntrantsAgree t.model (cond (b.improved k) (cond better (Some x) None) (cond worse (Some old) (Some x))) (cond (b.improved k) (cond r (Some y) None) (cond worse' (Some old') (Some y)))) (λ h. int_lt (value_same t.model b.grown c.grown (t.samples k) (t.samples k) agree.grown (same_weights k) h) (worth h))
      (subst (λ (r : Bool). EntrantsAgree t.model (cond (b.improved k) (cond better (Some x) None) (cond worse (Some old) (Some x))) (cond (b.improved k) (cond better (Some y) None) (cond r (Some old') (Some y)))) (λ h. int_lt (worth h) (value_same t.model b.latest c.latest (t.samples k) (t.samples k) agree.latest (same_weights k) h))
      (by_test (b.improved k) better worse)))
    where
      worth : dot t.model (t.samples k) x.vector ≡ dot t.model (t.samples k) y.vector
      worth = dot_same t.model (t.samples k) (t.samples k) x.vector y.vector (same_weights k) members.2

      better : Bool
      better = int_lt (value t.model b.grown (t.samples k)) (dot t.model (t.samples k) x.vector)

      better' : Bool
      better' = int_lt (value t.model c.grown (t.samples k)) (dot t.model (t.samples k) y.vector)

      worse : Bool
      worse = int_lt (dot t.model (t.samples k) x.vector) (value t.model b.latest (t.samples k))

      worse' : Bool
      worse' = int_lt (dot t.model (t.samples k) y.vector) (value t.model c.latest (t.samples k))

      old : Member
      old = greatest_member t.model b.latest (t.samples k)

      old' : Member
      old' = greatest_member t.model c.latest (t.samples k)

      by_test : (r g l : Bool) → EntrantsAgree t.model (cond r (cond g (Some x) None) (cond l (Some old) (Some x))) (cond r (cond g (Some y) None) (cond l (Some old') (Some y)))
      by_test true true l = members
      by_test true false l = tt
      by_test false g true = greatest_member_agrees t.model b.latest c.latest (t.samples k) (t.samples k) agree.latest (same_weights k)
      by_test false g false = members

  pub entered_agrees : (o p : Option Member) → EntrantsAgree t.model o p → BooksAgree t (entered t b o) (entered t c p)
  unfolding entered
  entered_agrees None None entrants = agree
  entered_agrees (Some x) (Some y) entrants = record {
    records = agree.records;
    earlier = agree.earlier;
    latest = agree.latest;
    grown = members-push t.model b.grown c.grown x y agree.grown entrants;
    improved = λ k less. λ h. agree.improved k less h || not (int_lt (dot_same t.model (t.samples k) (t.samples k) x.vector y.vector (same_weights k) entrants.2 h) (value_same t.model b.latest c.latest (t.samples k) (t.samples k) agree.latest (same_weights k) h));
    stages_left = agree.stages_left;
    done = agree.done;
  }
  entered_agrees None (Some y) entrants = absurd entrants
  entered_agrees (Some x) None entrants = absurd entrants

more_agrees : (t : Task) (b c : Book) → BooksAgree t b c → (r s : Record) → RecordAgrees t.model r s → BooksAgree t (record b { records = b.records ++ r ∷ [] }) (record c { records = c.records ++ s ∷ [] })
more_agrees t b c agree r s last = record { records = records-push t.model b.records c.records r s agree.records last; earlier = agree.earlier; latest = agree.latest; grown = agree.grown; improved = agree.improved; stages_left = agree.stages_left; done = agree.done }

-- an event at a belief of the task leads from books that agree to books that agree
pub after_event_agrees : (t : Task) (b c : Book) → BooksAgree t b c → (e : Event) → Allowed t b e → BooksAgree t (after_event t b e) (after_event t c e)
unfolding after_event Allowed
after_event_agrees t b c agree (settle k e a links) (going, within, exists, backup) =
    let last = settled_agrees t b c agree a links in
    entered_agrees t _ _ (more_agrees t b c agree _ _ last) _ _
    (entering_agrees t b c agree k (settled_member t b a links) (settled_member t c a links) within (records-length t.model b.records c.records agree.records, refl, last.2))
after_event_agrees t b c agree publish allowed = record {
  records = agree.records;
  earlier = editions-push t.model b.earlier c.earlier b.latest c.latest agree.earlier agree.latest;
  latest = agree.grown;
  grown = tt;
  improved = λ k less. refl;
  stages_left = ap (λ (n : ℕ). n - 1) agree.stages_left;
  done = agree.done;
}
after_event_agrees t b c agree (prune pairs) allowed = record {
  records = agree.records;
  earlier = editions-push t.model b.earlier c.earlier b.latest c.latest agree.earlier agree.latest;
  latest = pruned_agrees t.model b.latest c.latest pairs agree.latest;
  grown = agree.grown;
  improved = agree.improved;
  stages_left = agree.stages_left;
  done = agree.done;
}
after_event_agrees t b c agree end allowed = record { records = agree.records; earlier = agree.earlier; latest = agree.latest; grown = agree.grown; improved = agree.improved; stages_left = agree.stages_left; done = refl }
