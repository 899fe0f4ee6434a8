-- Two tasks of one model, whose weights agree at each sampled belief, have the same legal runs, and these lead to editions that agree.
use Rattle.std.proofs.Common.{◌≡◌, ℕ, ◌<◌, ◌-◌, List, [], ◌∷◌, ◌++◌, get_or, refl, sym, ap, ◌∙◌, subst, Bool, true, false, cond, not, ◌||◌, Option, Some, None}
use Rattle.std.specs.Prelude.{int_lt}
use Rattle.sp_theory.specs.Model.{Model}
use Rattle.sp_theory.specs.Plan.{Record}
use Rattle.sp_theory.specs.Values.{Weights, Member, dot, greatest_member, value}
use Rattle.sp_theory.specs.Book.{Task, Book, Event, settle, publish, prune, end, opening, editions, settled_member, entering, entered, Allowed, after_event}
use Rattle.sp_theory.specs.Runs.{IsHistory, IsLegal, replay}
use Rattle.sp_theory.specs.Agreement.{WeightsAgree, MembersAgree, AllAgree}
use Rattle.sp_theory.specs.BooksAgreement.{RecordAgrees, EntrantsAgree, BooksAgree}
use Rattle.sp_theory.proofs.Agreement.{leaf_agrees, dot_same, greatest_member_agrees, value_same, backup_same}
use Rattle.sp_theory.proofs.PairsAgreement.{pruned_agrees}
use Rattle.sp_theory.proofs.BooksAgreement.{records-length, records-push, members-push, editions-length, editions-push, edition_at-agrees, allowed_agrees, settled_agrees}

module _ (m : Model) (n stages : ℕ) (v w : ℕ → Weights) (same : (k : ℕ) → k < n → WeightsAgree m (v k) (w k)) where
  abbrev pub one : Task
  one = record { model = m; beliefs = n; samples = v; stages = stages }

  abbrev pub other : Task
  other = record { model = m; beliefs = n; samples = w; stages = stages }

  module _ (b c : Book) (agree : BooksAgree one b c) where
    all_agree : AllAgree m (editions b) (editions c)
    all_agree = editions-push m b.earlier c.earlier b.latest c.latest agree.earlier agree.latest

    may_too : (e : Event) → Allowed one b e → Allowed other c e
    unfolding Allowed
    may_too (settle k e a links) (going, within, exists, backup) = (
      sym agree.done ∙ going,
      within,
      subst (λ (i : ℕ). e < i) (editions-length m (editions b) (editions c) all_agree) exists,
      backup_same m (get_or (editions b) e b.latest) (get_or (editions c) e c.latest) (v k) (w k) (edition_at-agrees m (editions b) (editions c) e b.latest c.latest all_agree agree.latest) (same k within) a links backup,
    )
    may_too publish allowed = allowed_agrees one b c agree publish allowed
    may_too (prune pairs) allowed = allowed_agrees one b c agree (prune pairs) allowed
    may_too end allowed = allowed_agrees one b c agree end allowed

    -- what enters, for members that agree
    enters_too : (k : ℕ) (x y : Member) → k < n → MembersAgree m x y → EntrantsAgree m (entering one b k x) (entering other c k y)
    unfolding entering
    enters_too k x y less members =
        subst (λ (r : Bool). EntrantsAgree m (cond (b.improved k) (cond better (Some x) None) (cond worse (Some old) (Some x))) (cond r (cond better' (Some y) None) (cond worse' (Some old') (Some y)))) (agree.improved k less)
        (subst (λ (r : Bool). EntrantsAgree m (cond (b.improved k) (cond better (Some x) None) (cond worse (Some old) (Some x))) (cond (b.improved k) (cond r (Some y) None) (cond worse' (Some old') (Some y)))) (λ h. int_lt (value_same m b.grown c.grown (v k) (w k) agree.grown (same k less) h) (worth h))
        (subst (λ (r : Bool). EntrantsAgree m (cond (b.improved k) (cond better (Some x) None) (cond worse (Some old) (Some x))) (cond (b.improved k) (cond better (Some y) None) (cond r (Some old') (Some y)))) (λ h. int_lt (worth h) (value_same m b.latest c.latest (v k) (w k) agree.latest (same k less) h))
        (by_test (b.improved k) better worse)))
      where
        worth : dot m (v k) x.vector ≡ dot m (w k) y.vector
        worth = dot_same m (v k) (w k) x.vector y.vector (same k less) members.2

        better : Bool
        better = int_lt (value m b.grown (v k)) (dot m (v k) x.vector)

        better' : Bool
        better' = int_lt (value m c.grown (w k)) (dot m (w k) y.vector)

        worse : Bool
        worse = int_lt (dot m (v k) x.vector) (value m b.latest (v k))

        worse' : Bool
        worse' = int_lt (dot m (w k) y.vector) (value m c.latest (w k))

        old : Member
        old = greatest_member m b.latest (v k)

        old' : Member
        old' = greatest_member m c.latest (w k)

        by_test : (r g l : Bool) → EntrantsAgree m (cond r (cond g (Some x) None) (cond l (Some old) (Some x))) (cond r (cond g (Some y) None) (cond l (Some old') (Some y)))
        by_test true true l = members
        by_test true false l = tt
        by_test false g true = greatest_member_agrees m b.latest c.latest (v k) (w k) agree.latest (same k less)
        by_test false g false = members

    entered_too : (o p : Option Member) → EntrantsAgree m o p → BooksAgree one (entered one b o) (entered other c p)
    unfolding entered
    entered_too None None entrants = agree
    entered_too (Some x) (Some y) entrants = record {
      records = agree.records;
      earlier = agree.earlier;
      latest = agree.latest;
      grown = members-push m b.grown c.grown x y agree.grown entrants;
      improved = λ k less. λ h. agree.improved k less h || not (int_lt (dot_same m (v k) (w k) x.vector y.vector (same k less) entrants.2 h) (value_same m b.latest c.latest (v k) (w k) agree.latest (same k less) h));
      stages_left = agree.stages_left;
      done = agree.done;
    }
    entered_too None (Some y) entrants = absurd entrants
    entered_too (Some x) None entrants = absurd entrants

  more_too : (b c : Book) → BooksAgree one b c → (r s : Record) → RecordAgrees m r s → BooksAgree one (record b { records = b.records ++ r ∷ [] }) (record c { records = c.records ++ s ∷ [] })
  more_too b c agree r s last = record { records = records-push m b.records c.records r s agree.records last; earlier = agree.earlier; latest = agree.latest; grown = agree.grown; improved = agree.improved; stages_left = agree.stages_left; done = agree.done }

  after_too : (b c : Book) → BooksAgree one b c → (e : Event) → Allowed one b e → BooksAgree one (after_event one b e) (after_event other c e)
  unfolding after_event Allowed
  after_too b c agree (settle k e a links) (going, within, exists, backup) =
      let last = settled_agrees one b c agree a links in
      entered_too _ _ (more_too b c agree _ _ last) _ _
      (enters_too b c agree k (settled_member one b a links) (settled_member other c a links) within (records-length m b.records c.records agree.records, refl, last.2))
  after_too b c agree publish allowed = record {
    records = agree.records;
    earlier = editions-push m b.earlier c.earlier b.latest c.latest agree.earlier agree.latest;
    latest = agree.grown;
    grown = tt;
    improved = λ k less. refl;
    stages_left = ap (λ (i : ℕ). i - 1) agree.stages_left;
    done = agree.done;
  }
  after_too b c agree (prune pairs) allowed = record {
    records = agree.records;
    earlier = editions-push m b.earlier c.earlier b.latest c.latest agree.earlier agree.latest;
    latest = pruned_agrees m b.latest c.latest pairs agree.latest;
    grown = agree.grown;
    improved = agree.improved;
    stages_left = agree.stages_left;
    done = agree.done;
  }
  after_too b c agree end allowed = record { records = agree.records; earlier = agree.earlier; latest = agree.latest; grown = agree.grown; improved = agree.improved; stages_left = agree.stages_left; done = refl }

  history_too : (b c : Book) → BooksAgree one b c → (es : List Event) → IsHistory one b es → IsHistory other c es × BooksAgree one (replay one b es) (replay other c es)
  unfolding IsHistory replay
  history_too b c agree [] history = (tt, agree)
  history_too b c agree (e ∷ es) (allowed, rest) =
      let (history, last) = history_too (after_event one b e) (after_event other c e) (after_too b c agree e allowed) es rest in
      ((may_too b c agree e allowed, history), last)

  opening_too : BooksAgree one (opening one) (opening other)
  unfolding opening
  opening_too = record { records = ((refl, refl, λ s p. refl), tt); earlier = tt; latest = (leaf_agrees m, tt); grown = tt; improved = λ k less. refl; stages_left = refl; done = refl }

  -- a legal run of the one task is one of the other
  pub legal_too : (es : List Event) → IsLegal one es → IsLegal other es × AllAgree m (editions (replay one (opening one) es)) (editions (replay other (opening other) es))
  legal_too es (history, done) =
      let (too, agree) = history_too (opening one) (opening other) opening_too es history in
      ((too, sym agree.done ∙ done), all_agree (replay one (opening one) es) (replay other (opening other) es) agree)
