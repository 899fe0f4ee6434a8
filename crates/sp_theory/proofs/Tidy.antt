-- What else a book keeps: no edition is empty or has a record twice, and neither has the grown list.
use Rattle.std.proofs.Common.{◌≡◌, ℕ, ◌<◌, List, [], ◌∷◌, ◌++◌, length, get_or, refl, sym, ap, ◌∙◌, subst, arith, Bool, true, false, cond, not, ◌||◌, Option, Some, None, length-append}
use Rattle.std.specs.Prelude.{ℤ, ◌≤ℤ◌, int_lt, All, Any, AllPairs}
use Rattle.std.proofs.lemmas.Int.{ints}
use Rattle.std.proofs.lemmas.List.Elements.{All-cons, All-nil, All-push}
use Rattle.std.proofs.lemmas.List.Quantifiers.{all_pairs_push}
use Rattle.std.proofs.Math.Seq.{get_or-append_seam}
use Rattle.sp_theory.specs.Model.{IsLawful}
use Rattle.sp_theory.specs.Plan.{record_at}
use Rattle.sp_theory.specs.Values.{Member, leaf_member, Edition, dot, greatest_member, value}
use Rattle.sp_theory.specs.Book.{Task, Book, Event, settle, publish, prune, end, opening, IsMember, editions, settled_record, settled_member, entering, entered, pruned, Allowed, after_event}
use Rattle.sp_theory.specs.Runs.{IsHistory, replay}
use Rattle.sp_theory.specs.Laws.{Apart}
use Rattle.sp_theory.proofs.Whole.{≤ℤ_trans}
use Rattle.sp_theory.proofs.Weighing.{le_same}
use Rattle.sp_theory.proofs.Greatest.{greatest_case}
use Rattle.sp_theory.proofs.Pruning.{value_pruned, pruned_filled, pruned_apart}
use Rattle.sp_theory.proofs.Sound.{IsKept, latest_members, leaf_is_member, sound_after}

pub record IsTidy (t : Task) (b : Book) : Type 0 where
  pub filled : All (λ (ed : Edition). 0 < length ed) (editions b)
  pub apart : All (AllPairs Apart) (editions b)
  pub grown_apart : AllPairs Apart b.grown
  -- each grown member has raised every flag that it can
  pub raisers : All (λ x. (k : ℕ) → k < t.beliefs → value t.model b.latest (t.samples k) ≤ℤ dot t.model (t.samples k) x.vector → b.improved k ≡ true) b.grown

-- what may enter: nothing, the new member, or the latest edition's greatest where the belief is not raised
pub entering_case : (t : Task) (b : Book) (k : ℕ) (x : Member) (P : Option Member → Type 0) → P None → P (Some x) → (b.improved k ≡ false → P (Some (greatest_member t.model b.latest (t.samples k)))) → P (entering t b k x)
unfolding entering
entering_case t b k x P none new kept = by_test (b.improved k) refl (int_lt (value t.model b.grown (t.samples k)) (dot t.model (t.samples k) x.vector)) (int_lt (dot t.model (t.samples k) x.vector) (value t.model b.latest (t.samples k)))
  where
    by_test : (r : Bool) → b.improved k ≡ r → (g l : Bool) → P (cond r (cond g (Some x) None) (cond l (Some (greatest_member t.model b.latest (t.samples k))) (Some x)))
    by_test true e true l = new
    by_test true e false l = none
    by_test false e g true = kept e
    by_test false e g false = new

pub tidy_entered : (t : Task) (b : Book) (x : Member) → IsTidy t b → ((j : ℕ) (d : Member) → j < length b.grown → Apart (get_or b.grown j d) x) → IsTidy t (entered t b (Some x))
unfolding entered
tidy_entered t b x tidy new = record {
  filled = tidy.filled;
  apart = tidy.apart;
  grown_apart = all_pairs_push Apart b.grown x tidy.grown_apart new;
  raisers = All-push (λ y. (k : ℕ) → k < t.beliefs → value t.model b.latest (t.samples k) ≤ℤ dot t.model (t.samples k) y.vector → (b.improved k || not (int_lt (dot t.model (t.samples k) x.vector) (value t.model b.latest (t.samples k)))) ≡ true) b.grown x
      (λ j d less k within high. still (b.improved k) _ (tidy.raisers j d less k within high))
      (λ k within high. now (b.improved k) (int_lt (dot t.model (t.samples k) x.vector) (value t.model b.latest (t.samples k))) refl high);
}
  where
    still : (r s : Bool) → r ≡ true → (r || s) ≡ true
    still true s e = refl
    still false s e = absurd (cc)

    now : {y z : ℤ} (r l : Bool) → int_lt y z ≡ l → z ≤ℤ y → (r || not l) ≡ true
    now true l e h = refl
    now false true e h = absurd (omega (arith, ints))
    now false false e h = refl

pub at_last : (P : Edition → Type 0) (b : Book) → All P (editions b) → P b.latest
at_last P b all = subst P (get_or-append_seam b.earlier b.latest [] b.latest) (all (length b.earlier) b.latest (omega (arith, length-append b.earlier (b.latest ∷ []))))

pub kept_member : (t : Task) (b : Book) (k : ℕ) → IsKept t b → IsMember t.model b.records (greatest_member t.model b.latest (t.samples k))
unfolding greatest_member
kept_member t b k sound = greatest_case (λ x. dot t.model (t.samples k) x.vector) (λ x. x.id) (IsMember t.model b.records) (leaf_member t.model) b.latest (leaf_is_member t b sound) (latest_members t b sound)

-- the kept member is not in the grown list yet
pub kept_new : (t : Task) (b : Book) (k : ℕ) → k < t.beliefs → IsKept t b → IsTidy t b → b.improved k ≡ false → (j : ℕ) (d : Member) → j < length b.grown → Apart (get_or b.grown j d) (greatest_member t.model b.latest (t.samples k))
unfolding value
kept_new t b k within sound tidy down j d less same =
    let kept = kept_member t b k sound in
    let vectors = (sound.grown_members j d less).1 ∙ ap (λ (n : ℕ). (record_at t.model b.records n).vector) same ∙ sym kept.1 in
    let up : b.improved k ≡ true = tidy.raisers j d less k within (le_same (ap (dot t.model (t.samples k)) (sym vectors))) in
    absurd (cc)

pub tidy_after : (t : Task) (lawful : IsLawful t.model) (b : Book) (e : Event) → 0 < t.beliefs → IsKept t b → IsTidy t b → Allowed t b e → IsTidy t (after_event t b e)
unfolding Allowed after_event entered
tidy_after t lawful b (settle k e a links) some sound tidy (going, within, exists, backup) =
    entering_case t b k (settled_member t b a links) (λ o. IsTidy t (entered t grown_records o)) (same tidy)
    (tidy_entered t grown_records (settled_member t b a links) (same tidy) (λ j d less e. let member = (sound.grown_members j d less).0 in absurd (omega arith)))
    (λ down. tidy_entered t grown_records _ (same tidy) (kept_new t b k within sound tidy down))
  where
    grown_records : Book
    grown_records = record b { records = b.records ++ settled_record t b a links ∷ [] }

    same : IsTidy t b → IsTidy t (record b { records = b.records ++ settled_record t b a links ∷ [] })
    same tidy = record { filled = tidy.filled; apart = tidy.apart; grown_apart = tidy.grown_apart; raisers = tidy.raisers }
tidy_after t lawful b publish some sound tidy (going, all) = record {
  filled = All-push (λ (ed : Edition). 0 < length ed) (editions b) b.grown tidy.filled (has_some b.grown (sound.reaches 0 some (all 0 some)));
  apart = All-push (AllPairs Apart) (editions b) b.grown tidy.apart tidy.grown_apart;
  grown_apart = λ i j d less within. absurd (omega arith);
  raisers = All-nil (λ x. (k : ℕ) → k < t.beliefs → value t.model b.grown (t.samples k) ≤ℤ dot t.model (t.samples k) x.vector → false ≡ true);
}
  where
    has_some : {P : Member → Type 0} (xs : Edition) → Any P xs → 0 < length xs
    has_some xs (k, x, less, is, p) = omega arith
tidy_after t lawful b (prune pairs) some sound tidy (going, any, can) = record {
  filled = All-push (λ (ed : Edition). 0 < length ed) (editions b) (pruned b.latest pairs) tidy.filled (pruned_filled t.model b.latest pairs (at_last (λ (ed : Edition). 0 < length ed) b tidy.filled) can);
  apart = All-push (AllPairs Apart) (editions b) (pruned b.latest pairs) tidy.apart (pruned_apart b.latest pairs (at_last (AllPairs Apart) b tidy.apart));
  grown_apart = tidy.grown_apart;
  raisers = λ j d less k within high. tidy.raisers j d less k within (≤ℤ_trans (value_pruned t.model (t.samples k) b.latest pairs can).0 high);
}
tidy_after t lawful b end some sound tidy (going, none) = record { filled = tidy.filled; apart = tidy.apart; grown_apart = tidy.grown_apart; raisers = tidy.raisers }

pub tidy_opening : (t : Task) → IsTidy t (opening t)
unfolding opening
tidy_opening t = record {
  filled = All-cons (λ (ed : Edition). 0 < length ed) (leaf_member t.model ∷ []) [] (omega arith) (All-nil (λ (ed : Edition). 0 < length ed));
  apart = All-cons (AllPairs Apart) (leaf_member t.model ∷ []) [] (λ i j d less within. absurd (omega arith)) (All-nil (AllPairs Apart));
  grown_apart = λ i j d less within. absurd (omega arith);
  raisers = λ j d less. absurd (omega arith);
}

pub tidy_replay : (t : Task) (lawful : IsLawful t.model) → 0 < t.beliefs → (b : Book) (es : List Event) → IsKept t b → IsTidy t b → IsHistory t b es → IsTidy t (replay t b es)
unfolding IsHistory replay
tidy_replay t lawful some b [] sound tidy history = tidy
tidy_replay t lawful some b (e ∷ es) sound tidy (allowed, rest) = tidy_replay t lawful some (after_event t b e) es (sound_after t lawful b e sound allowed) (tidy_after t lawful b e some sound tidy allowed) rest
