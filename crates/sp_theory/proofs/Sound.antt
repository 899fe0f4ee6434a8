-- What a book keeps over the events of a run: plan, members, flags and values.
use Rattle.std.proofs.Common.{◌≡◌, ℕ, ◌<◌, List, [], ◌∷◌, ◌++◌, length, get_or, refl, sym, ap, ◌∙◌, subst, arith, Bool, true, false, cond, not, ◌||◌, Option, Some, None, length-append}
use Rattle.std.specs.Prelude.{ℤ, ◌≤ℤ◌, int_lt, All, AllPairs}
use Rattle.std.specs.Option.{ForSome}
use Rattle.std.specs.List.{range_with_len}
use Rattle.std.proofs.lemmas.List.FromFn.{get_or-range_with_len, length-range_with_len}
use Rattle.std.proofs.lemmas.Int.{ints}
use Rattle.std.proofs.lemmas.List.Elements.{All-cons, All-nil, All-push}
use Rattle.std.proofs.lemmas.List.Quantifiers.{all_pairs_push, Any-push}
use Rattle.std.proofs.Math.ListN.{get_or-append}
use Rattle.std.proofs.Math.Seq.{get_or-append_seam}
use Rattle.sp_theory.specs.Points.{IsPoint}
use Rattle.sp_theory.specs.Model.{Model, IsLawful}
use Rattle.sp_theory.specs.Plan.{Record, leaf, record_at, link_of, IsPlan, HasValues}
use Rattle.sp_theory.specs.Values.{Weights, Member, leaf_member, Edition, dot, greatest_member, value, Reaches}
use Rattle.sp_theory.specs.Backup.{link_at, choice, IsBackup}
use Rattle.sp_theory.specs.Book.{Task, Book, Event, settle, publish, prune, end, opening, IsMember, editions, settled_record, settled_member, entering, entered, pruned, Allowed, after_event}
use Rattle.sp_theory.specs.Runs.{IsHistory, replay}
use Rattle.sp_theory.specs.Laws.{ValuesRise}
use Rattle.sp_theory.proofs.Whole.{≤ℤ_trans}
use Rattle.sp_theory.proofs.Order.{by_order}
use Rattle.sp_theory.proofs.Weighing.{le_same}
use Rattle.sp_theory.proofs.Greatest.{greatest_case, reached_value}
use Rattle.sp_theory.proofs.Links.{length-links_at, links_at-point}
use Rattle.sp_theory.proofs.Records.{more_records, record_at-last, member_more, plan_more, values_more}
use Rattle.sp_theory.proofs.Pruning.{value_pruned, pruned_members}

pub record IsKept (t : Task) (b : Book) : Type 0 where
  pub some : 0 < length b.records
  pub plan : IsPlan t.model b.records
  pub values : HasValues t.model b.records
  pub members : All (All (IsMember t.model b.records)) (editions b)
  pub grown_members : All (IsMember t.model b.records) b.grown
  pub reaches : (k : ℕ) → k < t.beliefs → b.improved k ≡ true → Reaches t.model b.grown (t.samples k) (value t.model b.latest (t.samples k))
  pub rising : AllPairs (ValuesRise t) (editions b)

-- ---- what enters
pub reaches_more : (m : Model) (edition : Edition) (x : Member) (w : Weights) (z : ℤ) → Reaches m edition w z → Reaches m (edition ++ x ∷ []) w z
reaches_more m edition x w z (k, y, less, is, high) = (k, y, omega (arith, length-append edition (x ∷ [])), get_or-append edition (x ∷ []) y k less ∙ is, high)

pub reaches_lower : (m : Model) (edition : Edition) (w : Weights) (y z : ℤ) → y ≤ℤ z → Reaches m edition w z → Reaches m edition w y
reaches_lower m edition w y z low (k, x, less, is, high) = (k, x, less, is, ≤ℤ_trans low high)

pub sound_entered : (t : Task) (b : Book) (o : Option Member) → IsKept t b → ForSome o (IsMember t.model b.records) → IsKept t (entered t b o)
unfolding entered
sound_entered t b None sound member = sound
sound_entered t b (Some x) sound member = record {
  some = sound.some;
  plan = sound.plan;
  values = sound.values;
  members = sound.members;
  grown_members = All-push (IsMember t.model b.records) b.grown x sound.grown_members (member x refl);
  reaches = λ k within up. raised_by k within (b.improved k) (int_lt (dot t.model (t.samples k) x.vector) (value t.model b.latest (t.samples k))) refl refl up;
  rising = sound.rising;
}
  where
    raised_by : (k : ℕ) → k < t.beliefs → (was below : Bool) → b.improved k ≡ was → int_lt (dot t.model (t.samples k) x.vector) (value t.model b.latest (t.samples k)) ≡ below → (was || not below) ≡ true → Reaches t.model (b.grown ++ x ∷ []) (t.samples k) (value t.model b.latest (t.samples k))
    raised_by k within true below e f up = reaches_more t.model b.grown x (t.samples k) _ (sound.reaches k within e)
    raised_by k within false true e f up = absurd (cc)
    raised_by k within false false e f up = Any-push (λ y. value t.model b.latest (t.samples k) ≤ℤ dot t.model (t.samples k) y.vector) b.grown x (omega (arith, ints))

pub sound_opening : (t : Task) → IsKept t (opening t)
unfolding opening leaf leaf_member record_at
sound_opening t = record {
  some = omega arith;
  plan = record { leaf_action = refl; known = λ i less. absurd (omega arith); counted = λ i less. absurd (omega arith); earlier = λ i seen less o. absurd (omega arith) };
  values = record { leaf_vector = λ s. refl; stepped = λ i s less. absurd (omega arith) };
  members = All-cons (All (IsMember t.model (leaf t.model ∷ []))) (leaf_member t.model ∷ []) [] (All-cons (IsMember t.model (leaf t.model ∷ [])) (leaf_member t.model) [] (omega arith, refl, refl) (All-nil (IsMember t.model (leaf t.model ∷ [])))) (All-nil (All (IsMember t.model (leaf t.model ∷ []))));
  grown_members = All-nil (IsMember t.model (leaf t.model ∷ []));
  reaches = λ k within up. absurd (cc);
  rising = λ i j d less within. absurd (omega arith);
}

pub latest_members : (t : Task) (b : Book) → IsKept t b → All (IsMember t.model b.records) b.latest
latest_members t b sound = subst (All (IsMember t.model b.records)) (get_or-append_seam b.earlier b.latest [] b.latest) (sound.members (length b.earlier) b.latest (omega (arith, length-append b.earlier (b.latest ∷ []))))

pub choice_known : (m : Model) (lawful : IsLawful m) (edition : Edition) (w : Weights) → choice m edition w < m.actions
unfolding choice
choice_known m lawful edition w = greatest_case _ _ (λ a. a < m.actions) 0 (range_with_len 0 m.actions) lawful.some_action (λ k d less. omega (arith, get_or-range_with_len 0 m.actions k d (omega (arith, length-range_with_len 0 m.actions)), length-range_with_len 0 m.actions))

pub sound_more : (t : Task) (lawful : IsLawful t.model) (b : Book) (w : Weights) (edition : Edition) (a : ℕ) (links : List ℕ) → IsKept t b → All (IsMember t.model b.records) edition → IsBackup t.model edition w a links → IsKept t (record b { records = b.records ++ settled_record t b a links ∷ [] })
unfolding link_at leaf_member
sound_more t lawful b w edition a links sound members backup = record {
  some = omega (arith, more_records t.model b.records (settled_record t b a links));
  plan = plan_more t.model b.records (settled_record t b a links) sound.some sound.plan
      (subst (λ (n : ℕ). n < t.model.actions) (sym backup.0) (choice_known t.model lawful edition w))
      (ap (λ (xs : List ℕ). length xs) backup.1 ∙ length-links_at t.model edition w a)
      early;
  values = values_more t.model b.records (settled_record t b a links) sound.some sound.plan sound.values early (λ s. refl);
  members = λ i d less j c within. member_more t.model b.records (settled_record t b a links) _ (sound.members i d less j c within);
  grown_members = λ i d less. member_more t.model b.records (settled_record t b a links) _ (sound.grown_members i d less);
  reaches = sound.reaches;
  rising = sound.rising;
}
  where
    leaf_id : (m : Model) → 0 < length b.records → (leaf_member m).id < length b.records
    leaf_id m some = some

    early : (seen : List ℕ) → IsPoint t.model.sight_sizes seen → link_of t.model links seen < length b.records
    early seen o = subst (λ (n : ℕ). n < length b.records) (sym (ap (λ (xs : List ℕ). link_of t.model xs seen) backup.1 ∙ links_at-point t.model edition w a seen o)) (greatest_case _ _ (λ z. z.id < length b.records) (leaf_member t.model) edition (leaf_id t.model sound.some) (λ k d less. (members k d less).0))

pub entering_member : (t : Task) (b : Book) (records : List Record) (k : ℕ) (x : Member) → IsMember t.model records x → IsMember t.model records (leaf_member t.model) → All (IsMember t.model records) b.latest → ForSome (entering t b k x) (IsMember t.model records)
unfolding entering greatest_member
entering_member t b records k x new none latest = by_test (b.improved k) (int_lt (value t.model b.grown (t.samples k)) (dot t.model (t.samples k) x.vector)) (int_lt (dot t.model (t.samples k) x.vector) (value t.model b.latest (t.samples k)))
  where
    held : (y : Member) → IsMember t.model records y → ForSome (Some y) (IsMember t.model records)
    held y member z e = let same : y ≡ z = cc in subst (IsMember t.model records) same member

    kept : IsMember t.model records (greatest_member t.model b.latest (t.samples k))
    kept = greatest_case _ _ (IsMember t.model records) (leaf_member t.model) b.latest none latest

    by_test : (r g l : Bool) → ForSome (cond r (cond g (Some x) None) (cond l (Some (greatest_member t.model b.latest (t.samples k))) (Some x))) (IsMember t.model records)
    by_test true true l = held x new
    by_test true false l = λ z e. absurd (cc)
    by_test false g true = held (greatest_member t.model b.latest (t.samples k)) kept
    by_test false g false = held x new

pub leaf_is_member : (t : Task) (b : Book) → IsKept t b → IsMember t.model b.records (leaf_member t.model)
unfolding leaf_member
leaf_is_member t b sound = (sound.some, (λ h s. sym (sound.values.leaf_vector s) h), sym sound.plan.leaf_action)

-- each edition rises to the last
to_last : (t : Task) (xs : List Edition) (y : Edition) → AllPairs (ValuesRise t) (xs ++ y ∷ []) → (i : ℕ) (d : Edition) → i < length (xs ++ y ∷ []) → ValuesRise t (get_or (xs ++ y ∷ []) i d) y
to_last t xs y rising i d less =
    by_order i (length xs) (λ before. subst (ValuesRise t (get_or (xs ++ y ∷ []) i d)) (get_or-append_seam xs y [] d) (rising i (length xs) d before (omega (arith, length-append xs (y ∷ [])))))
    (λ last k within. le_same (ap (λ (x : Edition). value t.model x (t.samples k)) (ap (λ (n : ℕ). get_or (xs ++ y ∷ []) n d) last ∙ get_or-append_seam xs y [] d)))
    (λ past. absurd (omega (arith, length-append xs (y ∷ []))))

pub sound_after : (t : Task) (lawful : IsLawful t.model) (b : Book) (e : Event) → IsKept t b → Allowed t b e → IsKept t (after_event t b e)
unfolding Allowed after_event
sound_after t lawful b (settle k e a links) sound (going, within, exists, backup) = sound_entered t (record b { records = b.records ++ settled_record t b a links ∷ [] }) (entering t b k (settled_member t b a links)) (sound_more t lawful b (t.samples k) (get_or (editions b) e b.latest) a links sound (sound.members e b.latest exists) backup) (entering_member t b (b.records ++ settled_record t b a links ∷ []) k (settled_member t b a links)
    (omega (arith, more_records t.model b.records (settled_record t b a links)), ap (λ (y : Record). y.vector) (sym (record_at-last t.model b.records (settled_record t b a links))), ap (λ (y : Record). y.action) (sym (record_at-last t.model b.records (settled_record t b a links))))
    (member_more t.model b.records (settled_record t b a links) (leaf_member t.model) (leaf_is_member t b sound))
    (λ j d less. member_more t.model b.records (settled_record t b a links) _ (latest_members t b sound j d less)))
sound_after t lawful b publish sound (going, all) = record {
  some = sound.some;
  plan = sound.plan;
  values = sound.values;
  members = All-push (All (IsMember t.model b.records)) (editions b) b.grown sound.members sound.grown_members;
  grown_members = All-nil (IsMember t.model b.records);
  reaches = λ k within up. absurd (cc);
  rising = all_pairs_push (ValuesRise t) (editions b) b.grown sound.rising
      (λ i d less k within. ≤ℤ_trans (to_last t b.earlier b.latest sound.rising i d less k within) (reached_value t.model b.grown (t.samples k) _ (sound.reaches k within (all k within))));
}
sound_after t lawful b (prune pairs) sound (going, some, can) = record {
  some = sound.some;
  plan = sound.plan;
  values = sound.values;
  members = All-push (All (IsMember t.model b.records)) (editions b) (pruned b.latest pairs) sound.members (pruned_members (IsMember t.model b.records) b.latest pairs (latest_members t b sound));
  grown_members = sound.grown_members;
  reaches = λ k within up. reaches_lower t.model b.grown (t.samples k) _ _ (value_pruned t.model (t.samples k) b.latest pairs can).1 (sound.reaches k within up);
  rising = all_pairs_push (ValuesRise t) (editions b) (pruned b.latest pairs) sound.rising
      (λ i d less k within. ≤ℤ_trans (to_last t b.earlier b.latest sound.rising i d less k within) (value_pruned t.model (t.samples k) b.latest pairs can).0);
}
sound_after t lawful b end sound (going, none) = record { some = sound.some; plan = sound.plan; values = sound.values; members = sound.members; grown_members = sound.grown_members; reaches = sound.reaches; rising = sound.rising }

pub sound_replay : (t : Task) (lawful : IsLawful t.model) (b : Book) (es : List Event) → IsKept t b → IsHistory t b es → IsKept t (replay t b es)
unfolding IsHistory replay
sound_replay t lawful b [] sound history = sound
sound_replay t lawful b (e ∷ es) sound (allowed, rest) = sound_replay t lawful (after_event t b e) es (sound_after t lawful b e sound allowed) rest
