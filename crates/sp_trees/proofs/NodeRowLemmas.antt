-- The rows of a node.
use Rattle.std.proofs.Common.{◌≡◌, ℕ, zero, suc, ◌+◌, ◌<◌, ◌≤◌, ◌||◌, not, Bool, true, false, cond, List, [], ◌∷◌, ◌++◌, length, map, Option, Some, None, refl, sym, ap, ◌∙◌, subst, arith, inl, inr}
use Rattle.std.specs.Prelude.{◌⊎◌, Result, Ok, Err}
use Rattle.std.specs.List.{range_with_len}
use Rattle.std.proofs.lemmas.Bool.{false≢true}
use Rattle.std.proofs.lemmas.Bool.Decides.{Decides-eqb}
use Rattle.sp_dd.specs.Func.{Shape, Func}
use Rattle.sp_syntax.specs.declared.text.Branch.{Branch}
use Rattle.sp_trees.specs.declared.refusal.Refusal.{Refusal}
use Rattle.sp_trees.specs.declared.refusal.ModelKind.TheVariants as kind
use Rattle.sp_trees.specs.declared.judged.Judged.{Judged}
use Rattle.sp_trees.specs.declared.judged.Listed.{Listed}
use Rattle.sp_trees.specs.declared.nodes.Branching.{Branching}
use Rattle.sp_trees.specs.Refusals.{lesser, refused_if}
use Rattle.sp_trees.specs.Judged.{refusal}
use Rattle.sp_trees.specs.Words.{text, number_of}
use Rattle.sp_trees.specs.Nodes.{is_value, lists, value_row_by, value_row, value_rows, lists_all, branch_at, part_by, part, then_part, parts_from, chosen_by, choice_between}
use Rattle.sp_trees.specs.Rows.{IsFirstRefusal, Among, IsRefusalAt, word_of, NamesValue, BranchRow, BranchRows, IsValueMissing}
use Rattle.sp_trees.proofs.ConditionLemmas.{range_at}
use Rattle.sp_trees.proofs.PartialLemmas.{range_not}
use Rattle.sp_trees.proofs.LeastLemmas.{Every, least_same, least_either, least_only, least_test}

module _ (source : List ℕ) (values : List (List ℕ)) (of : Branch → Judged) where
  -- a branch as it is listed
  abbrev pub item : Branch → Listed
  item b = record { at = (word_of b).start; value = number_of values (text source (word_of b)); judged = of b }

  value_names : (o : Option ℕ) (v : ℕ) → is_value v o ≡ true → o ≡ Some v
  value_names None v e = absurd (false≢true e)
  value_names (Some u) v e = ap (λ n. Some n) ((Decides-eqb u v).0 e)

  names_value : (o : Option ℕ) (v : ℕ) → o ≡ Some v → is_value v o ≡ true
  names_value o v e = ap (is_value v) e ∙ (Decides-eqb v v).1 refl

  -- the test of a value among the branches
  named : (bs : List Branch) (v : ℕ) → lists (map item bs) v ≡ true → Among (NamesValue source values v) bs
  named [] v e = absurd (false≢true e)
  named (b ∷ bs) v e = go (is_value v (number_of values (text source (word_of b)))) refl e (named bs v)
    where
      go : (t : Bool) → is_value v (number_of values (text source (word_of b))) ≡ t → (t || lists (map item bs) v) ≡ true
          → (lists (map item bs) v ≡ true → Among (NamesValue source values v) bs) → Among (NamesValue source values v) (b ∷ bs)
      go true q h more = inl (value_names _ v q)
      go false q h more = inr (more h)

  listed : (bs : List Branch) (v : ℕ) → Among (NamesValue source values v) bs → lists (map item bs) v ≡ true
  listed [] v h = absurd h
  listed (b ∷ bs) v (inl e) = ap (λ t. t || lists (map item bs) v) (names_value (number_of values (text source (word_of b))) v e)
  listed (b ∷ bs) v (inr h) = go (is_value v (number_of values (text source (word_of b)))) (listed bs v h)
    where
      go : (t : Bool) → lists (map item bs) v ≡ true → (t || lists (map item bs) v) ≡ true
      go true q = refl
      go false q = q

  -- ---- the words

  branch_least : (before : List Branch) (b : Branch) → IsFirstRefusal (BranchRow source values before b) (value_row (map item before) (item b))
  branch_least before b = go (number_of values (text source (word_of b))) refl
    where
      at : ℕ
      at = (word_of b).start

      Row : Option ℕ → Refusal → Type 0
      Row o r = ((o ≡ None) × IsRefusalAt at kind.UnknownName r) ⊎ ((v : ℕ) × (o ≡ Some v) × Among (NamesValue source values v) before × IsRefusalAt at kind.RepeatedName r)

      none_some : (v : ℕ) → None ≡ Some v → ⊥
      none_some v e = cc

      some_some : (u v : ℕ) → Some u ≡ Some v → u ≡ v
      some_some u v e = cc

      go : (o : Option ℕ) → number_of values (text source (word_of b)) ≡ o → IsFirstRefusal (Row o) (value_row_by (lists (map item before)) at o)
      go None e = least_only (Row None) (record { at = at; kind = kind.UnknownName }) (inl (refl, refl)) (λ r h. elim h [ inl p ↦ p.1 | inr p ↦ absurd (none_some p.0 p.1) ])
      go (Some v) e =
          least_same (λ r. Among (NamesValue source values v) before × IsRefusalAt at kind.RepeatedName r) (Row (Some v)) (refused_if (lists (map item before) v) at kind.RepeatedName)
          (λ r p. inr (v, refl, p.0, p.1))
          (λ r h. elim h [ inl p ↦ absurd (none_some v (sym p.0)) | inr p ↦ (subst (λ u. Among (NamesValue source values u) before) (sym (some_some v p.0 p.1)) p.2, p.3) ])
          (least_test (Among (NamesValue source values v) before) (lists (map item before) v) at kind.RepeatedName (named before v) (listed before v))

  map-last : (before : List Branch) (b : Branch) → map item before ++ item b ∷ [] ≡ map item (before ++ b ∷ [])
  map-last [] b = refl
  map-last (a ∷ before) b = ap (λ ls. item a ∷ ls) (map-last before b)

  words_from : (before bs : List Branch) (first : Option Refusal) (S : Refusal → Type 0) → IsFirstRefusal S first
      → IsFirstRefusal (λ r. S r ⊎ BranchRows source values before bs r) (value_rows (map item before) (map item bs) first)
  unfolding value_rows
  words_from before [] first S h = least_same S _ first (λ r s. inl s) (λ r e. elim e [ inl s ↦ s | inr n ↦ absurd n ]) h
  words_from before (b ∷ bs) first S h =
      let row = value_row (map item before) (item b) in
      let more = words_from (before ++ b ∷ []) bs (lesser first row) (λ r. S r ⊎ BranchRow source values before b r) (least_either S (BranchRow source values before b) first row h (branch_least before b)) in
      least_same _ _ (value_rows (map item before ++ item b ∷ []) (map item bs) (lesser first row))
      (λ r e. elim e [ inl c ↦ elim c [ inl s ↦ inl s | inr t ↦ inr (inl t) ] | inr m ↦ inr (inr m) ])
      (λ r e. elim e [ inl s ↦ inl (inl s) | inr c ↦ elim c [ inl t ↦ inl (inr t) | inr m ↦ inr m ] ])
      (subst (λ ls. IsFirstRefusal (λ r. (S r ⊎ BranchRow source values before b r) ⊎ BranchRows source values (before ++ b ∷ []) bs r) (value_rows ls (map item bs) (lesser first row))) (sym (map-last before b)) more)

  pub words_least : (bs : List Branch) → IsFirstRefusal (BranchRows source values [] bs) (value_rows [] (map item bs) None)
  words_least bs =
      least_same _ _ (value_rows [] (map item bs) None) (λ r e. elim e [ inl n ↦ absurd n | inr m ↦ m ]) (λ r m. inr m) (words_from [] bs None (λ r. ⊥) (λ r n. n))

  -- ---- a missing value

  flip : (t : Bool) → not t ≡ true → t ≡ false
  flip true e = sym e
  flip false e = refl

  pub missing_least : (bs : List Branch) (left : ℕ) → IsFirstRefusal (IsValueMissing source values bs left) (refused_if (not (lists_all (length values) (map item bs))) left kind.MissingValue)
  missing_least bs left =
      least_same _ (IsValueMissing source values bs left) (refused_if (not (lists_all (length values) (map item bs))) left kind.MissingValue)
      (λ r p. record { value = p.0.0; below = p.0.1; nowhere = p.0.2; at_bracket = p.1 })
      (λ r p. ((p.value, p.below, p.nowhere), p.at_bracket))
      (least_test ((v : ℕ) × (v < length values) × (¬ Among (NamesValue source values v) bs)) (not (lists_all (length values) (map item bs))) left kind.MissingValue to back)
    where
      to : not (lists_all (length values) (map item bs)) ≡ true → (v : ℕ) × (v < length values) × (¬ Among (NamesValue source values v) bs)
      to e =
          let k = range_not (lists (map item bs)) 0 (length values) (flip (lists_all (length values) (map item bs)) e) in
          let l = k.2 in
          (k.0, omega arith, λ h. false≢true (sym k.3 ∙ listed bs k.0 h))

      back : (v : ℕ) × (v < length values) × (¬ Among (NamesValue source values v) bs) → not (lists_all (length values) (map item bs)) ≡ true
      back (v, l, n) = go (lists_all (length values) (map item bs)) refl
        where
          go : (t : Bool) → lists_all (length values) (map item bs) ≡ t → not t ≡ true
          go false e = refl
          go true e = absurd (n (named bs v (range_at (lists (map item bs)) 0 (length values) v e (omega arith) (omega arith))))

-- ---- the function of a node that isn't refused

abbrev IsOk : {X : Type 0} → Result X Refusal → Type 0
IsOk (Ok x) = Unit {0}
IsOk (Err r) = ⊥

ok_of_none : (r : Result Func Refusal) → refusal r ≡ None → IsOk r
ok_of_none (Ok f) e = tt
ok_of_none (Err r) e = (let e : Some r ≡ None = e in cc)

found_ok : (left : ℕ) (ls : List Listed) (v : ℕ) → Every (λ l. refusal l.judged.outcome ≡ None) ls → lists ls v ≡ true → IsOk (part left ls v)
found_ok left [] v h e = absurd (false≢true e)
found_ok left (l ∷ ls) v h e = go (is_value v l.value) e (found_ok left ls v h.1)
  where
    go : (t : Bool) → (t || lists ls v) ≡ true → (lists ls v ≡ true → IsOk (part left ls v)) → IsOk (part_by left (cond t (Some l) (branch_at ls v)))
    go true q more = ok_of_none l.judged.outcome h.0
    go false q more = more q

parts_ok : (left : ℕ) (ls : List Listed) (fs : List Func) (vs : List ℕ) → Every (λ v. IsOk (part left ls v)) vs → IsOk (parts_from left ls fs vs)
unfolding parts_from
parts_ok left ls fs [] h = tt
parts_ok left ls fs (v ∷ vs) h = go (part left ls v) h.0 (λ f. parts_ok left ls (fs ++ f ∷ []) vs h.1)
  where
    go : (r : Result Func Refusal) → IsOk r → ((f : Func) → IsOk (parts_from left ls (fs ++ f ∷ []) vs)) → IsOk (then_part (λ gs. parts_from left ls gs vs) fs r)
    go (Ok f) h more = more f
    go (Err r) h more = h

range_every : (P : ℕ → Type 0) (a n : ℕ) → ((v : ℕ) → a ≤ v → v < a + n → P v) → Every P (range_with_len a n)
range_every P a zero h = tt
range_every P a (suc n) h = (h a (omega arith) (omega arith), range_every P (a + 1) n (λ v l m. h v (omega arith) (omega arith)))

pub chosen_ok : (s : Shape) (n : Branching) (ls : List Listed) → Every (λ l. refusal l.judged.outcome ≡ None) ls → lists_all n.count ls ≡ true → refusal (choice_between s n ls) ≡ None
chosen_ok s n ls h e =
    go (parts_from n.left ls [] (range_with_len 0 n.count)) (parts_ok n.left ls [] (range_with_len 0 n.count) (range_every (λ v. IsOk (part n.left ls v)) 0 n.count (λ v l m. found_ok n.left ls v h (range_at (lists ls) 0 n.count v e l m))))
  where
    go : (r : Result (List Func) Refusal) → IsOk r → refusal (chosen_by s n.slot r) ≡ None
    go (Ok fs) h = refl
    go (Err r) h = absurd h
