-- Judging answers the first of the rows that hold.
use Rattle.std.proofs.Common.{◌≡◌, ℕ, suc, ◌&&◌, not, Bool, true, false, List, [], ◌∷◌, map, Option, Some, None, refl, sym, ap, ◌∙◌, subst, arith, inl, inr}
use Rattle.std.specs.Prelude.{ℤ, ◌⊎◌, Result, Ok, Err, IfOk, All, unwrap_or, if◌then◌else◌}
use Rattle.std.proofs.lemmas.Bool.{false≢true}
use Rattle.sp_lex.specs.declared.lexeme.Span.{Span}
use Rattle.sp_lex.specs.declared.decimal.NumError.{NumError}
use Rattle.sp_lex.specs.Decimal.{ticks_of}
use Rattle.sp_syntax.specs.declared.text.Tree.{Tree, out-Tree}
use Rattle.sp_syntax.specs.declared.text.Tree.TheOpen.{Tree-F}
use Rattle.sp_syntax.specs.declared.text.Tree.TheFolds.{fold_out-Tree, fold_out-Branch, map-Tree}
use Rattle.sp_syntax.specs.declared.text.Branch.{Branch, out-Branch}
use Rattle.sp_dd.specs.Func.{Func, IsPointOf, value_of}
use Rattle.sp_dd.specs.Points.{IsPoint}
use Rattle.sp_trees.specs.declared.refusal.ModelKind.TheVariants as kind
use Rattle.sp_trees.specs.declared.refusal.Refusal.{Refusal}
use Rattle.sp_trees.specs.declared.slots.Slots.{Slots}
use Rattle.sp_trees.specs.declared.env.Env.{Env}
use Rattle.sp_trees.specs.declared.env.Dd.{Dd}
use Rattle.sp_trees.specs.declared.judged.Judged.{Judged}
use Rattle.sp_trees.specs.declared.judged.Listed.{Listed}
use Rattle.sp_trees.specs.declared.lists.Op.{Op}
use Rattle.sp_trees.specs.declared.lists.Op.TheVariants as op
use Rattle.sp_trees.specs.declared.nodes.Place.{Place}
use Rattle.sp_trees.specs.declared.nodes.Branching.{Branching}
use Rattle.sp_trees.specs.Refusals.{is_before, lesser, refused_if}
use Rattle.sp_trees.specs.Slots.{has, is_among}
use Rattle.sp_trees.specs.Judged.{refusal, inside, inside_branches}
use Rattle.sp_trees.specs.Words.{text, name_span}
use Rattle.sp_trees.specs.Dds.{dd_of_name}
use Rattle.sp_trees.specs.Single.{number_by, number_kind, reference_by}
use Rattle.sp_trees.specs.Lists.{or_neutral, steps, list_by}
use Rattle.sp_trees.specs.Nodes.{place_of, values_of, slot_of, is_sayable, branching_on, value_rows, lists_all, node_rows, node_by as node_outcome, known_node, unknown_name, unknown_node}
use Rattle.sp_trees.specs.Judge.{Branched, listed_branch, node_by, tree_step, branch_step, judgement, judgement_of_branch}
use Rattle.sp_trees.specs.Values.{tree_value}
use Rattle.sp_trees.specs.Good.{IsGood, IsEnv}
use Rattle.sp_trees.specs.Rows.{IsFirstRefusal, Among, IsRefusalAt, IsTreeOfBranch, IsPartBy, IsVariableOutOfScope, IsValueMissing, BranchRows, KnownRow, NodeRowBy, ReferenceRow, NumberRow, TreeWordRow, ListRow, ValueRow, TreeRow, TreeRowsAreRefusals}
use Rattle.sp_trees.proofs.Parts.{by_parts}
use Rattle.sp_trees.proofs.LeastLemmas.{Every, least_same, least_either, least_only, least_all}
use Rattle.sp_trees.proofs.InsideLemmas.{to_row, from_row}
use Rattle.sp_trees.proofs.PartialLemmas.{Tells, AreTold, refusal_in, list_least}
use Rattle.sp_trees.proofs.NodeRowLemmas.{item, words_least, missing_least, chosen_ok}
use Rattle.sp_trees.proofs.MentionLemmas.{lesser_none, first_none}
use Rattle.sp_trees.proofs.HoldLemmas.{tree_holds}
use Rattle.sp_trees.proofs.ValueLemmas.{values_told}

all_every : {X : Type 0} (P : X → Type 0) (xs : List X) → All P xs → Every P xs
all_every P [] h = tt
all_every P (x ∷ xs) h = (h 0 x (omega arith), all_every P xs (λ k d l. h (suc k) d (omega arith)))

every_of_map : {X Y : Type 0} (f : X → Y) (P : Y → Type 0) (xs : List X) → Every P (map f xs) → Every (λ x. P (f x)) xs
every_of_map f P [] h = tt
every_of_map f P (x ∷ xs) h = (h.0, every_of_map f P xs h.1)

-- parts that hold trees
module _ {X : Type 0} (g : X → Tree) where
  abbrev Holds : Tree → X → Type 0
  Holds s x = g x ≡ s

  every_part : (P : Tree → Type 0) (xs : List X) → ((s : Tree) → Among (Holds s) xs → P s) → Every (λ x. P (g x)) xs
  every_part P [] h = tt
  every_part P (x ∷ xs) h = (h (g x) (inl refl), every_part P xs (λ s k. h s (inr k)))

  to_among : (R : Tree → Type 0) (xs : List X) (s : Tree) → Among (Holds s) xs → R s → Among (λ x. R (g x)) xs
  to_among R [] s h r = h
  to_among R (x ∷ xs) s (inl e) r = inl (subst R (sym e) r)
  to_among R (x ∷ xs) s (inr h) r = inr (to_among R xs s h r)

  from_among : (R : Tree → Type 0) (xs : List X) → Among (λ x. R (g x)) xs → (s : Tree) × Among (Holds s) xs × R s
  from_among R [] h = absurd h
  from_among R (x ∷ xs) (inl r) = (g x, inl refl, r)
  from_among R (x ∷ xs) (inr h) = let m = from_among R xs h in (m.0, inr m.1, m.2)

module _ (env : Env) (source : List ℕ) (allowed : Slots) (e : IsEnv env) where
  abbrev Row : Tree → Refusal → Type 0
  Row t r = TreeRow env source allowed t r

  abbrev of : Branch → Judged
  of b = judgement env source allowed (out-Branch b).tree

  abbrev tree_in : Branch → Tree
  tree_in b = (out-Branch b).tree

  abbrev IsRight : Tree → Type 0
  IsRight t = IsFirstRefusal (Row t) (refusal (judgement env source allowed t).outcome)

  abbrev SplitBy : Tree-F Tree Branch → Refusal → Type 0
  SplitBy x r = TreeWordRow env source allowed x r ⊎ (((s : Tree) × IsPartBy s x × Row s r) ⊎ (ValueRow env source x r × ((s : Tree) → IsPartBy s x → (q : Refusal) → ¬ Row s q)))

  -- ---- numbers and references

  number_least : (at : ℕ) (read : Result ℤ NumError) → IsFirstRefusal (NumberRow at read) (refusal (number_by env.scope at read))
  number_least at (Ok v) = λ r h. apart v h.0 h.1
    where
      apart : (v : ℤ) (z : NumError) → Ok v ≡ Err z → ⊥
      apart v z q = cc
  number_least at (Err z) = least_only (NumberRow at (Err z)) (record { at = at; kind = number_kind z }) (z, refl, refl) (λ r h. h.2 ∙ ap (λ y. record { at = at; kind = number_kind y }) (sym (same z h.0 (Err z) refl h.1)))
    where
      same : (y z : NumError) (r : Result ℤ NumError) → r ≡ Err y → r ≡ Err z → y ≡ z
      same y z r q k = cc

  reference_least : (at : ℕ) (o : Option Dd) → IsFirstRefusal (ReferenceRow allowed at o) (refusal (reference_by allowed at o).outcome)
  reference_least at None = least_only (IsRefusalAt at kind.UnknownName) (record { at = at; kind = kind.UnknownName }) refl (λ r h. h)
  reference_least at (Some d) = go (is_among d.mentions allowed) refl
    where
      go : (b : Bool) → is_among d.mentions allowed ≡ b → IsFirstRefusal (λ r. (is_among d.mentions allowed ≡ false) × IsRefusalAt at kind.BadScope r) (refusal (if b then Ok d.func else Err (record { at = at; kind = kind.BadScope })))
      go true q = λ r h. false≢true (sym h.0 ∙ q)
      go false q = least_only (λ r. (is_among d.mentions allowed ≡ false) × IsRefusalAt at kind.BadScope r) (record { at = at; kind = kind.BadScope }) (q, refl) (λ r h. h.1)

  -- ---- nodes

  listed_items : (values : List (List ℕ)) (bs : List Branch) → map (listed_branch source values) (map (judgement_of_branch env source allowed) bs) ≡ map (item source values of) bs
  listed_items values [] = refl
  listed_items values (b ∷ bs) =
      (λ i. listed_branch source values (fold_out-Branch Judged Branched (tree_step env source allowed) branch_step b i) ∷ listed_items values bs i)

  abbrev Inside : List Branch → Refusal → Type 0
  Inside bs r = Among (λ b. Row (tree_in b) r) bs

  inside_least : (values : List (List ℕ)) (bs : List Branch) → Every (λ b. IsRight (tree_in b)) bs → IsFirstRefusal (Inside bs) (inside_branches (map (item source values of) bs))
  inside_least values bs h = least_all (λ b r. Row (tree_in b) r) (item source values of) (λ l. refusal l.judged.outcome) bs h

  to_inside : (bs : List Branch) (r : Refusal) → (s : Tree) × Among (IsTreeOfBranch s) bs × Row s r → Inside bs r
  to_inside bs r (s, w, k) = to_among tree_in (λ s. Row s r) bs s w k

  from_inside : (bs : List Branch) (r : Refusal) → Inside bs r → (s : Tree) × Among (IsTreeOfBranch s) bs × Row s r
  from_inside bs r h = from_among tree_in (λ s. Row s r) bs h

  unknown_is : (u : Refusal) (o : Option Refusal) → lesser (Some u) o ≡ Some (unwrap_or (lesser (Some u) o) u)
  unknown_is u None = refl
  unknown_is u (Some y) = go (is_before y u)
    where
      go : (b : Bool) → (if b then Some y else Some u) ≡ Some (unwrap_or (if b then Some y else Some u) u)
      go true = refl
      go false = refl

  scope_least : (p : Place) (is_primed : Bool) (word : Span) → IsFirstRefusal (IsVariableOutOfScope env allowed is_primed word p) (refused_if (not (is_sayable is_primed p && has allowed (slot_of env is_primed p))) word.start kind.BadScope)
  scope_least p is_primed word = go (is_sayable is_primed p && has allowed (slot_of env is_primed p)) refl
    where
      go : (b : Bool) → (is_sayable is_primed p && has allowed (slot_of env is_primed p)) ≡ b → IsFirstRefusal (IsVariableOutOfScope env allowed is_primed word p) (refused_if (not b) word.start kind.BadScope)
      go true q = λ r h. false≢true (sym h.0 ∙ q)
      go false q = least_only (IsVariableOutOfScope env allowed is_primed word p) (record { at = word.start; kind = kind.BadScope }) (q, refl) (λ r h. h.1)

  known_outcome : (n : Branching) (ls : List Listed) (o : Option Refusal) → node_rows allowed n ls ≡ o → refusal (node_outcome env.scope n ls o) ≡ o
  known_outcome n ls (Some r) q = refl
  known_outcome n ls None q =
      let first = lesser_none (refused_if (not (n.is_sayable && has allowed n.slot)) n.at kind.BadScope) _ q in
      let second = lesser_none (refused_if (not (lists_all n.count ls)) n.left kind.MissingValue) _ first.1 in
      let third = lesser_none (value_rows [] ls None) (inside_branches ls) second.1 in
      let nothing = (first_none (λ (l : Listed). refusal l.judged.outcome) None ls third.1).1 in
      chosen_ok env.scope n ls (all_every _ ls nothing) (every_listed (lists_all n.count ls) second.0)
    where
      every_listed : (b : Bool) → refused_if (not b) n.left kind.MissingValue ≡ None → b ≡ true
      every_listed true h = refl
      every_listed false h = cc

  node_least : (is_primed : Bool) (left word : Span) (bs : List Branch) (o : Option Place) → ((s : Tree) → Among (IsTreeOfBranch s) bs → IsRight s)
      → IsFirstRefusal (λ r. NodeRowBy env source allowed is_primed left word bs o r ⊎ ((s : Tree) × Among (IsTreeOfBranch s) bs × Row s r)) (refusal (node_by env source allowed is_primed left word (map (judgement_of_branch env source allowed) bs) o).outcome)
  node_least is_primed left word bs None h =
      let ls = map (listed_branch source []) (map (judgement_of_branch env source allowed) bs) in
      let inner = subst (λ ls. IsFirstRefusal (Inside bs) (inside_branches ls)) (sym (listed_items [] bs)) (inside_least [] bs (every_part tree_in IsRight bs h)) in
      let both = least_either (IsRefusalAt word.start kind.UnknownName) (Inside bs) (Some (unknown_name word.start)) (inside_branches ls) (least_only (IsRefusalAt word.start kind.UnknownName) (unknown_name word.start) refl (λ r q. q)) inner in
      least_same _ _ (refusal (unknown_node word.start ls).outcome)
      (λ r c. elim c [ inl a ↦ inl a | inr m ↦ inr (from_inside bs r m) ])
      (λ r c. elim c [ inl a ↦ inl a | inr m ↦ inr (to_inside bs r m) ])
      (subst (IsFirstRefusal (λ r. IsRefusalAt word.start kind.UnknownName r ⊎ Inside bs r)) (unknown_is (unknown_name word.start) (inside_branches ls)) both)
  node_least is_primed left word bs (Some p) h =
      subst (λ ls. IsFirstRefusal Target (refusal (known_node env.scope allowed n ls).outcome)) (sym (listed_items values bs))
      (subst (IsFirstRefusal Target) (sym (known_outcome n items (node_rows allowed n items) refl))
      (least_same _ Target (node_rows allowed n items)
      (λ r c. elim c [ inl a ↦ inl (inl a) | inr m ↦ elim m [ inl b ↦ inl (inr (inl b)) | inr k ↦ elim k [ inl w ↦ inl (inr (inr w)) | inr i ↦ inr (from_inside bs r i) ] ] ])
      (λ r c. elim c [ inl k ↦ elim k [ inl a ↦ inl a | inr m ↦ elim m [ inl b ↦ inr (inl b) | inr w ↦ inr (inr (inl w)) ] ] | inr i ↦ inr (inr (inr (to_inside bs r i))) ])
      (least_either (IsVariableOutOfScope env allowed is_primed word p) _ _ _ (scope_least p is_primed word)
      (least_either (IsValueMissing source values bs left.start) _ _ _ (missing_least source values of bs left.start)
      (least_either (BranchRows source values [] bs) (Inside bs) _ _ (words_least source values of bs) (inside_least values bs (every_part tree_in IsRight bs h)))))))
    where
      n : Branching
      n = branching_on env is_primed p left.start word.start

      values : List (List ℕ)
      values = values_of env p

      items : List Listed
      items = map (item source values of) bs

      Target : Refusal → Type 0
      Target r = KnownRow env source allowed is_primed left word bs p r ⊎ ((s : Tree) × Among (IsTreeOfBranch s) bs × Row s r)

  -- ---- lists

  told_of : (t : Tree) → refusal (judgement env source allowed t).outcome ≡ None → (g : Func) × ((judgement env source allowed t).outcome ≡ Ok g) × Tells env.scope e.scope g (tree_value env source t)
  told_of t q = go (judgement env source allowed t).outcome refl q (tree_holds env source allowed e t).0 (values_told env source allowed t e)
    where
      go : (r : Result Func Refusal) → (judgement env source allowed t).outcome ≡ r → refusal r ≡ None → IfOk r (λ f. IsGood env.scope (judgement env source allowed t).mentions f)
          → IfOk r (λ f. (x : List ℕ) → IsPointOf f x → tree_value env source t x ≡ Some (value_of f x))
          → (g : Func) × ((judgement env source allowed t).outcome ≡ Ok g) × Tells env.scope e.scope g (tree_value env source t)
      go (Ok f) is none good value = (f, is, record { fit = good.fit; value = λ x w. value x (subst (λ s. IsPoint s.sizes x) (sym good.fit.shape) w) })
      go (Err r) is none good value = absurd (apart r none)
        where
          apart : (r : Refusal) → Some r ≡ None → ⊥
          apart r q = cc

  are_told : (ts : List Tree) → Every (λ t. refusal (judgement env source allowed t).outcome ≡ None) ts → AreTold env.scope e.scope (map (judgement env source allowed) ts) (map (tree_value env source) ts)
  are_told [] h = tt
  are_told (t ∷ ts) h = (told_of t h.0, are_told ts h.1)

  abbrev InTrees : List Tree → Refusal → Type 0
  InTrees ts r = (s : Tree) × Among (λ t. t ≡ s) ts × Row s r

  list_right : (o : Op) (at : ℕ) (ts : List Tree) → ((s : Tree) → Among (λ t. t ≡ s) ts → IsRight s)
      → IsFirstRefusal (λ r. InTrees ts r ⊎ (ListRow o env.scope at (map (tree_value env source) ts) r × ((s : Tree) → Among (λ t. t ≡ s) ts → (q : Refusal) → ¬ Row s q)))
      (refusal (list_by env.scope o at (inside (map (judgement env source allowed) ts)) (map (judgement env source allowed) ts)))
  list_right o at ts h = go (inside js) refl (least_all Row (judgement env source allowed) (λ j. refusal j.outcome) ts (every_part (λ t. t) IsRight ts h))
    where
      js : List Judged
      js = map (judgement env source allowed) ts

      Target : Refusal → Type 0
      Target r = InTrees ts r ⊎ (ListRow o env.scope at (map (tree_value env source) ts) r × ((s : Tree) → Among (λ t. t ≡ s) ts → (q : Refusal) → ¬ Row s q))

      to : (r : Refusal) → Among (λ t. Row t r) ts → InTrees ts r
      to r k = from_among (λ t. t) (λ s. Row s r) ts k

      back : (r : Refusal) → InTrees ts r → Among (λ t. Row t r) ts
      back r (s, w, k) = to_among (λ t. t) (λ s. Row s r) ts s w k

      made : (r : Result (Option Func) Refusal) → refusal_in env.scope e.scope r ≡ refusal (or_neutral env.scope o r)
      made (Err r) = refl
      made (Ok None) = refl
      made (Ok (Some f)) = refl

      go : (f : Option Refusal) → inside js ≡ f → IsFirstRefusal (λ r. Among (λ t. Row t r) ts) f → IsFirstRefusal Target (refusal (list_by env.scope o at f js))
      go (Some x) q k = (
        inl (to x k.0),
        λ r c. elim c [ inl m ↦ k.1 r (back r m) | inr v ↦ (let i = to x k.0 in absurd (v.1 i.0 i.1 x i.2)) ],
      )
      go None q k =
          let nothing = (first_none (λ (j : Judged). refusal j.outcome) None js q).1 in
          let told = are_told ts (every_of_map (judgement env source allowed) (λ j. refusal j.outcome ≡ None) ts (all_every _ js nothing)) in
          least_same _ Target (refusal (or_neutral env.scope o (steps o at None js)))
          (λ r l. inr (l, λ s w z m. k z (back z (s, w, m))))
          (λ r c. elim c [ inl m ↦ absurd (k r (back r m)) | inr v ↦ v.0 ])
          (subst (IsFirstRefusal (ListRow o env.scope at (map (tree_value env source) ts))) (made (steps o at None js)) (list_least env.scope e.scope o at js (map (tree_value env source) ts) told))

  -- ---- trees

  alone : (x : Tree-F Tree Branch) (o : Option Refusal) → ((s : Tree) → IsPartBy s x → ⊥) → ((r : Refusal) → ValueRow env source x r → ⊥) → IsFirstRefusal (TreeWordRow env source allowed x) o → IsFirstRefusal (SplitBy x) o
  alone x o no_part no_value h = least_same _ (SplitBy x) o (λ r a. inl a) (λ r c. elim c [ inl a ↦ a | inr m ↦ elim m [ inl p ↦ absurd (no_part p.0 p.1) | inr v ↦ absurd (no_value r v.0) ] ]) h

  abbrev given : Tree-F Tree Branch → Option Refusal
  given x = refusal (tree_step env source allowed (map-Tree Tree Branch Judged Branched (judgement env source allowed) (judgement_of_branch env source allowed) x)).outcome

  node_right : (x : Tree-F Tree Branch) (o : Option Refusal) → ((r : Refusal) → ValueRow env source x r → ⊥) → IsFirstRefusal (λ r. TreeWordRow env source allowed x r ⊎ ((s : Tree) × IsPartBy s x × Row s r)) o → IsFirstRefusal (SplitBy x) o
  node_right x o no_value h =
      least_same _ (SplitBy x) o (λ r c. elim c [ inl a ↦ inl a | inr m ↦ inr (inl m) ]) (λ r c. elim c [ inl a ↦ inl a | inr m ↦ elim m [ inl p ↦ inr p | inr v ↦ absurd (no_value r v.0) ] ]) h

  list_split : (x : Tree-F Tree Branch) (o : Option Refusal) → ((r : Refusal) → TreeWordRow env source allowed x r → ⊥)
      → IsFirstRefusal (λ r. ((s : Tree) × IsPartBy s x × Row s r) ⊎ (ValueRow env source x r × ((s : Tree) → IsPartBy s x → (q : Refusal) → ¬ Row s q))) o → IsFirstRefusal (SplitBy x) o
  list_split x o no_word h = least_same _ (SplitBy x) o (λ r c. inr c) (λ r c. elim c [ inl a ↦ absurd (no_word r a) | inr m ↦ m ]) h

  layer : (x : Tree-F Tree Branch) → ((s : Tree) → IsPartBy s x → IsRight s) → IsFirstRefusal (SplitBy x) (given x)
  layer (Tree-F.Number left word right) h =
      alone (Tree-F.Number left word right) (given (Tree-F.Number left word right)) (λ s n. n) (λ r n. n) (number_least word.start (ticks_of (text source word)))
  layer (Tree-F.Reference left word right) h =
      alone (Tree-F.Reference left word right) (given (Tree-F.Reference left word right)) (λ s n. n) (λ r n. n) (reference_least word.start (dd_of_name (text source word) env.dds))
  layer (Tree-F.Node left word bs right) h =
      node_right (Tree-F.Node left word bs right) (given (Tree-F.Node left word bs right)) (λ r n. n) (node_least false left word bs (place_of env (text source (name_span false word))) h)
  layer (Tree-F.PrimedNode left word bs right) h =
      node_right (Tree-F.PrimedNode left word bs right) (given (Tree-F.PrimedNode left word bs right)) (λ r n. n) (node_least true left word bs (place_of env (text source (name_span true word))) h)
  layer (Tree-F.Sum left plus ts right) h = list_split (Tree-F.Sum left plus ts right) (given (Tree-F.Sum left plus ts right)) (λ r n. n) (list_right op.Sum left.start ts h)
  layer (Tree-F.Product left star ts right) h = list_split (Tree-F.Product left star ts right) (given (Tree-F.Product left star ts right)) (λ r n. n) (list_right op.Product left.start ts h)

  pub right : (t : Tree) → IsRight t
  right = by_parts IsRight (λ t h.
      least_same (SplitBy (out-Tree t)) (Row t) (refusal (judgement env source allowed t).outcome) (to_row env source allowed t) (from_row env source allowed t)
      (subst (λ (j : Judged). IsFirstRefusal (SplitBy (out-Tree t)) (refusal j.outcome)) (sym (fold_out-Tree Judged Branched (tree_step env source allowed) branch_step t)) (layer (out-Tree t) h)))

pub tree_least : TreeRowsAreRefusals
tree_least env source allowed t e = right env source allowed e t
