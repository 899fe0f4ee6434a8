-- What is wrong at a tree by the table, and the rows of trees that judging answers: they hold alike.
use Rattle.std.proofs.Common.{◌≡◌, ℕ, Bool, true, false, List, [], ◌∷◌, ◌++◌, map, Option, Some, None, Err, refl, sym, ap, subst, inl, inr}
use Rattle.std.specs.Prelude.{◌⊎◌}
use Rattle.sp_lex.specs.declared.lexeme.Span.{Span}
use Rattle.sp_lex.specs.declared.decimal.NumError.{NumError}
use Rattle.sp_lex.specs.declared.decimal.NumError.TheVariants as fault
use Rattle.sp_lex.specs.Decimal.{ticks_of}
use Rattle.sp_syntax.specs.declared.text.Tree.{Tree, out-Tree}
use Rattle.sp_syntax.specs.declared.text.Tree.TheOpen.{Tree-F}
use Rattle.sp_syntax.specs.declared.text.Branch.{Branch}
use Rattle.sp_dd.specs.Func.{Shape}
use Rattle.sp_trees.specs.declared.refusal.Refusal.{Refusal}
use Rattle.sp_trees.specs.declared.refusal.ModelKind.{ModelKind}
use Rattle.sp_trees.specs.declared.refusal.ModelKind.TheVariants as kind
use Rattle.sp_trees.specs.declared.slots.Slots.{Slots}
use Rattle.sp_trees.specs.declared.env.Env.{Env}
use Rattle.sp_trees.specs.declared.env.Dd.{Dd}
use Rattle.sp_trees.specs.declared.nodes.Place.{Place}
use Rattle.sp_trees.specs.declared.lists.Op.{Op}
use Rattle.sp_trees.specs.declared.lists.Op.TheVariants as op
use Rattle.sp_trees.specs.Single.{number_kind}
use Rattle.sp_trees.specs.Words.{text, name_span, number_of}
use Rattle.sp_trees.specs.Dds.{dd_of_name}
use Rattle.sp_trees.specs.Nodes.{place_of, values_of}
use Rattle.sp_trees.specs.Values.{Value, tree_value}
use Rattle.sp_trees.specs.Rows.{IsRefusalAt, IsPart, IsSubtree, itself, within, word_of, BranchRow, NodeRowBy, NodeRow, ReferenceRow, TreeWordRow, partial_of, IsFine, IsBadPartial, PartialRow, ListRow, ValueRow, OwnRow}
use Rattle.sp_trees.proofs.InsideLemmas.{to_row}
use Rattle.sp_checks.specs.declared.roles.Role.{Role}
use Rattle.sp_checks.specs.Roles.{allowed_slots}
use Rattle.sp_checks.specs.Standing.{StandsBehind, NumberOf, ReferenceOf, node_form, NodeOf, ListOf}
use Rattle.sp_checks.specs.RefusalTable.{place_in, HasUnknownWord, HasRepeatedBranch, LacksBranch, IsOutOfScope, HasNoDecimal, partial_results_behind, partial_results, AreFine, HasUnevenResult, HasLargeResult, IsWrongAt, IsQuiet, HasQuietParts}
use Rattle.sp_checks.proofs.TextRows.{HasNoRow}
use Rattle.sp_checks.proofs.StandingLemmas.{row_stood, row_stands, branches_parts, parts_branches, among_stands, stands_among, stands_nowhere}

-- a refusal at that place
pub is_at : (k : ModelKind) (at p : ℕ) → at ≡ p → IsRefusalAt p k (record { at = at; kind = k })
is_at k at p e = ap (λ a. record { at = a; kind = k }) e

-- ---- partial results

partial_stood : (o : Op) (s : Shape) (at : ℕ) (v : Value) (ws : List Value) (r : Refusal) → PartialRow o s at v ws r
    → (before : List Value) × (w : Value) × StandsBehind before w (partial_results_behind o v ws) × AreFine s before × IsBadPartial s at w r
partial_stood o s at v [] r h = absurd h
partial_stood o s at v (w ∷ ws) r (inl h) = ([], partial_of o v w, record { after = partial_results_behind o (partial_of o v w) ws; is = refl }, tt, h)
partial_stood o s at v (w ∷ ws) r (inr h) =
    let p = partial_of o v w in
    let m = partial_stood o s at p ws r h.1 in
    (p ∷ m.0, m.1, record { after = m.2.after; is = ap (λ ys. p ∷ ys) m.2.is }, (h.0, m.3), m.4)

partial_stands : (o : Op) (s : Shape) (at : ℕ) (v : Value) (ws before : List Value) (w : Value) (r : Refusal) → StandsBehind before w (partial_results_behind o v ws) → AreFine s before → IsBadPartial s at w r → PartialRow o s at v ws r
partial_stands o s at v [] before w r k fine h = absurd (stands_nowhere before w k)
partial_stands o s at v (x ∷ ws) [] w r k fine h =
    let e : partial_of o v x ∷ partial_results_behind o (partial_of o v x) ws ≡ w ∷ k.after = k.is in
    let q : partial_of o v x ≡ w = cc in
    inl (subst (λ p. IsBadPartial s at p r) (sym q) h)
partial_stands o s at v (x ∷ ws) (b ∷ before) w r k fine h =
    let e : partial_of o v x ∷ partial_results_behind o (partial_of o v x) ws ≡ b ∷ (before ++ w ∷ k.after) = k.is in
    let head : partial_of o v x ≡ b = cc in
    let tail : partial_results_behind o (partial_of o v x) ws ≡ before ++ w ∷ k.after = cc in
    inr (subst (IsFine s) (sym head) fine.0, partial_stands o s at (partial_of o v x) ws before w r (record { after = k.after; is = tail }) fine.1 h)

list_stood : (o : Op) (s : Shape) (at : ℕ) (vs : List Value) (r : Refusal) → ListRow o s at vs r → (before : List Value) × (w : Value) × StandsBehind before w (partial_results o vs) × AreFine s before × IsBadPartial s at w r
list_stood o s at [] r h = absurd h
list_stood o s at (v ∷ vs) r h = partial_stood o s at v vs r h

list_stands : (o : Op) (s : Shape) (at : ℕ) (vs before : List Value) (w : Value) (r : Refusal) → StandsBehind before w (partial_results o vs) → AreFine s before → IsBadPartial s at w r → ListRow o s at vs r
list_stands o s at [] before w r k fine h = absurd (stands_nowhere before w k)
list_stands o s at (v ∷ vs) before w r k fine h = partial_stands o s at v vs before w r k fine h

module _ (env : Env) (source : List ℕ) (for : Role) where
  abbrev may : Slots
  may = allowed_slots env.scope for

  -- what is wrong with the words of a tree itself, by its kind
  abbrev pub IsWrongWord : Tree → ModelKind → ℕ → Type 0
  IsWrongWord u kind.UnknownName at = HasUnknownWord env source u at
  IsWrongWord u kind.RepeatedName at = HasRepeatedBranch env source u at
  IsWrongWord u kind.MissingValue at = LacksBranch env source u at
  IsWrongWord u kind.BadScope at = IsOutOfScope env source for u at
  IsWrongWord u kind.BadNumber at = HasNoDecimal source fault.Shape u at
  IsWrongWord u kind.TooFine at = HasNoDecimal source fault.TooFine u at
  IsWrongWord u kind.TooLarge at = HasNoDecimal source fault.TooLarge u at
  IsWrongWord u _ at = ⊥

  -- and with its partial results
  abbrev pub IsWrongResult : Op → Tree → ModelKind → ℕ → Type 0
  IsWrongResult o u kind.TooFine at = HasUnevenResult env source o u at
  IsWrongResult o u kind.TooLarge at = HasLargeResult env source o u at
  IsWrongResult o u _ at = ⊥

  told_word : (u : Tree) (k : ModelKind) (p : ℕ) (r : Refusal) → IsRefusalAt p k r → IsWrongWord u k p → IsWrongWord u r.kind r.at
  told_word u k p r e w = subst (λ (q : Refusal). IsWrongWord u q.kind q.at) (sym e) w

  told_result : (o : Op) (u : Tree) (k : ModelKind) (p : ℕ) (r : Refusal) → IsRefusalAt p k r → IsWrongResult o u k p → IsWrongResult o u r.kind r.at
  told_result o u k p r e w = subst (λ (q : Refusal). IsWrongResult o u q.kind q.at) (sym e) w

  -- ---- words

  number_told : (u : Tree) (n : NumberOf u) (e : NumError) (r : Refusal) → ticks_of (text source n.word) ≡ Err e → IsRefusalAt n.word.start (number_kind e) r → IsWrongWord u r.kind r.at
  number_told u n fault.Shape r q h = told_word u kind.BadNumber n.word.start r h (n, q, refl)
  number_told u n fault.TooFine r q h = told_word u kind.TooFine n.word.start r h (n, q, refl)
  number_told u n fault.TooLarge r q h = told_word u kind.TooLarge n.word.start r h (n, q, refl)

  reference_told : (u : Tree) (d : ReferenceOf u) (o : Option Dd) (r : Refusal) → dd_of_name (text source d.word) env.dds ≡ o → ReferenceRow may d.word.start o r → IsWrongWord u r.kind r.at
  reference_told u d None r e h = told_word u kind.UnknownName d.word.start r h (inl (d, e, refl))
  reference_told u d (Some dd) r e h = told_word u kind.BadScope d.word.start r h.1 (inr (d, dd, e, h.0, refl))

  branch_told : (u : Tree) (n : NodeOf u) (p : Place) (before : List Branch) (b : Branch) (r : Refusal) → place_in env source n ≡ Some p → StandsBehind before b n.branches → BranchRow source (values_of env p) before b r → IsWrongWord u r.kind r.at
  branch_told u n p before b r e s (inl h) =
      told_word u kind.UnknownName (word_of b).start r h.1 (inr (inr (n, p, e, among_stands (λ c. (number_of (values_of env p) (text source (word_of c)) ≡ None) × ((word_of b).start ≡ (word_of c).start)) before b n.branches s (h.0, refl))))
  branch_told u n p before b r e s (inr h) = told_word u kind.RepeatedName (word_of b).start r h.3 (n, p, e, (before, b, s, (h.0, h.1, h.2, refl)))

  node_told : (u : Tree) (n : NodeOf u) (o : Option Place) (r : Refusal) → place_in env source n ≡ o → NodeRowBy env source may n.is_primed n.left n.word n.branches o r → IsWrongWord u r.kind r.at
  node_told u n None r e h = told_word u kind.UnknownName n.word.start r h (inr (inl (n, e, refl)))
  node_told u n (Some p) r e (inl h) = told_word u kind.BadScope n.word.start r h.1 (inl (n, p, e, h.0, refl))
  node_told u n (Some p) r e (inr (inl h)) = told_word u kind.MissingValue n.left.start r h.at_bracket (n, p, e, (h.value, h.below, h.nowhere, refl))
  node_told u n (Some p) r e (inr (inr h)) =
      let m = row_stood (BranchRow source (values_of env p)) n.branches r (branches_parts source (values_of env p) [] n.branches r h) in
      branch_told u n p m.0 m.1 r e m.2 m.3

  pub word_told : (u : Tree) (r : Refusal) → TreeWordRow env source may (out-Tree u) r → IsWrongWord u r.kind r.at
  word_told u r h = go (out-Tree u) refl h
    where
      go : (x : Tree-F Tree Branch) → out-Tree u ≡ x → TreeWordRow env source may x r → IsWrongWord u r.kind r.at
      go (Tree-F.Number left word right) e h = number_told u (record { left = left; word = word; right = right; is = e }) h.0 r h.1 h.2
      go (Tree-F.Reference left word right) e h = reference_told u (record { left = left; word = word; right = right; is = e }) (dd_of_name (text source word) env.dds) r refl h
      go (Tree-F.Node left word bs right) e h =
          node_told u (record { is_primed = false; left = left; word = word; branches = bs; right = right; is = e }) (place_of env (text source (name_span false word))) r refl h
      go (Tree-F.PrimedNode left word bs right) e h =
          node_told u (record { is_primed = true; left = left; word = word; branches = bs; right = right; is = e }) (place_of env (text source (name_span true word))) r refl h
      go (Tree-F.Sum left plus ts right) e h = absurd h
      go (Tree-F.Product left star ts right) e h = absurd h

  -- ---- and back

  number_row : (u : Tree) (n : NumberOf u) (e : NumError) (r : Refusal) → ticks_of (text source n.word) ≡ Err e → IsRefusalAt n.word.start (number_kind e) r → TreeWordRow env source may (out-Tree u) r
  number_row u n e r q h = subst (λ x. TreeWordRow env source may x r) (sym n.is) (e, q, h)

  reference_row : (u : Tree) (d : ReferenceOf u) (o : Option Dd) (r : Refusal) → dd_of_name (text source d.word) env.dds ≡ o → ReferenceRow may d.word.start o r → TreeWordRow env source may (out-Tree u) r
  reference_row u d o r e h = subst (λ x. TreeWordRow env source may x r) (sym d.is) (subst (λ o. ReferenceRow may d.word.start o r) (sym e) h)

  form_row : (is_primed : Bool) (left word right : Span) (bs : List Branch) (r : Refusal) → NodeRow env source may is_primed left word bs r → TreeWordRow env source may (node_form is_primed left word bs right) r
  form_row false left word right bs r h = h
  form_row true left word right bs r h = h

  node_row : (u : Tree) (n : NodeOf u) (o : Option Place) (r : Refusal) → place_in env source n ≡ o → NodeRowBy env source may n.is_primed n.left n.word n.branches o r → TreeWordRow env source may (out-Tree u) r
  node_row u n o r e h =
      subst (λ x. TreeWordRow env source may x r) (sym n.is)
      (form_row n.is_primed n.left n.word n.right n.branches r (subst (λ o. NodeRowBy env source may n.is_primed n.left n.word n.branches o r) (sym e) h))

  branch_row : (u : Tree) (n : NodeOf u) (p : Place) (before : List Branch) (b : Branch) (r : Refusal) → place_in env source n ≡ Some p → StandsBehind before b n.branches → BranchRow source (values_of env p) before b r → TreeWordRow env source may (out-Tree u) r
  branch_row u n p before b r e s h =
      node_row u n (Some p) r e (inr (inr (parts_branches source (values_of env p) [] n.branches r (row_stands (BranchRow source (values_of env p)) before b n.branches r s h))))

  pub word_row : (u : Tree) (k : ModelKind) (at : ℕ) → IsWrongWord u k at → TreeWordRow env source may (out-Tree u) (record { at = at; kind = k })
  word_row u kind.UnknownName at (inl h) = reference_row u h.0 None _ h.1 (is_at kind.UnknownName at h.0.word.start h.2)
  word_row u kind.UnknownName at (inr (inl h)) = node_row u h.0 None _ h.1 (is_at kind.UnknownName at h.0.word.start h.2)
  word_row u kind.UnknownName at (inr (inr h)) =
      let m = stands_among (λ b. (number_of (values_of env h.1) (text source (word_of b)) ≡ None) × (at ≡ (word_of b).start)) h.0.branches h.3 in
      branch_row u h.0 h.1 m.0 m.1 _ h.2 m.2 (inl (m.3.0, is_at kind.UnknownName at (word_of m.1).start m.3.1))
  word_row u kind.RepeatedName at (n, p, e, (before, b, s, (v, names, among, q))) = branch_row u n p before b _ e s (inr (v, names, among, is_at kind.RepeatedName at (word_of b).start q))
  word_row u kind.MissingValue at (n, p, e, (v, below, nowhere, q)) =
      node_row u n (Some p) _ e (inr (inl (record { value = v; below = below; nowhere = nowhere; at_bracket = is_at kind.MissingValue at n.left.start q })))
  word_row u kind.BadScope at (inl (n, p, e, f, q)) = node_row u n (Some p) _ e (inl (f, is_at kind.BadScope at n.word.start q))
  word_row u kind.BadScope at (inr (d, dd, e, f, q)) = reference_row u d (Some dd) _ e (f, is_at kind.BadScope at d.word.start q)
  word_row u kind.BadNumber at (n, e, q) = number_row u n fault.Shape _ e (is_at kind.BadNumber at n.word.start q)
  word_row u kind.TooFine at (n, e, q) = number_row u n fault.TooFine _ e (is_at kind.TooFine at n.word.start q)
  word_row u kind.TooLarge at (n, e, q) = number_row u n fault.TooLarge _ e (is_at kind.TooLarge at n.word.start q)
  word_row u _ at h = absurd h

  -- ---- partial results

  list_told : (o : Op) (u : Tree) (l : ListOf o u) (r : Refusal) → ListRow o env.scope l.left.start (map (tree_value env source) l.trees) r → IsWrongResult o u r.kind r.at
  list_told o u l r h = go (list_stood o env.scope l.left.start (map (tree_value env source) l.trees) r h)
    where
      go : (before : List Value) × (w : Value) × StandsBehind before w (partial_results o (map (tree_value env source) l.trees)) × AreFine env.scope before × IsBadPartial env.scope l.left.start w r → IsWrongResult o u r.kind r.at
      go (before, w, s, fine, inl b) = told_result o u kind.TooFine l.left.start r b.1 (l, record { value = w; before = before; stands = s; fine = fine }, b.0, refl)
      go (before, w, s, fine, inr b) = told_result o u kind.TooLarge l.left.start r b.1 (l, record { value = w; before = before; stands = s; fine = fine }, b.0, refl)

  pub value_told : (u : Tree) (r : Refusal) → ValueRow env source (out-Tree u) r → (o : Op) × IsWrongResult o u r.kind r.at
  value_told u r h = go (out-Tree u) refl h
    where
      go : (x : Tree-F Tree Branch) → out-Tree u ≡ x → ValueRow env source x r → (o : Op) × IsWrongResult o u r.kind r.at
      go (Tree-F.Number left word right) e h = absurd h
      go (Tree-F.Reference left word right) e h = absurd h
      go (Tree-F.Node left word bs right) e h = absurd h
      go (Tree-F.PrimedNode left word bs right) e h = absurd h
      go (Tree-F.Sum left plus ts right) e h = (op.Sum, list_told op.Sum u (record { left = left; sign = plus; trees = ts; right = right; is = e }) r h)
      go (Tree-F.Product left star ts right) e h = (op.Product, list_told op.Product u (record { left = left; sign = star; trees = ts; right = right; is = e }) r h)

  list_row : (o : Op) (u : Tree) (l : ListOf o u) (r : Refusal) → ListRow o env.scope l.left.start (map (tree_value env source) l.trees) r → ValueRow env source (out-Tree u) r
  list_row op.Sum u l r h = subst (λ x. ValueRow env source x r) (sym l.is) h
  list_row op.Product u l r h = subst (λ x. ValueRow env source x r) (sym l.is) h

  pub value_row : (o : Op) (u : Tree) (k : ModelKind) (at : ℕ) → IsWrongResult o u k at → ValueRow env source (out-Tree u) (record { at = at; kind = k })
  value_row o u kind.TooFine at (l, p, bad, q) =
      list_row o u l _ (list_stands o env.scope l.left.start (map (tree_value env source) l.trees) p.before p.value _ p.stands p.fine (inl (bad, is_at kind.TooFine at l.left.start q)))
  value_row o u kind.TooLarge at (l, p, bad, q) =
      list_row o u l _ (list_stands o env.scope l.left.start (map (tree_value env source) l.trees) p.before p.value _ p.stands p.fine (inr (bad, is_at kind.TooLarge at l.left.start q)))
  value_row o u _ at h = absurd h

  -- ---- nothing wrong

  abbrev Mark : Tree → Refusal → Type 0
  Mark u q = TreeWordRow env source may (out-Tree u) q ⊎ ValueRow env source (out-Tree u) q

  -- what is wrong marks the tree
  marked : (u : Tree) (at : ℕ) → IsWrongAt env source for u at → (q : Refusal) × Mark u q
  marked u at (inl h) = (_, inl (word_row u kind.UnknownName at h))
  marked u at (inr (inl h)) = (_, inl (word_row u kind.RepeatedName at h))
  marked u at (inr (inr (inl h))) = (_, inl (word_row u kind.MissingValue at h))
  marked u at (inr (inr (inr (inl h)))) = (_, inl (word_row u kind.BadScope at h))
  marked u at (inr (inr (inr (inr (inl (fault.Shape, h)))))) = (_, inl (word_row u kind.BadNumber at h))
  marked u at (inr (inr (inr (inr (inl (fault.TooFine, h)))))) = (_, inl (word_row u kind.TooFine at h))
  marked u at (inr (inr (inr (inr (inl (fault.TooLarge, h)))))) = (_, inl (word_row u kind.TooLarge at h))
  marked u at (inr (inr (inr (inr (inr (o, inl h)))))) = (_, inr (value_row o u kind.TooFine at h))
  marked u at (inr (inr (inr (inr (inr (o, inr h)))))) = (_, inr (value_row o u kind.TooLarge at h))

  word_wrong : (u : Tree) (k : ModelKind) (at : ℕ) → IsWrongWord u k at → IsWrongAt env source for u at
  word_wrong u kind.UnknownName at h = inl h
  word_wrong u kind.RepeatedName at h = inr (inl h)
  word_wrong u kind.MissingValue at h = inr (inr (inl h))
  word_wrong u kind.BadScope at h = inr (inr (inr (inl h)))
  word_wrong u kind.BadNumber at h = inr (inr (inr (inr (inl (fault.Shape, h)))))
  word_wrong u kind.TooFine at h = inr (inr (inr (inr (inl (fault.TooFine, h)))))
  word_wrong u kind.TooLarge at h = inr (inr (inr (inr (inl (fault.TooLarge, h)))))
  word_wrong u _ at h = absurd h

  result_wrong : (o : Op) (u : Tree) (k : ModelKind) (at : ℕ) → IsWrongResult o u k at → IsWrongAt env source for u at
  result_wrong o u kind.TooFine at h = inr (inr (inr (inr (inr (o, inl h)))))
  result_wrong o u kind.TooLarge at h = inr (inr (inr (inr (inr (o, inr h)))))
  result_wrong o u _ at h = absurd h

  wrong : (u : Tree) (q : Refusal) → Mark u q → IsWrongAt env source for u q.at
  wrong u q (inl h) = word_wrong u q.kind q.at (word_told u q h)
  wrong u q (inr h) = let m = value_told u q h in result_wrong m.0 u q.kind q.at m.1

  part_quiet : (s p : Tree) → HasNoRow env source for s → IsPart p s → HasNoRow env source for p
  part_quiet s p h w r k = h r (to_row env source may s r (inr (inl (p, w, k))))

  unmarked : (u s : Tree) → IsSubtree u s → HasNoRow env source for s → (q : Refusal) → ¬ Mark u q
  unmarked u s (itself e) h q m = go (subst (λ t. Mark t q) e m)
    where
      go : Mark s q → ⊥
      go (inl a) = h q (to_row env source may s q (inl a))
      go (inr v) = h q (to_row env source may s q (inr (inr (v, λ p w r k. part_quiet s p h w r k))))
  unmarked u s (within p w i) h q m = unmarked u p i (part_quiet s p h w) q m

  -- a tree without rows is quiet
  pub quiet_of : (tree : Tree) → HasNoRow env source for tree → IsQuiet env source for tree
  quiet_of tree h u i at w = let m = marked u at w in unmarked u tree i h m.0 m.1

  pub of_quiet : (tree : Tree) → IsQuiet env source for tree → HasNoRow env source for tree
  of_quiet tree h r (u, i, inl a) = h u i r.at (wrong u r (inl a))
  of_quiet tree h r (u, i, inr v) = h u i r.at (wrong u r (inr v.0))

  abbrev IsGuarded : Tree → Type 0
  IsGuarded t = (s u : Tree) → IsPart s t → IsSubtree u s → (q : Refusal) → ¬ Mark u q

  guard_of : (t : Tree) → HasQuietParts env source for t → IsGuarded t
  guard_of t h s u w i q m = h s w u i q.at (wrong u q m)

  of_guard : (t : Tree) → IsGuarded t → HasQuietParts env source for t
  of_guard t h s w u i at k = let m = marked u at k in h s u w i m.0 m.1

  -- the rows of a tree itself
  pub own_told : (u : Tree) (r : Refusal) → OwnRow env source may u r → IsWrongWord u r.kind r.at ⊎ (HasQuietParts env source for u × ((o : Op) × IsWrongResult o u r.kind r.at))
  own_told u r (inl h) = inl (word_told u r h)
  own_told u r (inr h) = inr (of_guard u h.1, value_told u r h.0)

  pub own_word : (u : Tree) (k : ModelKind) (at : ℕ) → IsWrongWord u k at → OwnRow env source may u (record { at = at; kind = k })
  own_word u k at h = inl (word_row u k at h)

  pub own_result : (o : Op) (u : Tree) (k : ModelKind) (at : ℕ) → HasQuietParts env source for u → IsWrongResult o u k at → OwnRow env source may u (record { at = at; kind = k })
  own_result o u k at quiet h = inr (value_row o u k at h, guard_of u quiet)
