-- The rows inside a tree.
use Rattle.std.proofs.Common.{ℕ, List, refl, subst, inl, inr}
use Rattle.std.specs.Prelude.{◌⊎◌}
use Rattle.sp_syntax.specs.declared.text.Tree.{Tree, out-Tree}
use Rattle.sp_trees.specs.declared.refusal.Refusal.{Refusal}
use Rattle.sp_trees.specs.declared.slots.Slots.{Slots}
use Rattle.sp_trees.specs.declared.env.Env.{Env}
use Rattle.sp_trees.specs.Rows.{IsPart, IsSubtree, itself, within, TreeWordRow, ValueRow, OwnRow, TreeRow}
use Rattle.sp_trees.proofs.Parts.{by_parts}

module _ (env : Env) (source : List ℕ) (allowed : Slots) where
  abbrev Row : Tree → Refusal → Type 0
  Row t r = TreeRow env source allowed t r

  abbrev Mark : Tree → Refusal → Type 0
  Mark u q = TreeWordRow env source allowed (out-Tree u) q ⊎ ValueRow env source (out-Tree u) q

  -- no row holds inside the parts of a tree
  abbrev pub HasQuietParts : Tree → Type 0
  HasQuietParts t = (s : Tree) → IsPart s t → (r : Refusal) → ¬ Row s r

  abbrev IsUnmarked : Tree → Type 0
  IsUnmarked s = ((r : Refusal) → ¬ Row s r) → (u : Tree) → IsSubtree u s → (q : Refusal) → ¬ Mark u q

  -- where no row holds of a tree, nothing inside it is marked, whether or not it counts
  unmarked : (s : Tree) → IsUnmarked s
  unmarked = by_parts IsUnmarked each
    where
      deep : (s : Tree) → ((p : Tree) → IsPart p s → IsUnmarked p) → ((r : Refusal) → ¬ Row s r) → (p u : Tree) → IsPart p s → IsSubtree u p → (q : Refusal) → ¬ Mark u q
      deep s parts h p u w i q m = parts p w (λ r k. h r (k.0, within p w k.1, k.2)) u i q m

      here : (s : Tree) → ((r : Refusal) → ¬ Row s r) → ((p u : Tree) → IsPart p s → IsSubtree u p → (q : Refusal) → ¬ Mark u q) → (q : Refusal) → ¬ Mark s q
      here s h below q (inl a) = h q (s, itself refl, inl a)
      here s h below q (inr v) = h q (s, itself refl, inr (v, below))

      each : (s : Tree) → ((p : Tree) → IsPart p s → IsUnmarked p) → IsUnmarked s
      each s parts h u (itself e) q m = here s h (deep s parts h) q (subst (λ t. Mark t q) e m)
      each s parts h u (within p w i) q m = deep s parts h p u w i q m

  -- the rows of a tree: on its words, inside its parts, or on its values where no row holds inside its parts
  abbrev pub Split : Tree → Refusal → Type 0
  Split t r = TreeWordRow env source allowed (out-Tree t) r ⊎ (((s : Tree) × IsPart s t × Row s r) ⊎ (ValueRow env source (out-Tree t) r × HasQuietParts t))

  pub to_row : (t : Tree) (r : Refusal) → Split t r → Row t r
  to_row t r (inl a) = (t, itself refl, inl a)
  to_row t r (inr (inl (s, w, (u, i, o)))) = (u, within s w i, o)
  to_row t r (inr (inr (v, quiet))) = (t, itself refl, inr (v, λ s u w i q m. unmarked s (quiet s w) u i q m))

  own : (t : Tree) (r : Refusal) → OwnRow env source allowed t r → Split t r
  own t r (inl a) = inl a
  own t r (inr (v, below)) = inr (inr (v, λ s w q k. hidden s w q k.0 k.1 k.2))
    where
      hidden : (s : Tree) → IsPart s t → (q : Refusal) (u : Tree) → IsSubtree u s → OwnRow env source allowed u q → ⊥
      hidden s w q u i (inl a) = below s u w i q (inl a)
      hidden s w q u i (inr (v, b)) = below s u w i q (inr v)

  pub from_row : (t : Tree) (r : Refusal) → Row t r → Split t r
  from_row t r (u, itself e, o) = own t r (subst (λ t. OwnRow env source allowed t r) e o)
  from_row t r (u, within s w i, o) = inr (inl (s, w, (u, i, o)))
