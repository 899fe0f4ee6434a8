-- The rows of a tree stand at its words and brackets.
use Rattle.std.proofs.Common.{◌≡◌, ℕ, Bool, true, false, List, [], ◌∷◌, ◌++◌, map, Option, Some, None, refl, sym, subst, inl, inr}
use Rattle.sp_lex.specs.declared.lexeme.Span.{Span}
use Rattle.sp_syntax.specs.declared.text.Tree.{Tree, out-Tree}
use Rattle.sp_syntax.specs.declared.text.Tree.TheOpen.{Tree-F}
use Rattle.sp_syntax.specs.declared.text.Tree.TheFolds.{fold_out-Tree, fold_out-Branch, map-Tree, map-Branch}
use Rattle.sp_syntax.specs.declared.text.Branch.{Branch, out-Branch}
use Rattle.sp_trees.specs.declared.refusal.Refusal.{Refusal}
use Rattle.sp_trees.specs.declared.slots.Slots.{Slots}
use Rattle.sp_trees.specs.declared.env.Env.{Env}
use Rattle.sp_trees.specs.declared.env.Dd.{Dd}
use Rattle.sp_trees.specs.declared.nodes.Place.{Place}
use Rattle.sp_trees.specs.Words.{text, name_span}
use Rattle.sp_trees.specs.Dds.{dd_of_name}
use Rattle.sp_trees.specs.Nodes.{place_of, values_of}
use Rattle.sp_trees.specs.Values.{tree_value}
use Rattle.sp_trees.specs.Rows.{Among, word_of, IsTreeOfBranch, IsPartBy, IsSubtree, itself, within, BranchRows, NodeRowBy, ReferenceRow, TreeWordRow, ValueRow, TreeRow}
use Rattle.sp_syntax.specs.Spans.{tree_step, branch_step, tree_spans, branch_spans, all_spans}
use Rattle.sp_trees.proofs.ListPlaces.{at_of, sum_at, product_at}
use Rattle.sp_declarations.specs.Rows.{HasPlace}
use Rattle.sp_declarations.proofs.ChainLemmas.{has_left, has_right}
use Rattle.sp_checks.specs.Roles.{start_by, start_of}

abbrev pub spans_by : Tree-F Tree Branch → List Span
spans_by x = tree_step (map-Tree Tree Branch (List Span) (List Span) tree_spans branch_spans x)

pub spans_out : (t : Tree) → tree_spans t ≡ spans_by (out-Tree t)
spans_out t = fold_out-Tree (List Span) (List Span) tree_step branch_step t

branch_out : (b : Branch) → branch_spans b ≡ branch_step (map-Branch Tree Branch (List Span) (List Span) tree_spans branch_spans (out-Branch b))
branch_out b = fold_out-Branch (List Span) (List Span) tree_step branch_step b

-- ---- a part's places are places of the tree

tree_in_list : (s : Tree) (p : ℕ) (ts : List Tree) → Among (λ t. t ≡ s) ts → HasPlace (tree_spans s) p → HasPlace (all_spans tree_spans ts) p
tree_in_list s p [] h k = absurd h
tree_in_list s p (t ∷ ts) (inl e) k = has_left (tree_spans t) (all_spans tree_spans ts) p (subst (λ t. HasPlace (tree_spans t) p) (sym e) k)
tree_in_list s p (t ∷ ts) (inr h) k = has_right (tree_spans t) (all_spans tree_spans ts) p (tree_in_list s p ts h k)

in_branch : (b : Branch) (p : ℕ) → HasPlace (tree_spans (out-Branch b).tree) p → HasPlace (branch_spans b) p
in_branch b p h = subst (λ ss. HasPlace ss p) (sym (branch_out b)) (inr (inr (has_left (tree_spans (out-Branch b).tree) ((out-Branch b).right ∷ []) p h)))

tree_in_branches : (s : Tree) (p : ℕ) (bs : List Branch) → Among (IsTreeOfBranch s) bs → HasPlace (tree_spans s) p → HasPlace (all_spans branch_spans bs) p
tree_in_branches s p [] h k = absurd h
tree_in_branches s p (b ∷ bs) (inl e) k = has_left (branch_spans b) (all_spans branch_spans bs) p (in_branch b p (subst (λ t. HasPlace (tree_spans t) p) (sym e) k))
tree_in_branches s p (b ∷ bs) (inr h) k = has_right (branch_spans b) (all_spans branch_spans bs) p (tree_in_branches s p bs h k)

part_by : (s : Tree) (p : ℕ) (x : Tree-F Tree Branch) → IsPartBy s x → HasPlace (tree_spans s) p → HasPlace (spans_by x) p
part_by s p (Tree-F.Number left word right) h k = absurd h
part_by s p (Tree-F.Reference left word right) h k = absurd h
part_by s p (Tree-F.Node left word bs right) h k = inr (inr (has_left (all_spans branch_spans bs) (right ∷ []) p (tree_in_branches s p bs h k)))
part_by s p (Tree-F.PrimedNode left word bs right) h k = inr (inr (has_left (all_spans branch_spans bs) (right ∷ []) p (tree_in_branches s p bs h k)))
part_by s p (Tree-F.Sum left plus ts right) h k = inr (inr (has_left (all_spans tree_spans ts) (right ∷ []) p (tree_in_list s p ts h k)))
part_by s p (Tree-F.Product left star ts right) h k = inr (inr (has_left (all_spans tree_spans ts) (right ∷ []) p (tree_in_list s p ts h k)))

inside : (p : ℕ) (u t : Tree) → IsSubtree u t → HasPlace (tree_spans u) p → HasPlace (tree_spans t) p
inside p u t (itself e) h = subst (λ t. HasPlace (tree_spans t) p) e h
inside p u t (within s w i) h = subst (λ ss. HasPlace ss p) (sym (spans_out t)) (part_by s p (out-Tree t) w (inside p u s i h))

-- ---- a tree's own rows

module _ (env : Env) (source : List ℕ) (allowed : Slots) where
  word_in : (b : Branch) (r : Refusal) → (word_of b).start ≡ r.at → HasPlace (branch_spans b) r.at
  word_in b r e = subst (λ ss. HasPlace ss r.at) (sym (branch_out b)) (inr (inl e))

  branches_place : (values : List (List ℕ)) (before bs : List Branch) (r : Refusal) → BranchRows source values before bs r → HasPlace (all_spans branch_spans bs) r.at
  branches_place values before [] r h = absurd h
  branches_place values before (b ∷ bs) r (inl (inl h)) = has_left (branch_spans b) (all_spans branch_spans bs) r.at (word_in b r (at_of r _ h.1))
  branches_place values before (b ∷ bs) r (inl (inr h)) = has_left (branch_spans b) (all_spans branch_spans bs) r.at (word_in b r (at_of r _ h.3))
  branches_place values before (b ∷ bs) r (inr h) = has_right (branch_spans b) (all_spans branch_spans bs) r.at (branches_place values (before ++ b ∷ []) bs r h)

  node_place : (is_primed : Bool) (left word right : Span) (bs : List Branch) (o : Option Place) (r : Refusal) → NodeRowBy env source allowed is_primed left word bs o r
      → HasPlace (left ∷ word ∷ (all_spans branch_spans bs ++ right ∷ [])) r.at
  node_place is_primed left word right bs None r h = inr (inl (at_of r _ h))
  node_place is_primed left word right bs (Some p) r (inl h) = inr (inl (at_of r _ h.1))
  node_place is_primed left word right bs (Some p) r (inr (inl h)) = inl (at_of r _ h.at_bracket)
  node_place is_primed left word right bs (Some p) r (inr (inr h)) = inr (inr (has_left (all_spans branch_spans bs) (right ∷ []) r.at (branches_place (values_of env p) [] bs r h)))

  reference_place : (at : ℕ) (o : Option Dd) (r : Refusal) → ReferenceRow allowed at o r → at ≡ r.at
  reference_place at None r h = at_of r _ h
  reference_place at (Some d) r h = at_of r _ h.1

  word_place : (x : Tree-F Tree Branch) (r : Refusal) → TreeWordRow env source allowed x r → HasPlace (spans_by x) r.at
  word_place (Tree-F.Number left word right) r h = inr (inl (at_of r _ h.2))
  word_place (Tree-F.Reference left word right) r h = inr (inl (reference_place word.start (dd_of_name (text source word) env.dds) r h))
  word_place (Tree-F.Node left word bs right) r h = node_place false left word right bs (place_of env (text source (name_span false word))) r h
  word_place (Tree-F.PrimedNode left word bs right) r h = node_place true left word right bs (place_of env (text source (name_span true word))) r h
  word_place (Tree-F.Sum left plus ts right) r h = absurd h
  word_place (Tree-F.Product left star ts right) r h = absurd h

  value_place : (x : Tree-F Tree Branch) (r : Refusal) → ValueRow env source x r → HasPlace (spans_by x) r.at
  value_place (Tree-F.Sum left plus ts right) r h = inl (sum_at env.scope left.start (map (tree_value env source) ts) r h)
  value_place (Tree-F.Product left star ts right) r h = inl (product_at env.scope left.start (map (tree_value env source) ts) r h)
  value_place _ r h = absurd h

  pub row_place : (t : Tree) (r : Refusal) → TreeRow env source allowed t r → HasPlace (tree_spans t) r.at
  row_place t r (u, i, inl h) = inside r.at u t i (subst (λ ss. HasPlace ss r.at) (sym (spans_out u)) (word_place (out-Tree u) r h))
  row_place t r (u, i, inr h) = inside r.at u t i (subst (λ ss. HasPlace ss r.at) (sym (spans_out u)) (value_place (out-Tree u) r h.0))

-- a tree begins at its first span
first_by : (x : Tree-F Tree Branch) → HasPlace (spans_by x) (start_by x)
first_by (Tree-F.Number left word right) = inl refl
first_by (Tree-F.Reference left word right) = inl refl
first_by (Tree-F.Node left word bs right) = inl refl
first_by (Tree-F.PrimedNode left word bs right) = inl refl
first_by (Tree-F.Sum left plus ts right) = inl refl
first_by (Tree-F.Product left star ts right) = inl refl

pub start_place : (t : Tree) → HasPlace (tree_spans t) (start_of t)
start_place t = subst (λ ss. HasPlace ss (start_of t)) (sym (spans_out t)) (first_by (out-Tree t))
