-- Trees by their parts.
use Rattle.std.proofs.Common.{◌≡◌, List, [], ◌∷◌, map, sym, subst, inl, inr}
use Rattle.sp_syntax.specs.declared.text.Tree.{Tree, roll-Tree}
use Rattle.sp_syntax.specs.declared.text.Tree.TheOpen.{Tree-F, Branch-F}
use Rattle.sp_syntax.specs.declared.text.Tree.TheFolds.{map-Tree, map-Branch, ind-Tree}
use Rattle.sp_syntax.specs.declared.text.Tree.TheViews.{out-roll-Tree, out-roll-Branch}
use Rattle.sp_syntax.specs.declared.text.Branch.{Branch, out-Branch, roll-Branch}
use Rattle.sp_trees.specs.Rows.{Among, IsTreeOfBranch, IsPartBy, IsPart}

module _ (P : Tree → Type 0) (each : (t : Tree) → ((s : Tree) → IsPart s t → P s) → P t) where
  abbrev OfBranch : Branch → Type 0
  OfBranch b = P (out-Branch b).tree

  trees_have : (es : List ((t : Tree) × P t)) (s : Tree) → Among (λ t. t ≡ s) (map (λ e. e.0) es) → P s
  trees_have [] s h = absurd h
  trees_have (e ∷ es) s (inl q) = subst P q e.1
  trees_have (e ∷ es) s (inr h) = trees_have es s h

  branches_have : (es : List ((b : Branch) × OfBranch b)) (s : Tree) → Among (IsTreeOfBranch s) (map (λ e. e.0) es) → P s
  branches_have [] s h = absurd h
  branches_have (e ∷ es) s (inl q) = subst P q e.1
  branches_have (e ∷ es) s (inr h) = branches_have es s h

  layer : (y : Tree-F ((t : Tree) × P t) ((b : Branch) × OfBranch b)) (s : Tree) → IsPartBy s (map-Tree _ _ Tree Branch (λ e. e.0) (λ e. e.0) y) → P s
  layer (Tree-F.Number left word right) s h = absurd h
  layer (Tree-F.Reference left word right) s h = absurd h
  layer (Tree-F.Node left word es right) s h = branches_have es s h
  layer (Tree-F.PrimedNode left word es right) s h = branches_have es s h
  layer (Tree-F.Sum left plus es right) s h = trees_have es s h
  layer (Tree-F.Product left star es right) s h = trees_have es s h

  -- what holds of a tree where it holds of its parts holds of all
  pub by_parts : (t : Tree) → P t
  by_parts = ind-Tree P OfBranch
      (λ x y is. subst (λ z. P (roll-Tree z)) is (each (roll-Tree (map-Tree _ _ Tree Branch (λ e. e.0) (λ e. e.0) y)) (λ s h. layer y s (subst (IsPartBy s) (out-roll-Tree (map-Tree _ _ Tree Branch (λ e. e.0) (λ e. e.0) y)) h))))
      (λ x y is. subst (λ z. OfBranch (roll-Branch z)) is (subst (λ (w : Branch-F Tree Branch). P w.tree) (sym (out-roll-Branch (map-Branch _ _ Tree Branch (λ e. e.0) (λ e. e.0) y))) y.tree.1))
