-- The nodes of a function can be spelled.
use Rattle.std.proofs.Common.{◌≡◌, ℕ, zero, suc, ◌+◌, ◌^◌, ◌<◌, ◌≤◌, ⊎_elim, List, [], ◌∷◌, length, get_or, refl, sym, ap, ◌∙◌, subst, arith}
use Rattle.std.specs.Prelude.{ℤ, pos, unsigned_abs}
use Rattle.sp_dd.specs.declared.part.Part.{Part}
use Rattle.sp_dd.specs.declared.part.Part.TheVariants.{Leaf, At}
use Rattle.sp_dd.specs.Points.{AllSizes}
use Rattle.sp_dd.specs.Func.{Func, IsScope, Everywhere, value_of}
use Rattle.sp_dd.specs.NodeLists.{Node}
use Rattle.sp_dd.specs.Ordered.{node_at, part_at, IsBefore}
use Rattle.sp_dd.specs.Diagrams.{node_list}
use Rattle.sp_dd.proofs.Attained.{Attains, AllPositive, listed_attains}
use Rattle.sp_dd.proofs.Diagramming.{func_made}
use Rattle.sp_trees.specs.Nodes.{values_of}
use Rattle.sp_spelled.specs.Words.{SpellsTicks}
use Rattle.sp_checks.specs.declared.state.State.{State}
use Rattle.sp_written.proofs.Lines.{Said, IsSaidSo, AreNames, IsPartSo, ArePartsSo, IsNodeSo, AreNodesSo}

module _ (name_of : ℕ → List ℕ) (names : AreNames name_of) (word_of : ℤ → List ℕ) (said_of : ℕ → Said) (s : State) (scope : IsScope s.env.scope)
    (spells : (z : ℤ) → unsigned_abs z ≤ 10 ^ 18 → SpellsTicks (word_of z) z)
    (slots : (slot : ℕ) → slot < length s.env.scope.sizes → IsSaidSo s.env slot (said_of slot))
    (sizes : (slot : ℕ) → slot < length s.env.scope.sizes → length (values_of s.env (said_of slot).place) ≡ get_or s.env.scope.sizes slot 0) where
  abbrev PartSo : ℕ → Part → Type 0
  PartSo = IsPartSo name_of names word_of said_of s scope

  parts_so : (m : ℕ) (ps : List Part) → ((v : ℕ) → v < length ps → PartSo m (get_or ps v (Leaf (pos 0)))) → ArePartsSo name_of names word_of said_of s scope m ps
  parts_so m [] h = tt
  parts_so m (p ∷ ps) h = (h 0 (omega arith), parts_so m ps (λ v l. h (suc v) (omega arith)))

  nodes_so : (m : ℕ) (ns : List Node) → ((k : ℕ) → k < length ns → IsNodeSo name_of names word_of said_of s scope (m + k) (node_at ns k)) → AreNodesSo name_of names word_of said_of s scope m ns
  nodes_so m [] h = tt
  nodes_so m (n ∷ ns) h = (
    subst (λ k. IsNodeSo name_of names word_of said_of s scope k n) (let e : m + 0 ≡ m = omega arith in e) (h 0 (omega arith)),
    nodes_so (suc m) ns (λ k l. subst (λ j. IsNodeSo name_of names word_of said_of s scope j (node_at ns k)) (let e : m + suc k ≡ suc m + k = omega arith in e) (h (suc k) (omega arith))),
  )

  some_size : (ws : List ℕ) (k : ℕ) → AllSizes ws → k < length ws → 0 < get_or ws k 0
  some_size [] k h l = absurd (omega arith)
  some_size (w ∷ ws) zero h l = h.0
  some_size (w ∷ ws) (suc k) h l = some_size ws k h.2 (omega arith)

  positive : (ws : List ℕ) → AllSizes ws → AllPositive ws
  positive [] h = tt
  positive (w ∷ ws) h = let low = h.0 in (omega arith, positive ws h.2)

  part_so : (m : ℕ) (p : Part) → IsBefore m p → ((z : ℤ) → p ≡ Leaf z → unsigned_abs z ≤ 10 ^ 18) → PartSo m p
  part_so m (Leaf z) h small = spells z (small z refl)
  part_so m (At i) h small = h

  -- no leaf is too large
  leaf_small : (f : Func) → f.shape ≡ s.env.scope → Everywhere f (λ v. unsigned_abs v ≤ 10 ^ 18) → (k v : ℕ) (z : ℤ) → k < length (node_list f) → v < length (node_at (node_list f) k).parts → part_at (node_list f) k v ≡ Leaf z → unsigned_abs z ≤ 10 ^ 18
  unfolding node_list
  leaf_small f shape small k v z lk lv e =
      let each : AllSizes f.shape.sizes = subst (λ t. AllSizes t.sizes) (sym shape) scope.each in
      let attained = listed_attains 0 f.shape.sizes (value_of f) (positive f.shape.sizes each) [] in
      ⊎_elim (λ (none : k < 0). absurd (omega arith)) (λ (a : Attains f.shape.sizes (value_of f) z). subst (λ y. unsigned_abs y ≤ 10 ^ 18) a.value (small a.point a.within)) (attained.nodes k v z lk lv e)

  -- the nodes of a function of the scope that is small enough
  pub function_so : (f : Func) → f.shape ≡ s.env.scope → Everywhere f (λ v. unsigned_abs v ≤ 10 ^ 18) → AreNodesSo name_of names word_of said_of s scope 0 (node_list f)
  function_so f shape small = nodes_so 0 (node_list f) (λ k l. subst (λ j. IsNodeSo name_of names word_of said_of s scope j (node_at (node_list f) k)) (let e : k ≡ 0 + k = omega arith in e) (node_so k l))
    where
      node_so : (k : ℕ) → k < length (node_list f) → IsNodeSo name_of names word_of said_of s scope k (node_at (node_list f) k)
      node_so k l =
          let made = (func_made f).ordered in
          let same : f.shape.sizes ≡ s.env.scope.sizes = ap (λ t. t.sizes) shape in
          let slot : ℕ = (node_at (node_list f) k).slot in
          let within : (node_at (node_list f) k).slot < length s.env.scope.sizes = subst (λ ws. (node_at (node_list f) k).slot < length ws) same (made.slots k l) in
          let count : length (node_at (node_list f) k).parts ≡ get_or s.env.scope.sizes (node_at (node_list f) k).slot 0 = made.counts k l ∙ ap (λ ws. get_or ws (node_at (node_list f) k).slot 0) same in
          let some = some_size s.env.scope.sizes (node_at (node_list f) k).slot scope.each within in
          record {
            said = slots (node_at (node_list f) k).slot within;
            count = sizes (node_at (node_list f) k).slot within ∙ sym count;
            some = omega arith;
            parts = parts_so k (node_at (node_list f) k).parts (λ v m. part_so k (part_at (node_list f) k v) (made.below k l v) (λ z e. leaf_small f shape small k v z l m e));
          }
