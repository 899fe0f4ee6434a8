-- What the dd of a function mentions: the slots of its nodes, and no others.
use Rattle.std.proofs.Common.{◌≡◌, ◌≢◌, ℕ, zero, suc, ◌<◌, ◌||◌, Bool, true, false, List, [], ◌∷◌, ◌++◌, length, map, get_or, set, refl, sym, ap, ◌∙◌, subst, arith}
use Rattle.std.specs.Prelude.{ℤ, pos, All, slice_index_or, slice_index, nat_eq}
use Rattle.std.specs.List.{list_any}
use Rattle.std.proofs.lemmas.Bool.{false≢true}
use Rattle.std.proofs.lemmas.Bool.Decides.{nat_tests, Decides-eqb}
use Rattle.std.proofs.lemmas.List.{get_or-set_other}
use Rattle.sp_dd.specs.declared.part.Part.{Part}
use Rattle.sp_dd.specs.declared.part.Part.TheVariants.{Leaf, At}
use Rattle.sp_dd.specs.Points.{IsPoint}
use Rattle.sp_dd.specs.Func.{Shape, Func, IsScope, IsIndependentOf, value_of}
use Rattle.sp_dd.specs.NodeLists.{Node}
use Rattle.sp_dd.specs.Ordered.{node_at}
use Rattle.sp_dd.specs.Diagrams.{node_list, root_part}
use Rattle.sp_dd.specs.Operations.{everywhere}
use Rattle.sp_dd.proofs.FuncLemmas.{scope_some, value_of-function_of, IsPoint-with}
use Rattle.sp_dd.proofs.Diagramming.{depends_on}
use Rattle.sp_trees.specs.declared.slots.Slots.{Slots}
use Rattle.sp_trees.specs.declared.env.Dd.{Dd}
use Rattle.sp_trees.specs.declared.env.Env.{Env}
use Rattle.sp_trees.specs.Slots.{none, one, union, has, is_among}
use Rattle.sp_trees.proofs.MentionLemmas.{none_among}
use Rattle.sp_trees.proofs.SlotLemmas.{has_one, has_union, has_none, has_among}
use Rattle.sp_checks.proofs.RoleLemmas.{where_passes}
use Rattle.sp_checks.specs.Roles.{slots_where}
use Rattle.sp_written.specs.Acceptance.{mentions_of, funcs_of, branched_dd}
use Rattle.sp_written.specs.Meanings.{constant_dd, part_dd, node_dd, dds_of}
use Rattle.sp_written.proofs.Places.{where_has}
use Rattle.sp_written.proofs.Trees.{all_push, all_or, nodes_among}

or_right : (a b : Bool) → b ≡ true → (a || b) ≡ true
or_right true b h = refl
or_right false b h = h

or_false : (a b : Bool) → (a || b) ≡ false → (a ≡ false) × (b ≡ false)
or_false true b h = absurd (false≢true (sym h))
or_false false b h = (refl, h)

module _ (env : Env) (scope : IsScope env.scope) where
  -- a slot that isn't mentioned changes nothing
  abbrev IsFree : Dd → Type 0
  IsFree d = (slot : ℕ) → slot < length env.scope.sizes → has d.mentions slot ≡ false → (x : List ℕ) (v : ℕ) → IsPoint env.scope.sizes x → v < get_or env.scope.sizes slot 0 → value_of d.func (set x slot v) ≡ value_of d.func x

  constant_free : (z : ℤ) → IsFree (constant_dd env z)
  constant_free z slot l h x v p b = value_of-function_of env.scope (λ y. z) (set x slot v) (scope_some env.scope scope) (IsPoint-with env.scope.sizes x slot v p b) ∙ sym (value_of-function_of env.scope (λ y. z) x (scope_some env.scope scope) p)

  fold_first : (more : Slots) (ds : List Dd) (slot : ℕ) → has (mentions_of more ds) slot ≡ false → has more slot ≡ false
  fold_first more [] slot h = h
  fold_first more (d ∷ ds) slot h = (or_false (has more slot) (has d.mentions slot) (sym (has_union more d.mentions slot) ∙ fold_first (union more d.mentions) ds slot h)).0

  fold_each : (more : Slots) (ds : List Dd) (slot k : ℕ) (e : Dd) → has (mentions_of more ds) slot ≡ false → k < length ds → has (get_or ds k e).mentions slot ≡ false
  fold_each more [] slot k e h l = absurd (omega arith)
  fold_each more (d ∷ ds) slot zero e h l = (or_false (has more slot) (has d.mentions slot) (sym (has_union more d.mentions slot) ∙ fold_first (union more d.mentions) ds slot h)).1
  fold_each more (d ∷ ds) slot (suc k) e h l = fold_each (union more d.mentions) ds slot k e h (omega arith)

  -- a branching over free parts
  branched_free : (slot : ℕ) (ds : List Dd) → All IsFree ds → IsFree (branched_dd env slot ds)
  branched_free own ds free slot l h x v p b =
      value_of-function_of env.scope chosen (set x slot v) (scope_some env.scope scope) (IsPoint-with env.scope.sizes x slot v p b) ∙ ap (λ k. value_of (get_or (funcs_of ds) k (everywhere env.scope (pos 0))) (set x slot v)) same
      ∙ part (get_or x own 0) ∙ sym (value_of-function_of env.scope chosen x (scope_some env.scope scope) p)
    where
      chosen : List ℕ → ℤ
      chosen y = value_of (slice_index_or (funcs_of ds) (slice_index y own) (everywhere env.scope (pos 0))) y

      apart : own ≢ slot
      apart e = absurd (false≢true (sym (fold_first (one own) ds slot h) ∙ has_one own slot ∙ (Decides-eqb own slot).1 e))

      same : get_or (set x slot v) own 0 ≡ get_or x own 0
      same = get_or-set_other x slot own v 0 apart

      each : (k : ℕ) (es : List Dd) (more : Slots) → All IsFree es → has (mentions_of more es) slot ≡ false → value_of (get_or (funcs_of es) k (everywhere env.scope (pos 0))) (set x slot v) ≡ value_of (get_or (funcs_of es) k (everywhere env.scope (pos 0))) x
      each k [] more f g = constant_free (pos 0) slot l (has_none slot) x v p b
      each zero (d ∷ es) more f g = f 0 d (omega arith) slot l (fold_each more (d ∷ es) slot 0 d g (omega arith)) x v p b
      each (suc k) (d ∷ es) more f g = each k es (union more d.mentions) (λ i e q. f (suc i) e (omega arith)) g

      part : (k : ℕ) → value_of (get_or (funcs_of ds) k (everywhere env.scope (pos 0))) (set x slot v) ≡ value_of (get_or (funcs_of ds) k (everywhere env.scope (pos 0))) x
      part k = each k ds (one own) free h

  part_free : (made : List Dd) (a : Part) → All IsFree made → IsFree (part_dd env made a)
  part_free made (Leaf z) h = constant_free z
  part_free made (At i) h = all_or IsFree made i (constant_dd env (pos 0)) h (constant_free (pos 0))

  parts_free : (made : List Dd) (ps : List Part) → All IsFree made → All IsFree (map (part_dd env made) ps)
  parts_free made [] h k d l = absurd (omega arith)
  parts_free made (a ∷ ps) h zero d l = part_free made a h
  parts_free made (a ∷ ps) h (suc k) d l = parts_free made ps h k d (omega arith)

  all_free : (made : List Dd) (ns : List Node) → All IsFree made → All IsFree (dds_of env made ns)
  all_free made [] h = h
  all_free made (k ∷ ns) h = all_free (made ++ node_dd env made k ∷ []) ns (all_push IsFree made (node_dd env made k) h (branched_free k.slot (map (part_dd env made) k.parts) (parts_free made k.parts h)))

  -- ---- the dd of a function
  module _ (f : Func) (shape : f.shape ≡ env.scope) (slot : ℕ) (l : slot < length env.scope.sizes) (means : (part_dd env (dds_of env [] (node_list f)) (root_part f)).func ≡ f) where
    abbrev dd_is : Dd
    dd_is = part_dd env (dds_of env [] (node_list f)) (root_part f)

    free_of : has dd_is.mentions slot ≡ false → IsIndependentOf f slot
    free_of h x v p b =
        let q : IsPoint env.scope.sizes x = subst (λ (s : Shape). IsPoint s.sizes x) shape p in
        let c : v < get_or env.scope.sizes slot 0 = subst (λ (s : Shape). v < get_or s.sizes slot 0) shape b in
        let free = part_free (dds_of env [] (node_list f)) (root_part f) (all_free [] (node_list f) (λ k d m. absurd (omega arith))) in
        ap (λ g. value_of g (set x slot v)) (sym means) ∙ free slot l h x v q c ∙ ap (λ g. value_of g x) means

    -- the slot of a node is mentioned
    pub has_slot : (k : ℕ) → k < length (node_list f) → (node_at (node_list f) k).slot ≡ slot → has dd_is.mentions slot ≡ true
    has_slot k m e = go (has dd_is.mentions slot) refl
      where
        go : (b : Bool) → has dd_is.mentions slot ≡ b → has dd_is.mentions slot ≡ true
        go true h = h
        go false h =
            let d = depends_on f slot (subst IsScope (sym shape) scope) (record { place = k; within = m; is = e }) in
            absurd (d.apart (free_of h d.point d.other d.inside d.within))

  -- no slot is mentioned but those of nodes
  pub lacks_slot : (ns : List Node) (a : Part) (slot : ℕ) → ((k : ℕ) → k < length ns → (node_at ns k).slot < length env.scope.sizes) → list_any (λ (n : Node). nat_eq n.slot slot) ns ≡ false → has (part_dd env (dds_of env [] ns) a).mentions slot ≡ false
  lacks_slot ns a slot within none = go (has (part_dd env (dds_of env [] ns) a).mentions slot) refl
    where
      other : ℕ → Bool
      other s = list_any (λ (n : Node). nat_eq n.slot s) ns

      some_node : (P : Node → Bool) (ms : List Node) (k : ℕ) → k < length ms → P (node_at ms k) ≡ true → list_any P ms ≡ true
      some_node P [] k m e = absurd (omega arith)
      some_node P (x ∷ ms) zero m e = ap (λ b. b || list_any P ms) e
      some_node P (x ∷ ms) (suc k) m e = or_right (P x) (list_any P ms) (some_node P ms k (omega arith) e)

      eq_self : (s : ℕ) → nat_eq s s ≡ true
      eq_self s = grind (arith, nat_tests)

      all_at : (P : Node → Type 0) (ms : List Node) → ((k : ℕ) → k < length ms → P (node_at ms k)) → All P ms
      all_at P [] h k d m = absurd (omega arith)
      all_at P (x ∷ ms) h zero d m = h 0 (omega arith)
      all_at P (x ∷ ms) h (suc k) d m = all_at P ms (λ j q. h (suc j) (omega arith)) k d (omega arith)

      all_among : All (λ (d : Dd). is_among d.mentions (slots_where other (length env.scope.sizes)) ≡ true) (dds_of env [] ns)
      all_among = nodes_among env scope (slots_where other (length env.scope.sizes)) [] ns (λ k d m. absurd (omega arith))
          (all_at (λ (n : Node). has (slots_where other (length env.scope.sizes)) n.slot ≡ true) ns
          (λ k m. where_has other (length env.scope.sizes) (node_at ns k).slot (within k m) (some_node (λ (n : Node). nat_eq n.slot (node_at ns k).slot) ns k m (eq_self (node_at ns k).slot))))

      part_among : is_among (part_dd env (dds_of env [] ns) a).mentions (slots_where other (length env.scope.sizes)) ≡ true
      part_among = of_part a
        where
          of_part : (b : Part) → is_among (part_dd env (dds_of env [] ns) b).mentions (slots_where other (length env.scope.sizes)) ≡ true
          of_part (Leaf z) = none_among (slots_where other (length env.scope.sizes))
          of_part (At i) = all_or (λ (d : Dd). is_among d.mentions (slots_where other (length env.scope.sizes)) ≡ true) (dds_of env [] ns) i (constant_dd env (pos 0)) all_among (none_among (slots_where other (length env.scope.sizes)))

      go : (b : Bool) → has (part_dd env (dds_of env [] ns) a).mentions slot ≡ b → has (part_dd env (dds_of env [] ns) a).mentions slot ≡ false
      go false h = h
      go true h = absurd (false≢true (sym none ∙ where_passes other (length env.scope.sizes) slot (has_among (part_dd env (dds_of env [] ns) a).mentions (slots_where other (length env.scope.sizes)) slot part_among h)))
