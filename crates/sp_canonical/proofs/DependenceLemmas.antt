-- A function depends on the slots of its nodes, and on these alone.
use Rattle.std.proofs.Common.{◌≡◌, ◌≢◌, ℕ, suc, ◌||◌, Bool, true, false, List, [], ◌∷◌, ◌++◌, get_or, set, get_or-set_other, refl, sym, ap, ◌∙◌, arith}
use Rattle.std.specs.Prelude.{ℤ, pos, nat_eq, MatchBool}
use Rattle.std.proofs.lemmas.Bool.Decides.{nat_tests}
use Rattle.sp_dd.specs.declared.part.Part.TheVariants.{Leaf}
use Rattle.sp_dd.specs.Func.{Func, IsPointOf, DependsOn, IsIndependentOf}
use Rattle.sp_dd.specs.NodeLists.{Node, node_value, part_value, values}
use Rattle.sp_dd.specs.Ordered.{at}
use Rattle.sp_dd.specs.Diagrams.{HasSlot, node_list, root_part}
use Rattle.sp_dd.proofs.Diagramming.{depends_on, func_made}
use Rattle.sp_dd.proofs.FuncLemmas.{IsPoint-with}
use Rattle.sp_canonical.specs.Tables.{is_on}
use Rattle.sp_canonical.specs.Laws.{NodesTellDependence}

has_slot : (ns : List Node) (slot : ℕ) → is_on ns slot ≡ true → HasSlot ns slot
has_slot [] slot h = cc
has_slot (n ∷ ns) slot h = go (nat_eq n.slot slot) refl h (λ e. has_slot ns slot e)
  where
    go : (b : Bool) → nat_eq n.slot slot ≡ b → (b || is_on ns slot) ≡ true → (is_on ns slot ≡ true → HasSlot ns slot) → HasSlot (n ∷ ns) slot
    go true e k more = record { place = 0; within = omega arith; is = grind (arith, nat_tests) }
    go false e k more = let rest = more k in let l = rest.within in record { place = suc rest.place; within = omega arith; is = rest.is }

-- without a node of that slot, another value there changes no value of a node
values_same : (ns : List Node) (slot v : ℕ) (x : List ℕ) (vs : List ℤ) → is_on ns slot ≡ false → values (at (set x slot v)) vs ns ≡ values (at x) vs ns
values_same [] slot v x vs h = refl
values_same (n ∷ ns) slot v x vs h = go (nat_eq n.slot slot) refl h (λ us e. values_same ns slot v x us e)
  where
    go : (b : Bool) → nat_eq n.slot slot ≡ b → (b || is_on ns slot) ≡ false → ((us : List ℤ) → is_on ns slot ≡ false → values (at (set x slot v)) us ns ≡ values (at x) us ns)
        → values (at (set x slot v)) vs (n ∷ ns) ≡ values (at x) vs (n ∷ ns)
    go true e k more = cc
    go false e k more =
        let apart : n.slot ≢ slot = grind (arith, nat_tests) in
        more (vs ++ part_value vs (get_or n.parts (get_or (set x slot v) n.slot 0) (Leaf (pos 0))) ∷ []) k
        ∙ ap (λ u. values (at x) (vs ++ part_value vs (get_or n.parts u (Leaf (pos 0))) ∷ []) ns) (get_or-set_other x slot n.slot v 0 apart)

independent : (f : Func) (slot : ℕ) → is_on (node_list f) slot ≡ false → IsIndependentOf f slot
unfolding node_value
independent f slot h x v within l =
    let moved : IsPointOf f (set x slot v) = IsPoint-with f.shape.sizes x slot v within l in
    sym ((func_made f).value (set x slot v) moved)
    ∙ ap (λ vs. part_value vs (root_part f)) (values_same (node_list f) slot v x [] h)
    ∙ (func_made f).value x within

pub told : NodesTellDependence
told f slot scope = go (is_on (node_list f) slot) refl
  where
    go : (b : Bool) → is_on (node_list f) slot ≡ b → MatchBool b (DependsOn f slot) (IsIndependentOf f slot)
    go true e = depends_on f slot scope (has_slot (node_list f) slot e)
    go false e = independent f slot e
