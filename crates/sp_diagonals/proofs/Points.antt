-- Points where variables have one value in both their slots.
use Rattle.std.proofs.Common.{◌≡◌, ◌≢◌, ◌⊎◌, ⊎_elim, ℕ, zero, suc, ◌+◌, ◌-◌, ◌*◌, ◌/◌, ◌%◌, ◌<◌, ◌≤◌, List, length, get_or, set, sym, ◌∙◌, ap, refl, subst, arith}
use Rattle.std.proofs.lemmas.Bool.{cases_eq}
use Rattle.std.proofs.lemmas.List.{length-set, set_comm}
use Rattle.std.proofs.Math.Seq.{get_or-set_other, get_or-set_same}
use Rattle.sp_dd.specs.NodeLists.{Node}
use Rattle.sp_dd.specs.Ordered.{at}
use Rattle.sp_dd.specs.Points.{IsPoint}
use Rattle.sp_dd.specs.Func.{Shape, Func, IsScope, IsFunc, IsIndependentOf, value_of, function_of, size_of}
use Rattle.sp_dd.specs.Diagrams.{node_list, root_part}
use Rattle.sp_dd.proofs.Diagramming.{func_made, length-within}
use Rattle.sp_dd.proofs.FuncLemmas.{same_function, scope_some}
use Rattle.sp_dd.proofs.IndependenceLemmas.{point-below}
use Rattle.sp_dd.proofs.Listed.{IsMade}
use Rattle.sp_ddops.proofs.CofactorLemmas.{within-set, value_from}
use Rattle.sp_diagonals.specs.declared.diagonals.Side.{Side}
use Rattle.sp_diagonals.specs.declared.diagonals.Side.TheVariants.{State, Next}
use Rattle.sp_diagonals.specs.Diagonals.{offset, read_slot, filled_slot, filled, on_diagonals}
use Rattle.sp_diagonals.specs.Walks.{slot_read, joined_part, IsRange, IsJoinedPart}
use Rattle.sp_diagonals.proofs.Slots.{IsSlotRead, slot_is_read, by_range}

pub offset_small : (side : Side) → offset side ≤ 1
offset_small State = omega arith
offset_small Next = omega arith

-- what is read for a slot, by the variable
read_same : (o low more high t u w : ℕ) → o ≤ 1 → more ≡ low + 2 → low % 2 ≡ 0 → more ≤ high → high % 2 ≡ 0 → IsSlotRead o more high t u → IsSlotRead o low high t w → u ≢ low + (1 - o) → w ≡ u
read_same o low more high t u w small is even fits high_even a b apart =
    by_range (w ≡ u) more high t
    (λ (l : t < more). by_range (w ≡ u) low high t
    (λ m. omega (arith, a.before l, b.before m))
    (λ k m. omega (arith, a.before l, b.inside k m, apart, is, even, small))
    (λ m. omega (arith, a.before l, b.behind m)))
    (λ k l. omega (arith, a.inside k l, b.inside (omega (arith, k, is)) l))
    (λ l. omega (arith, a.behind l, b.behind l))

read_other : (o low more high t u w : ℕ) → o ≤ 1 → more ≡ low + 2 → low % 2 ≡ 0 → more ≤ high → high % 2 ≡ 0 → IsSlotRead o more high t u → IsSlotRead o low high t w → u ≡ low + (1 - o) → w ≡ low + o
read_other o low more high t u w small is even fits high_even a b e =
    by_range (w ≡ low + o) more high t
    (λ (l : t < more). omega (arith, a.before l, b.inside (omega (arith, a.before l, e)) (omega (arith, l, fits)), e, is, even, small))
    (λ k l. absurd (omega (arith, a.inside k l, e, k, is, even, small)))
    (λ l. absurd (omega (arith, a.behind l, e, l, is, fits, small)))

empty_read : (o low high t u : ℕ) → high ≡ low → IsSlotRead o low high t u → u ≡ t
empty_read o low high t u e a = by_range (u ≡ t) low high t (λ l. a.before l) (λ k l. absurd (omega (arith, k, l, e))) (λ l. a.behind l)

pub filled_at : (side : Side) (v n : ℕ) (x : List ℕ) (t high : ℕ) → high ≡ 2 * (v + n) → high ≤ length x → get_or (filled side v n x) t 0 ≡ get_or x (slot_read (offset side) (2 * v) high t) 0
unfolding filled
filled_at side v zero x t high e l = ap (λ s. get_or x s 0) (sym (empty_read (offset side) (2 * v) high t _ (omega (arith, e)) (slot_is_read (offset side) (2 * v) high t)))
filled_at side v (suc n) x t high e l =
    let o : ℕ = offset side in
    let small : o ≤ 1 = offset_small side in
    let y : List ℕ = set x (filled_slot side v) (get_or x (read_slot side v) 0) in
    let more : ℕ = 2 * suc v in
    let u : ℕ = slot_read o more high t in
    let w : ℕ = slot_read o (2 * v) high t in
    let a : IsSlotRead o more high t u = slot_is_read o more high t in
    let b : IsSlotRead o (2 * v) high t w = slot_is_read o (2 * v) high t in
    filled_at side (suc v) n y t high (omega (arith, e)) (omega (arith, l, length-set x (filled_slot side v) (get_or x (read_slot side v) 0)))
    ∙ ⊎_elim
    (λ (q : u ≡ 2 * v + (1 - o)).
    ap (λ s. get_or y s 0) q ∙ get_or-set_same x (filled_slot side v) (get_or x (read_slot side v) 0) 0 (omega (arith, e, l, small))
    ∙ ap (λ s. get_or x s 0) (sym (read_other o (2 * v) more high t u w small (omega arith) (omega arith) (omega (arith, e)) (omega (arith, e)) a b q)))
    (λ (q : u ≡ 2 * v + (1 - o) → ⊥).
    get_or-set_other x (filled_slot side v) u (get_or x (read_slot side v) 0) 0 q
    ∙ ap (λ s. get_or x s 0) (sym (read_same o (2 * v) more high t u w small (omega arith) (omega arith) (omega (arith, e)) (omega (arith, e)) a b q)))
    (cases_eq u (2 * v + (1 - o)))

-- both slots of a variable have the same size
sizes_alike : (side : Side) (s : Shape) (v : ℕ) → IsScope s → v < s.variables → get_or s.sizes (filled_slot side v) 0 ≡ get_or s.sizes (read_slot side v) 0
sizes_alike State s v c l = sym (c.equal v l) ∙ ap (λ (k : ℕ). get_or s.sizes k 0) (let q : 2 * v ≡ 2 * v + 0 = omega arith in q)
sizes_alike Next s v c l = ap (λ (k : ℕ). get_or s.sizes k 0) (let q : 2 * v + (1 - 1) ≡ 2 * v = omega arith in q) ∙ c.equal v l

-- one slot filled
pub filled_one : (side : Side) (s : Shape) (v : ℕ) (x : List ℕ) → IsScope s → v < s.variables → IsPoint s.sizes x → IsPoint s.sizes (set x (filled_slot side v) (get_or x (read_slot side v) 0))
filled_one side s v x c l w =
    let there : read_slot side v < length s.sizes = omega (arith, c.paired, l, offset_small side) in
    within-set s.sizes x (filled_slot side v) (get_or x (read_slot side v) 0) w (omega (arith, point-below s.sizes x (read_slot side v) w there, sizes_alike side s v c l))

pub filled_point : (side : Side) (s : Shape) (v n : ℕ) (x : List ℕ) → IsScope s → v + n ≤ s.variables → IsPoint s.sizes x → IsPoint s.sizes (filled side v n x)
unfolding filled
filled_point side s v zero x c l w = w
filled_point side s v (suc n) x c l w = filled_point side s (suc v) n _ c (omega (arith, l)) (filled_one side s v x c (omega (arith, l)) w)

-- one more, at the end
pub filled_last : (side : Side) (v n w : ℕ) (x : List ℕ) → w ≡ v + n → filled side v n (set x (filled_slot side w) (get_or x (read_slot side w) 0)) ≡ filled side v (suc n) x
unfolding filled
filled_last side v zero w x e = ap (λ k. set x (filled_slot side k) (get_or x (read_slot side k) 0)) (let q : w ≡ v = omega (arith, e) in q)
filled_last side v (suc n) w x e =
    let small = offset_small side in
    let z : ℕ = get_or x (read_slot side w) 0 in
    let y : List ℕ = set x (filled_slot side v) (get_or x (read_slot side v) 0) in
    let one : get_or (set x (filled_slot side w) z) (read_slot side v) 0 ≡ get_or x (read_slot side v) 0 = get_or-set_other x (filled_slot side w) (read_slot side v) z 0 (λ q. absurd (omega (arith, q, e, small))) in
    let two : get_or y (read_slot side w) 0 ≡ z = get_or-set_other x (filled_slot side v) (read_slot side w) (get_or x (read_slot side v) 0) 0 (λ q. absurd (omega (arith, q, e, small))) in
    ap (λ k. filled side (suc v) n (set (set x (filled_slot side w) z) (filled_slot side v) k)) one
    ∙ ap (filled side (suc v) n) (set_comm x (filled_slot side w) (filled_slot side v) z (get_or x (read_slot side v) 0) (λ q. absurd (omega (arith, q, e, small))))
    ∙ ap (λ k. filled side (suc v) n (set y (filled_slot side w) k)) (sym two)
    ∙ filled_last side (suc v) n w y (omega (arith, e))

-- ---- the call on a function
pub range_is : (side : Side) (s : Shape) (o low high from to : ℕ) → IsScope s → o ≡ offset side → low ≡ 2 * from → high ≡ 2 * to → to ≤ s.variables → IsRange s.sizes o low high
range_is side s o low high from to c e l h within = record {
  small = omega (arith, e, offset_small side);
  low_even = omega (arith, l);
  high_even = omega (arith, h);
  within = omega (arith, h, within, c.paired);
  same = λ t i j even.
      (let v : ℕ = t / 2 in
      let is : t ≡ 2 * v = omega (arith, even) in
      ap (λ (k : ℕ). get_or s.sizes k 0) (let q : t + 1 ≡ 2 * v + 1 = omega (arith, is) in q) ∙ sym (c.equal v (omega (arith, is, j, h, within))) ∙ ap (λ (k : ℕ). get_or s.sizes k 0) (sym is));
}

pub joined_root : (f : Func) (o low high : ℕ) → IsRange f.shape.sizes o low high → IsJoinedPart f.shape.sizes o low high (node_list f) (root_part f)
joined_root f o low high range =
    let m : IsMade f.shape.sizes (value_of f) (node_list f, root_part f) = func_made f in
    record { range = range; ordered = m.ordered; before = m.below }

pub joined_is : (f : Func) (side : Side) (o low high from to : ℕ) → IsScope f.shape → o ≡ offset side → low ≡ 2 * from → high ≡ 2 * to → from ≤ to → to ≤ f.shape.variables
    → function_of f.shape (λ p. joined_part o low high (node_list f) (root_part f) (at p)) ≡ on_diagonals side from (to - from) f
unfolding joined_part
joined_is f side o low high from to c eo el eh order within =
    same_function f.shape _ _ (scope_some f.shape c) (λ p w.
    (let ns : List Node = node_list f in
    let m : IsMade f.shape.sizes (value_of f) (ns, root_part f) = func_made f in
    let fits : high ≤ length p = omega (arith, length-within f.shape.sizes p w, c.paired, within, eh) in
    value_from f.shape.sizes ns m.ordered (root_part f) m.below (length f.shape.sizes) 0 (omega arith) (λ t. at p (slot_read o low high t)) (at (filled side from (to - from) p))
    (λ t k. (λ h. get_or p (slot_read (eo h) (el h) high t) 0) ∙ sym (filled_at side from (to - from) p t high (omega (arith, eh, order)) fits))
    ∙ m.value (filled side from (to - from) p) (filled_point side f.shape from (to - from) p c (omega (arith, order, within)) w)))

-- where nothing depends on the slots that take a value, nothing changes
pub filled_free : (f : Func) (side : Side) (v n : ℕ) → IsScope f.shape → v + n ≤ f.shape.variables → ((k : ℕ) → v ≤ k → k < v + n → IsIndependentOf f (filled_slot side k)) → (x : List ℕ) → IsPoint f.shape.sizes x → value_of f (filled side v n x) ≡ value_of f x
unfolding filled
filled_free f side v zero c l free x w = refl
filled_free f side v (suc n) c l free x w =
    let there : read_slot side v < length f.shape.sizes = omega (arith, c.paired, l, offset_small side) in
    filled_free f side (suc v) n c (omega (arith, l)) (λ k i j. free k (omega (arith, i)) (omega (arith, j))) _ (filled_one side f.shape v x c (omega (arith, l)) w)
    ∙ free v (omega arith) (omega arith) x (get_or x (read_slot side v) 0) w (omega (arith, point-below f.shape.sizes x (read_slot side v) w there, sizes_alike side f.shape v c (omega (arith, l))))

pub free_is : (f : Func) (side : Side) (from to : ℕ) → IsScope f.shape → IsFunc f → from ≤ to → to ≤ f.shape.variables → ((k : ℕ) → from ≤ k → k < to → IsIndependentOf f (filled_slot side k)) → f ≡ on_diagonals side from (to - from) f
free_is f side from to c func order within free =
    func ∙ same_function f.shape _ _ (scope_some f.shape c) (λ x w. sym (filled_free f side from (to - from) c (omega (arith, order, within)) (λ k i j. free k i (omega (arith, j, order))) x w))
