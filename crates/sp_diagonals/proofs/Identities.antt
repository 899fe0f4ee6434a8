-- Variables that keep their values: weighed out, and multiplied by their tables and summed out.
use Rattle.std.proofs.Common.{◌≡◌, ◌≢◌, ◌⊎◌, ⊎_elim, ℕ, zero, suc, ◌+◌, ◌-◌, ◌*◌, ◌<◌, ◌≤◌, List, length, get_or, set, ℤ, pos, ◌+ℤ◌, ◌*ℤ◌, Bool, true, false, cond, nat_eq, sym, ◌∙◌, ap, ap₂, refl, subst, arith}
use Rattle.std.proofs.lemmas.Bool.{cases_lt, false≢true}
use Rattle.std.proofs.lemmas.Bool.Decides.{Decides-eqb}
use Rattle.std.proofs.lemmas.Int.{ints}
use Rattle.std.proofs.Math.Seq.{get_or-set_other, get_or-set_same}
use Rattle.std.proofs.Math.IntN.{zero-*ℤ}
use Rattle.sp_dd.specs.Floors.{sum_to, floor_div, ticks}
use Rattle.sp_dd.specs.Points.{IsPoint}
use Rattle.sp_dd.specs.Func.{Shape, Func, IsScope, value_of, function_of, size_of}
use Rattle.sp_dd.specs.Operations.{IsPrimedSlot, IsRow, weighed_out, on_diagonal, summed_out, product_floor}
use Rattle.sp_dd.proofs.FuncLemmas.{same_function, scope_some, value_of-function_of}
use Rattle.sp_dd.proofs.IndependenceLemmas.{point-below}
use Rattle.sp_dd.proofs.Diagramming.{length-within}
use Rattle.sp_dd.proofs.FloorLemmas.{floor-low, floor-high}
use Rattle.sp_ddops.specs.Diagonals.{IsIdentity}
use Rattle.sp_ddops.proofs.CofactorLemmas.{within-set}
use Rattle.sp_ddops.proofs.IdentityLemmas.{weighed_out_identity}
use Rattle.sp_diagonals.specs.declared.diagonals.Side.TheVariants.{State, Next}
use Rattle.sp_diagonals.specs.Diagonals.{offset, read_slot, filled_slot, filled, on_diagonals}
use Rattle.sp_diagonals.proofs.Points.{filled_one, filled_last}
use Rattle.sp_diagonals.proofs.Rows.{identity_value}

-- ---- weighed out
-- one variable more, before the others
pub weighed_on_diagonals : (f table : Func) (v n : ℕ) → IsScope f.shape → v < f.shape.variables → f.shape ≡ table.shape → IsRow table (2 * v + 1) → IsIdentity table (2 * v + 1)
    → on_diagonals State v (suc n) f ≡ weighed_out (on_diagonals State (suc v) n f) (2 * v + 1) table
unfolding filled
weighed_on_diagonals f table v n c l e row is =
    weighed_out_identity (on_diagonals State (suc v) n f) (on_diagonals State v (suc n) f) (2 * v + 1) table c e row is
    (same_function f.shape _ _ (scope_some f.shape c) (λ x w.
    (let there : 2 * v + 0 ≡ 2 * v + 1 - 1 = omega arith in
    ap (λ k. value_of f (filled State (suc v) n (set x (2 * v + 1) (get_or x k 0)))) there
    ∙ sym (value_of-function_of f.shape (λ y. value_of f (filled State (suc v) n y)) (set x (2 * v + 1) (get_or x (2 * v + 1 - 1) 0)) (scope_some f.shape c)
    (subst (λ k. IsPoint f.shape.sizes (set x (2 * v + 1) (get_or x k 0))) there (filled_one State f.shape v x c l w))))))

-- ---- multiplied and summed out
sum_of_zeros : (n : ℕ) (g : ℕ → ℤ) → ((y : ℕ) → y < n → g y ≡ pos 0) → sum_to n g ≡ pos 0
sum_of_zeros zero g h = refl
sum_of_zeros (suc n) g h = omega (arith, ints, sum_of_zeros n g (λ y l. h y (omega (arith, l))), h n (omega arith))

-- a sum of one term
sum_of_one : (n : ℕ) (g : ℕ → ℤ) (k : ℕ) → k < n → ((y : ℕ) → y < n → y ≢ k → g y ≡ pos 0) → sum_to n g ≡ g k
sum_of_one zero g k l h = absurd (omega arith)
sum_of_one (suc n) g k l h =
    ⊎_elim
    (λ (a : k < n). omega (arith, ints, sum_of_one n g k a (λ y b. h y (omega (arith, b))), h n (omega arith) (λ q. absurd (omega (arith, q, a)))))
    (λ (a : n ≤ k).
    (let is : n ≡ k = omega (arith, a, l) in
    let none : sum_to n g ≡ pos 0 = sum_of_zeros n g (λ y b. h y (omega (arith, b)) (λ q. absurd (omega (arith, q, b, is)))) in
    let same : g n ≡ g k = ap g is in
    omega (arith, ints, none, same)))
    (cases_lt k n)

floor_whole : (z : ℤ) → floor_div (pos ticks *ℤ z) ticks ≡ z
floor_whole z = omega (arith, ints, floor-low (pos ticks *ℤ z) ticks (omega arith), floor-high (pos ticks *ℤ z) ticks (omega arith))

floor_none : (z : ℤ) → floor_div (pos 0 *ℤ z) ticks ≡ pos 0
floor_none z = ap (λ y. floor_div y ticks) (zero-*ℤ z) ∙ omega (arith, ints, floor-low (pos 0) ticks (omega arith), floor-high (pos 0) ticks (omega arith))

product_by : (b : Bool) (z : ℤ) → b ≡ true → floor_div (cond b (pos ticks) (pos 0) *ℤ z) ticks ≡ z
product_by true z e = floor_whole z
product_by false z e = absurd (false≢true e)

product_none : (b : Bool) (z : ℤ) → b ≢ true → floor_div (cond b (pos ticks) (pos 0) *ℤ z) ticks ≡ pos 0
product_none true z e = absurd (e refl)
product_none false z e = floor_none z

-- one variable more, behind the others
pub product_on_diagonals : (f table : Func) (v n w : ℕ) → w ≡ v + n → IsScope f.shape → w < f.shape.variables → f.shape ≡ table.shape → IsRow table (2 * w + 1) → IsIdentity table (2 * w + 1)
    → summed_out (product_floor table (on_diagonals Next v n f)) (2 * w) ≡ on_diagonals Next v (suc n) f
product_on_diagonals f table v n w is c l e row identity =
    ap (λ (s : Shape). function_of s (λ x. sum_to (size_of s (2 * w)) (λ y. value_of (product_floor table (on_diagonals Next v n f)) (set x (2 * w) y)))) (sym e)
    ∙ same_function f.shape _ _ (scope_some f.shape c) (λ x at.
    (let y0 : ℕ = get_or x (2 * w + 1) 0 in
    let in_range : 2 * w + 1 < length f.shape.sizes = omega (arith, c.paired, l) in
    let size : size_of f.shape (2 * w) ≡ size_of f.shape (2 * w + 1) = c.equal w l in
    let fits : 2 * w + 1 < length x = omega (arith, length-within f.shape.sizes x at, in_range) in
    let here : (y : ℕ) → y < size_of f.shape (2 * w) → IsPoint f.shape.sizes (set x (2 * w) y) = λ y few. within-set f.shape.sizes x (2 * w) y at few in
    let term : (y : ℕ) → y < size_of f.shape (2 * w) → value_of (product_floor table (on_diagonals Next v n f)) (set x (2 * w) y) ≡ floor_div (cond (nat_eq y0 y) (pos ticks) (pos 0) *ℤ value_of (on_diagonals Next v n f) (set x (2 * w) y)) ticks =
    λ y few. product_at (set x (2 * w) y) (here y few)
    ∙ ap₂ (λ a b. floor_div (cond (nat_eq a b) (pos ticks) (pos 0) *ℤ value_of (on_diagonals Next v n f) (set x (2 * w) y)) ticks) (get_or-set_other x (2 * w) (2 * w + 1) y 0 (λ q. absurd (omega (arith, q))))
    (ap (λ k. get_or (set x (2 * w) y) k 0) (let q : 2 * w + 1 - 1 ≡ 2 * w = omega arith in q) ∙ get_or-set_same x (2 * w) y 0 (omega (arith, fits))) in
    let few0 : y0 < size_of f.shape (2 * w) = omega (arith, point-below f.shape.sizes x (2 * w + 1) at in_range, size) in
    sum_of_one (size_of f.shape (2 * w)) (λ y. value_of (product_floor table (on_diagonals Next v n f)) (set x (2 * w) y)) y0 few0
    (λ y few apart. term y few ∙ product_none (nat_eq y0 y) _ (λ q. apart (sym ((Decides-eqb y0 y).0 q))))
    ∙ term y0 few0 ∙ product_by (nat_eq y0 y0) _ ((Decides-eqb y0 y0).1 refl)
    ∙ value_of-function_of f.shape (λ z. value_of f (filled Next v n z)) (set x (2 * w) y0) (scope_some f.shape c) (here y0 few0)
    ∙ ap (value_of f) ((λ h. filled Next v n (set x (slot h) (get_or x (2 * w + 1) 0))) ∙ filled_last Next v n w x is)))
  where
    slot : 2 * w ≡ 2 * w + (1 - 1)
    slot = omega arith

    product_at : (z : List ℕ) → IsPoint f.shape.sizes z → value_of (product_floor table (on_diagonals Next v n f)) z ≡ floor_div (cond (nat_eq (get_or z (2 * w + 1) 0) (get_or z (2 * w + 1 - 1) 0)) (pos ticks) (pos 0) *ℤ value_of (on_diagonals Next v n f) z) ticks
    product_at z at =
        let there : IsPoint table.shape.sizes z = subst (λ (s : Shape). IsPoint s.sizes z) e at in
        let scope : IsScope table.shape = subst IsScope e c in
        value_of-function_of table.shape (λ x. floor_div (value_of table x *ℤ value_of (on_diagonals Next v n f) x) ticks) z (scope_some table.shape scope) there
        ∙ ap (λ (k : ℤ). floor_div (k *ℤ value_of (on_diagonals Next v n f) z) ticks) (identity_value table (2 * w + 1) scope row identity z there)
