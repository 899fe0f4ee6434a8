-- Tables of variables that keep their value.
use Rattle.std.proofs.Common.{◌≡◌, ◌≢◌, ℕ, zero, suc, ◌+◌, ◌*◌, ◌<◌, ◌≤◌, ◌==◌, Bool, true, false, List, [], ◌∷◌, ◌++◌, refl, sym, ◌∙◌, ap, subst, arith, add-one, get_or, length, map}
use Rattle.std.specs.Prelude.{ℤ, pos, if◌then◌else◌, slice_index, slice_index_or, All}
use Rattle.std.specs.List.{range_with_len}
use Rattle.std.proofs.lemmas.List.FromFn.{get_or-map-range_with_len, length-map-range_with_len, map-range_with_len_more}
use Rattle.sp_dd.specs.Floors.{ticks}
use Rattle.sp_dd.specs.Points.{IsPoint}
use Rattle.sp_dd.specs.Func.{Shape, Func, IsScope, value_of, function_of, size_of}
use Rattle.sp_dd.specs.Operations.{part_chosen, leaf_chosen, everywhere}
use Rattle.sp_dd.proofs.FuncLemmas.{scope_some, value_of-function_of, same_function}
use Rattle.sp_rows.specs.Tables.{identity, leaf_at, leaves_at, table_to}

-- one more of a list by number
pub one_more : {X : Type 0} (f : ℕ → X) (xs ys : List X) (n : ℕ) (x : X) → xs ≡ map f (range_with_len 0 n) → x ≡ f n → ys ≡ xs ++ x ∷ [] → ys ≡ map f (range_with_len 0 (n + 1))
one_more f xs ys n x e g h = h ∙ cc (e, g, map-range_with_len_more f 0 n n (omega arith))

-- a coordinate of a point is below its slot's size
pub coordinate : (ws xs : List ℕ) (k : ℕ) → IsPoint ws xs → k < length ws → get_or xs k 0 < get_or ws k 0
coordinate [] xs k p h = absurd (omega arith)
coordinate (w ∷ ws) [] k p h = absurd p
coordinate (w ∷ ws) (x ∷ xs) zero p h = p.0
coordinate (w ∷ ws) (x ∷ xs) (suc k) p h = coordinate ws xs k p.1 (omega arith)

-- the slots of a state variable
pub record HasPair (s : Shape) (i : ℕ) : Type 0 where
  pub unprimed : 2 * i < length s.sizes
  pub primed : 2 * i + 1 < length s.sizes
  pub same : size_of s (2 * i) ≡ size_of s (2 * i + 1)

pub has_pair : (s : Shape) (i : ℕ) → IsScope s → i < s.variables → HasPair s i
has_pair s i scope h = let paired = scope.paired in record { unprimed = omega arith; primed = omega arith; same = scope.equal i h }

module _ (s : Shape) (i : ℕ) (scope : IsScope s) (h : i < s.variables) where
  pub tables_count : (ts : List Func) → ts ≡ map (table_to s (2 * i + 1)) (range_with_len 0 (size_of s (2 * i + 1))) → length ts ≡ size_of s (2 * i)
  tables_count ts e = ap length e ∙ length-map-range_with_len _ 0 (size_of s (2 * i + 1)) ∙ sym (has_pair s i scope h).same

  pub tables_shapes : (ts : List Func) → ts ≡ map (table_to s (2 * i + 1)) (range_with_len 0 (size_of s (2 * i + 1))) → All (λ t. t.shape ≡ s) ts
  tables_shapes ts e k d l =
      let below : k < size_of s (2 * i + 1) = let n = tables_count ts e in let m = (has_pair s i scope h).same in omega arith in
      ap (λ (f : Func). f.shape) (ap (λ xs. get_or xs k d) e ∙ get_or-map-range_with_len (table_to s (2 * i + 1)) 0 (size_of s (2 * i + 1)) k k d below (omega arith))

  here : (x : List ℕ) → IsPoint s.sizes x
      → value_of (get_or (map (table_to s (2 * i + 1)) (range_with_len 0 (size_of s (2 * i + 1)))) (get_or x (2 * i) 0) (everywhere s (pos 0))) x ≡ (if get_or x (2 * i) 0 == get_or x (2 * i + 1) 0 then pos ticks else pos 0)
  here x p =
      let pair = has_pair s i scope h in
      let n = size_of s (2 * i + 1) in
      let v = get_or x (2 * i) 0 in
      let low : v < n = (let c = coordinate s.sizes x (2 * i) p pair.unprimed in let e = pair.same in omega arith) in
      let next : get_or x (2 * i + 1) 0 < n = coordinate s.sizes x (2 * i + 1) p pair.primed in
      ap (λ (f : Func). value_of f x) (get_or-map-range_with_len (table_to s (2 * i + 1)) 0 n v v (everywhere s (pos 0)) low (omega arith))
      ∙ value_of-function_of s (λ y. slice_index_or (leaves_at n v) (slice_index y (2 * i + 1)) (pos 0)) x (scope_some s scope) p
      ∙ get_or-map-range_with_len (leaf_at v) 0 n (get_or x (2 * i + 1) 0) (get_or x (2 * i + 1) 0) (pos 0) next (omega arith)

  pub identity_is : (ts : List Func) (f : Func) → ts ≡ map (table_to s (2 * i + 1)) (range_with_len 0 (size_of s (2 * i + 1))) → f ≡ part_chosen s (2 * i) ts → f ≡ identity s i
  identity_is ts f e g = g ∙ ap (part_chosen s (2 * i)) e ∙ same_function s _ _ (scope_some s scope) here
