-- The values of a table that leads from each value of a state variable to the same value.
use Rattle.std.proofs.Common.{◌≡◌, ◌≢◌, ⊎_elim, ℕ, zero, suc, ◌-◌, ◌<◌, ◌≤◌, List, length, get_or, set, ℤ, pos, ◌+ℤ◌, ◌≤ℤ◌, Bool, true, false, cond, nat_eq, sym, ◌∙◌, ap, refl, arith}
use Rattle.std.proofs.lemmas.Bool.{cases_lt, false≢true}
use Rattle.std.proofs.lemmas.Bool.Decides.{Decides-eqb}
use Rattle.std.proofs.lemmas.Int.{ints}
use Rattle.std.proofs.lemmas.List.{set-get_or}
use Rattle.sp_dd.specs.Floors.{sum_to, ticks}
use Rattle.sp_dd.specs.Func.{Func, IsScope, IsPointOf, value_of, size_of}
use Rattle.sp_dd.specs.Operations.{IsRow}
use Rattle.sp_dd.proofs.IndependenceLemmas.{point-below}
use Rattle.sp_ddops.specs.Diagonals.{IsIdentity}
use Rattle.sp_ddops.proofs.DiagonalLemmas.{IsPairOfSlots, pair_of_slots}
use Rattle.sp_ddops.proofs.RowLemmas.{term_within}

-- two terms of a sum of terms that are at least 0 are at most the sum
two_within : (n : ℕ) (g : ℕ → ℤ) → ((v : ℕ) → v < n → pos 0 ≤ℤ g v) → (k v : ℕ) → k < n → v < n → v ≢ k → (g k +ℤ g v) ≤ℤ sum_to n g
two_within zero g h k v l m d = absurd (omega arith)
two_within (suc n) g h k v l m d =
    let before : (u : ℕ) → u < n → pos 0 ≤ℤ g u = λ u b. h u (omega arith) in
    ⊎_elim
    (λ (a : k < n). ⊎_elim
    (λ (b : v < n). omega (arith, ints, two_within n g before k v a b d, h n (omega arith)))
    (λ (b : n ≤ v). (let is : g v ≡ g n = (let q : v ≡ n = omega arith in ap g q) in omega (arith, ints, is, term_within n g before k a)))
    (cases_lt v n))
    (λ (a : n ≤ k).
    (let is : g k ≡ g n = (let q : k ≡ n = omega arith in ap g q) in
    let b : v < n = omega (arith, d) in
    omega (arith, ints, is, term_within n g before v b)))
    (cases_lt k n)

module _ (p : Func) (primed : ℕ) (c : IsScope p.shape) (row : IsRow p primed) (k : IsIdentity p primed) (x : List ℕ) (w : IsPointOf p x) where
  both : IsPairOfSlots p.shape primed
  both = pair_of_slots p.shape primed c k.primed

  other_none : (v : ℕ) → v < size_of p.shape primed → v ≢ get_or x (primed - 1) 0 → value_of p (set x primed v) ≡ pos 0
  other_none v l d =
      let u : ℕ = get_or x (primed - 1) 0 in
      let low : u < size_of p.shape primed = omega (arith, point-below p.shape.sizes x (primed - 1) w both.before, both.same) in
      omega (arith, ints, two_within (size_of p.shape primed) (λ y. value_of p (set x primed y)) (row.weights x w) u v low l d, row.weights x w v l, row.whole x w, k.one x w)

  value_by : (b : Bool) (v : ℕ) → v < size_of p.shape primed → nat_eq v (get_or x (primed - 1) 0) ≡ b → value_of p (set x primed v) ≡ cond b (pos ticks) (pos 0)
  value_by true v l e = ap (λ u. value_of p (set x primed u)) ((Decides-eqb v (get_or x (primed - 1) 0)).0 e) ∙ k.one x w
  value_by false v l e = other_none v l (λ q. false≢true (sym e ∙ (Decides-eqb v (get_or x (primed - 1) 0)).1 q))

  -- it is one where both slots have the same value, and else nothing
  pub identity_value : value_of p x ≡ cond (nat_eq (get_or x primed 0) (get_or x (primed - 1) 0)) (pos ticks) (pos 0)
  identity_value =
      ap (value_of p) (sym (set-get_or x primed 0))
      ∙ value_by (nat_eq (get_or x primed 0) (get_or x (primed - 1) 0)) (get_or x primed 0) (point-below p.shape.sizes x primed w both.within) refl
