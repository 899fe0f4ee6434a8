-- The table at which a variable is summed out: the last one that depends on it.
use Rattle.std.proofs.Common.{◌≡◌, ℕ, zero, suc, ◌+◌, ◌-◌, ◌<◌, ◌≤◌, ⊎_elim, refl, sym, ◌∙◌, ap, arith, length, Bool, true, false, not, ◌&&◌}
use Rattle.std.proofs.lemmas.Bool.{cases_lt, eq-eqb, ne_eqb}
use Rattle.sp_theory.specs.Beliefs.{table_of, ignores, all_ignore}
use Rattle.sp_model.specs.declared.parts.Parts.{Parts}
use Rattle.sp_model.specs.Problem.{problem}
use Rattle.sp_model.specs.Kept.{IsModel}
use Rattle.sp_belief.specs.Progress.{from_table}
use Rattle.sp_belief.specs.Tables.{IsLastTable}
use Rattle.sp_belief.proofs.CarryLemmas.{ignored-cons}

and_first : (x y : Bool) → true ≡ (x && y) → true ≡ x
and_first true y e = refl
and_first false y e = e

and_second : (x y : Bool) → true ≡ (x && y) → true ≡ y
and_second true y e = e
and_second false true e = refl
and_second false false e = e

and-false : (x y : Bool) → false ≡ y → false ≡ (x && y)
and-false true y e = e
and-false false y e = refl

module _ (p : Parts) (known : IsModel p) (a v : ℕ) where
  abbrev ignored : ℕ → Bool
  ignored i = ignores (problem p).sizes (table_of (problem p) a i) v

  abbrev rest : ℕ → Bool
  rest i = all_ignore (problem p).sizes (from_table (problem p) a i) v

  -- where the rest from a later table doesn't ignore it, neither does that from an earlier one
  before : (d i k : ℕ) → i + d ≡ k → k < length p.variables → false ≡ rest k → false ≡ rest i
  before zero i k e less none = none ∙ sym (ap rest (let f : i ≡ k = omega arith in f))
  before (suc d) i k e less none = and-false (ignored i) (rest (i + 1)) (before d (i + 1) k (omega arith) less none) ∙ sym (ignored-cons p known a v i (omega arith))

  -- where the rest ignores it, each of its tables does
  behind : (d k i : ℕ) → k + d ≡ i → i < length p.variables → true ≡ rest k → true ≡ ignored i
  behind zero k i e less all = and_first (ignored i) (rest (i + 1)) (all ∙ ap rest (let f : k ≡ i = omega arith in f) ∙ ignored-cons p known a v i less)
  behind (suc d) k i e less all = behind d (k + 1) i (omega arith) less (and_second (ignored k) (rest (k + 1)) (all ∙ ignored-cons p known a v k (omega arith)))

  pub last_first : true ≡ rest 1 → IsLastTable p a v 0
  last_first all zero less = sym all
  last_first all (suc i) less = sym (ap (λ (b : Bool). not b && rest (suc (suc i))) (behind i 1 (suc i) (omega arith) less all)) ∙ sym (ne_eqb 0 (suc i) (λ e. omega arith))

  pub last_found : (k : ℕ) → 0 < k → k < length p.variables → false ≡ ignored k → true ≡ rest (k + 1) → IsLastTable p a v k
  last_found k some within told all zero less =
      let none : false ≡ rest k = ap (λ (b : Bool). b && rest (k + 1)) told ∙ sym (ignored-cons p known a v k within) in
      sym (before (k - 1) 1 k (omega arith) within none) ∙ sym (ne_eqb k 0 (λ e. omega arith))
  last_found k some within told all (suc i) less =
      ⊎_elim (λ (early : suc i < k).
      let none : false ≡ rest k = ap (λ (b : Bool). b && rest (k + 1)) told ∙ sym (ignored-cons p known a v k within) in
      let later : suc (suc i) + (k - suc (suc i)) ≡ k = omega arith in
      sym (and-false (not (ignored (suc i))) (rest (suc (suc i))) (before (k - suc (suc i)) (suc (suc i)) k later within none)) ∙ sym (ne_eqb k (suc i) (λ e. omega arith)))
      (λ (late : k ≤ suc i).
      ⊎_elim (λ (beyond : k < suc i).
      let far : (k + 1) + (i - k) ≡ suc i = omega arith in
      sym (ap (λ (b : Bool). not b && rest (suc (suc i))) (behind (i - k) (k + 1) (suc i) far less all)) ∙ sym (ne_eqb k (suc i) (λ e. omega arith)))
      (λ (not_beyond : suc i ≤ k).
      let here : k ≡ suc i = omega arith in
      sym ((λ h. not ((told ∙ ap ignored here) h) && (all ∙ ap rest (let f : k + 1 ≡ suc (suc i) = omega arith in f)) h)) ∙ sym (eq-eqb k (suc i) here))
      (cases_lt k (suc i)))
      (cases_lt (suc i) k)
