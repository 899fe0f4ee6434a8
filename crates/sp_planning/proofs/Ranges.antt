-- Values of editions are at most 10^18 ticks, where those of their members are.
use Rattle.std.proofs.Common.{◌≡◌, ◌∙◌, sym, ap, arith, ℕ, zero, suc, ◌^◌, ◌<◌, List, [], ◌∷◌, map}
use Rattle.std.specs.Prelude.{ℤ, pos, negsuc, neg_ℤ, ◌+ℤ◌, ◌≤ℤ◌, unsigned_abs, All}
use Rattle.std.specs.List.{AllByRecursion}
use Rattle.std.proofs.lemmas.Int.{ints}
use Rattle.sp_theory.specs.Sums.{times, floor}
use Rattle.sp_theory.specs.Points.{IsPoint}
use Rattle.sp_theory.specs.Model.{Model, State, Vector, least_return, top}
use Rattle.sp_theory.specs.Values.{Weights, Member, leaf_member, Edition, dot, total, greatest_member, value}
use Rattle.sp_theory.specs.Scaling.{total_weight}
use Rattle.sp_theory.proofs.Whole.{≤ℤ_trans, floor_most, floor_mono, floor-times, times-add, times-zero}
use Rattle.sp_theory.proofs.Weighing.{le_same}
use Rattle.sp_theory.proofs.Greatest.{greatest_case, dot_mono}
use Rattle.sp_theory.proofs.Backups.{dot-add, dot-constant, dot_from_zero}
use Rattle.sp_planfile.specs.Form.{IsTickValue}

-- at every state at most that many ticks
abbrev pub IsWithin : Model → ℕ → Vector → Type 0
IsWithin m n v = (s : State) → IsPoint m.sizes s → (neg_ℤ (pos n) ≤ℤ v s) × (v s ≤ℤ pos n)

none_times : (z : ℤ) → times 0 z ≡ pos 0
none_times z = omega (arith, ints)

turned : (n : ℕ) (z : ℤ) → pos 0 ≤ℤ z → times n z ≡ times (unsigned_abs z) (pos n)
turned n (pos a) h = ap pos (omega arith)
turned n (negsuc a) h = absurd (omega (arith, ints))

apart : (n : ℕ) → neg_ℤ (pos n) +ℤ pos n ≡ pos 0
apart n = omega (arith, ints)

negative_times : (t n : ℕ) → times t (neg_ℤ (pos n)) +ℤ times t (pos n) ≡ pos 0
negative_times t n = sym (times-add t (neg_ℤ (pos n)) (pos n)) ∙ ap (times t) (apart n) ∙ times-zero t

module _ (m : Model) (w : Weights) (n : ℕ) where
  dot_within : (v : Vector) → IsWithin m n v → (dot m w v ≤ℤ times n (total m w)) × (pos 0 ≤ℤ (dot m w v +ℤ times n (total m w)))
  dot_within v within = (
    ≤ℤ_trans (dot_mono m w v (λ s. pos n) (λ s p. (within s p).1)) (le_same (dot-constant m w n)),
    ≤ℤ_trans (le_same (sym (dot-constant m w 0 ∙ none_times (total m w))))
        (≤ℤ_trans (dot_mono m w (λ s. pos 0) (λ s. v s +ℤ pos n) (λ s p. let low = (within s p).0 in omega (arith, ints, low)))
        (le_same (dot-add m w v (λ s. pos n) ∙ ap (λ (z : ℤ). dot m w v +ℤ z) (dot-constant m w n)))),
  )

  pub value_within : (edition : Edition) → 0 < total_weight m w → IsWithin m n (leaf_member m).vector → All (λ x. IsWithin m n x.vector) edition
      → (neg_ℤ (pos n) ≤ℤ floor (value m edition w) (total_weight m w)) × (floor (value m edition w) (total_weight m w) ≤ℤ pos n)
  unfolding value greatest_member
  value_within edition some none all =
      let v = (greatest_member m edition w).vector in
      let within : IsWithin m n v = greatest_case (λ x. dot m w x.vector) (λ x. x.id) (λ x. IsWithin m n x.vector) (leaf_member m) edition none all in
      let two = dot_within v within in
      let t = total_weight m w in
      let same = turned n (total m w) (dot_from_zero m w) in
      let low : times t (neg_ℤ (pos n)) ≤ℤ dot m w v = let e = two.1 in let f = negative_times t n in omega (arith, ints, e, f, same) in
      let high : dot m w v ≤ℤ times t (pos n) = let e = two.0 in omega (arith, ints, e, same) in
      (floor_most (dot m w v) (neg_ℤ (pos n)) t some low, ≤ℤ_trans (floor_mono (dot m w v) (times t (pos n)) t some high) (le_same (floor-times t (pos n) some)))

is_value : (z : ℤ) → neg_ℤ (pos (10 ^ 18)) ≤ℤ z → z ≤ℤ pos (10 ^ 18) → IsTickValue z
is_value z low high = omega (arith, ints, low, high)

pub values_within : (m : Model) (w : Weights) (editions : List Edition) → 0 < total_weight m w → neg_ℤ (pos (10 ^ 18)) ≤ℤ least_return m → least_return m ≤ℤ top m → top m ≤ℤ pos (10 ^ 18)
    → All (All (λ (x : Member). (s : State) → IsPoint m.sizes s → (least_return m ≤ℤ x.vector s) × (x.vector s ≤ℤ top m))) editions
    → AllByRecursion IsTickValue (map (λ e. floor (value m e w) (total_weight m w)) editions)
unfolding leaf_member
values_within m w [] some low order high all = tt
values_within m w (e ∷ es) some low order high all =
    let first : All (λ (x : Member). IsWithin m (10 ^ 18) x.vector) e =
    λ k d less s p. let r = all zero e (omega arith) k d less s p in (≤ℤ_trans low r.0, ≤ℤ_trans r.1 high) in
    let two = value_within m w (10 ^ 18) e some (λ s p. (low, ≤ℤ_trans order high)) first in
    (is_value _ two.0 two.1, values_within m w es some low order high (λ k d less. all (suc k) d (omega (arith, less))))
