-- Weights to scale.
use Rattle.std.proofs.Common.{◌≡◌, ℕ, zero, suc, ◌*◌, ◌^◌, ◌<◌, ◌≤◌, length, refl, sym, ap, ◌∙◌, arith, Bool, true, false, cond, subst, eqb, ◌≢◌, ◌⊎◌, inl, inr, Option, Some, None}
use Rattle.std.proofs.Math.Dec.{leb}
use Rattle.std.specs.Prelude.{pos, ◌≤ℤ◌, unwrap_or}
use Rattle.std.proofs.lemmas.Int.{ints}
use Rattle.std.proofs.lemmas.Bool.{leb-true, leb-false, cases_lt}
use Rattle.std.proofs.lemmas.Bool.Decides.{eqb_tells}
use Rattle.std.proofs.lemmas.Nat.{pow-add}
use Rattle.std.proofs.Math.Pow.{pow_mono}
use Rattle.std.proofs.Math.Nat.{pow-suc, mul-le-mul_right, mul-le-mul_left}
use Rattle.sp_theory.specs.Sums.{times}
use Rattle.sp_theory.specs.Points.{IsPoint}
use Rattle.sp_theory.specs.Draws.{q, chance}
use Rattle.sp_theory.specs.Model.{Model, State}
use Rattle.sp_theory.specs.Values.{Weights}
use Rattle.sp_theory.specs.Scaling.{total_weight, IsScaled, greatest_power, scaled_weights}
use Rattle.sp_theory.specs.Beliefs.{unscaled_next, next_weights, exact_next}
use Rattle.sp_theory.specs.BeliefLaws.{variables, ScalingGivesScale, UpdateGainsNothing, NextIsScaled}
use Rattle.sp_theory.proofs.Whole.{times-times, times_cancel_le, ≤ℤ_trans}
use Rattle.sp_theory.proofs.Weighing.{le_same, times-swap, sum_over_same, sum_over_mono, sum_over-times}
use Rattle.sp_theory.proofs.Backups.{sum_over-zero, chance_most, factor_mono, length-point}
use Rattle.sp_theory.proofs.Updates.{exactly_moved, unscaled_next_low}
use Rattle.sp_theory.proofs.Unseen.{pos-total_weight, power_pos, exactly_moved-all}

-- ---- the power of two
greatest_power_keeps : (k n : ℕ) → n ≤ 2 ^ 62 → n * greatest_power k n ≤ 2 ^ 62
unfolding greatest_power
greatest_power_keeps zero n h = omega (arith, h)
greatest_power_keeps (suc k) n h = by_test (leb (n * 2 ^ suc k) (2 ^ 62)) refl (greatest_power_keeps k n h)
  where
    by_test : (b : Bool) → leb (n * 2 ^ suc k) (2 ^ 62) ≡ b → n * greatest_power k n ≤ 2 ^ 62 → n * cond b (2 ^ suc k) (greatest_power k n) ≤ 2 ^ 62
    by_test true e rest = leb-true _ _ e
    by_test false e rest = rest

greatest_power_most : (k n : ℕ) → 2 ^ 62 < n * 2 ^ suc k → 2 ^ 62 < n * greatest_power k n * 2
unfolding greatest_power
greatest_power_most zero n h = subst (λ (t : ℕ). 2 ^ 62 < t) (doubled n) h
  where
    doubled : (n : ℕ) → n * 2 ^ suc zero ≡ n * 1 * 2
    doubled n = omega arith
greatest_power_most (suc k) n h = by_test (leb (n * 2 ^ suc k) (2 ^ 62)) refl (greatest_power_most k n)
  where
    doubled : (n p : ℕ) → n * (p * 2) ≡ n * p * 2
    doubled n p = omega arith

    by_test : (b : Bool) → leb (n * 2 ^ suc k) (2 ^ 62) ≡ b → (2 ^ 62 < n * 2 ^ suc k → 2 ^ 62 < n * greatest_power k n * 2) → 2 ^ 62 < n * cond b (2 ^ suc k) (greatest_power k n) * 2
    by_test true e rest = subst (λ (t : ℕ). 2 ^ 62 < t) (ap (λ (p : ℕ). n * p) (pow-suc 2 (suc k)) ∙ doubled n (2 ^ suc k)) h
    by_test false e rest = rest (leb-false _ _ e)

-- the only power of two that keeps n at most 2^62 where the next one doesn't
pub greatest_power_is : (k n j : ℕ) → j ≤ k → n * 2 ^ j ≤ 2 ^ 62 → 2 ^ 62 < n * 2 ^ suc j → greatest_power k n ≡ 2 ^ j
unfolding greatest_power
greatest_power_is zero n j within low high = sym (ap (λ (i : ℕ). 2 ^ i) (none j within))
  where
    none : (j : ℕ) → j ≤ 0 → j ≡ 0
    none j h = omega (arith, h)
greatest_power_is (suc k) n j within low high = by_test (leb (n * 2 ^ suc k) (2 ^ 62)) refl (cases_lt j (suc k)) (greatest_power_is k n j)
  where
    Is : Bool → Type 0
    Is b = cond b (2 ^ suc k) (greatest_power k n) ≡ 2 ^ j

    last : (j : ℕ) → j ≤ suc k → suc k ≤ j → suc k ≡ j
    last j low high = omega (arith, low, high)

    by_test : (b : Bool) → leb (n * 2 ^ suc k) (2 ^ 62) ≡ b → (j < suc k) ⊎ (suc k ≤ j) → (j ≤ k → n * 2 ^ j ≤ 2 ^ 62 → 2 ^ 62 < n * 2 ^ suc j → greatest_power k n ≡ 2 ^ j) → Is b
    by_test true e (inl less) rest = absurd (let at = leb-true _ _ e in let more = mul-le-mul_left n (pow_mono less) in omega (arith, high, at, more))
    by_test true e (inr not_less) rest = ap (λ (i : ℕ). 2 ^ i) (last j within not_less)
    by_test false e (inl less) rest = rest (omega (arith, less)) low high
    by_test false e (inr not_less) rest = absurd (let past = leb-false _ _ e in let same = ap (λ (i : ℕ). n * 2 ^ i) (last j within not_less) in omega (arith, past, low, same))

-- ---- scaling
pub total_weight-scaled : (m : Model) (w : Weights) → total_weight m (scaled_weights m w) ≡ total_weight m w * greatest_power 62 (total_weight m w)
unfolding scaled_weights
total_weight-scaled m w = same _ _ (pos-total_weight m (scaled_weights m w) ∙ sum_over_same m.sizes _ _ (λ s p. turned (w s) power) ∙ sum_over-times m.sizes power (λ s. pos (w s)) ∙ ap (times power) (sym (pos-total_weight m w)) ∙ sym (turned (total_weight m w) power))
  where
    power : ℕ
    power = greatest_power 62 (total_weight m w)

    turned : (a b : ℕ) → pos (a * b) ≡ times b (pos a)
    turned a b = ap pos (omega arith)

    same : (a b : ℕ) → pos a ≡ pos b → a ≡ b
    same a b e = omega (arith, ints, e)

pub scaling_gives : ScalingGivesScale
scaling_gives m w some few = record {
  above = subst (λ (t : ℕ). 2 ^ 61 < t) (sym (total_weight-scaled m w)) (half (greatest_power_most 62 (total_weight m w) (large (total_weight m w) some)));
  within = subst (λ (t : ℕ). t ≤ 2 ^ 62) (sym (total_weight-scaled m w)) (greatest_power_keeps 62 (total_weight m w) few);
}
  where
    half : {t : ℕ} → 2 ^ 62 < t * 2 → 2 ^ 61 < t
    half h = omega (arith, h)

    large : (n : ℕ) → 0 < n → 2 ^ 62 < n * 2 ^ suc 62
    large n some = let e = mul-le-mul_right (2 ^ 63) some in omega (arith, e)

-- ---- the next weights
exactly_moved_from_zero : (m : Model) (w : Weights) (a : ℕ) (next : State) → pos 0 ≤ℤ exactly_moved m w a next
exactly_moved_from_zero m w a next = ≤ℤ_trans (le_same (sym (sum_over-zero m.sizes))) (sum_over_mono m.sizes (λ s. pos 0) _ (λ s p. from_zero (chance (m.moves a s) next * w s)))
  where
    from_zero : (n : ℕ) → pos 0 ≤ℤ pos n
    from_zero n = omega (arith, ints)

pub gains_nothing : UpdateGainsNothing
unfolding exact_next
gains_nothing m lawful w a known seen sighted = below _ _ (times_cancel_le (q ^ variables m) _ _ (power_pos (variables m))
    (≤ℤ_trans (le_same (ap (times (q ^ variables m)) (pos-total_weight m (unscaled_next m w a seen)) ∙ sym (sum_over-times m.sizes (q ^ variables m) _)))
    (≤ℤ_trans (sum_over_mono m.sizes _ (λ next. times (q ^ length m.sight_sizes) (exactly_moved m w a next)) (λ next p. ≤ℤ_trans (unscaled_next_low m lawful w a known seen sighted next p) (factor_mono _ _ _ (small next p) (exactly_moved_from_zero m w a next))))
    (le_same (sum_over-times m.sizes (q ^ length m.sight_sizes) (exactly_moved m w a) ∙ ap (times (q ^ length m.sight_sizes)) (exactly_moved-all m lawful w a known)
    ∙ times-swap (q ^ length m.sight_sizes) (q ^ length m.sizes) _ ∙ sym (times-times (q ^ length m.sizes) (q ^ length m.sight_sizes) _) ∙ (λ h. times (sym (pow-add q (length m.sizes) (length m.sight_sizes)) h) (sym (pos-total_weight m w) h)))))))
  where
    below : (a b : ℕ) → pos a ≤ℤ pos b → a ≤ b
    below a b h = omega (arith, ints, h)

    small : (next : State) → IsPoint m.sizes next → chance (m.sights a next) seen ≤ q ^ length m.sight_sizes
    small next p = subst (λ (n : ℕ). chance (m.sights a next) seen ≤ q ^ n) (length-point m.sight_sizes seen sighted) (chance_most m.sight_sizes (m.sights a next) seen (lawful.sights_whole a next known p) sighted)

pub next_scaled : NextIsScaled
unfolding next_weights
next_scaled m lawful w scale a known seen sighted v = by_test (eqb weight 0) (eqb_tells weight 0) refl
  where
    weight : ℕ
    weight = total_weight m (unscaled_next m w a seen)

    some_same : {x y : Weights} → Some x ≡ Some y → x ≡ y
    some_same {x} {y} e = ap (λ (o : Option Weights). unwrap_or o x) e

    few : weight ≤ 2 ^ 62
    few = let less = gains_nothing m lawful w a known seen sighted in omega (arith, less, scale.within)

    by_test : (b : Bool) → ((eqb weight 0 ≡ true) × (weight ≡ 0)) ⊎ ((eqb weight 0 ≡ false) × (weight ≢ 0)) → eqb weight 0 ≡ b → cond b None (Some (scaled_weights m (unscaled_next m w a seen))) ≡ Some v → IsScaled m v
    by_test true told f e = absurd (cc)
    by_test false (inl (is, none)) f e = absurd (cc)
    by_test false (inr (is, more)) f e = subst (IsScaled m) (some_same e) (scaling_gives m (unscaled_next m w a seen) (omega (arith, more)) few)
