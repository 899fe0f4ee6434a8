-- Observations that are unseen, and those that are seen.
use Rattle.std.proofs.Common.{◌≡◌, ℕ, zero, suc, ◌+◌, ◌*◌, ◌^◌, ◌<◌, List, length, refl, sym, ap, ◌∙◌, arith, Bool, true, false, cond, eqb, Some, None}
use Rattle.std.specs.Prelude.{ℤ, pos, ◌+ℤ◌, ◌≤ℤ◌, sum_by}
use Rattle.std.specs.List.{range_with_len}
use Rattle.std.proofs.lemmas.Int.{ints}
use Rattle.std.proofs.lemmas.Bool.{eqb-true}
use Rattle.std.proofs.lemmas.List.Sums.{sum_by-cons}
use Rattle.std.proofs.Math.Nat.{one-le-pow, zero-add}
use Rattle.sp_theory.specs.Sums.{times, sum_below}
use Rattle.sp_theory.specs.Points.{IsPoint, point_of, sum_over}
use Rattle.sp_theory.specs.Draws.{q, chance}
use Rattle.sp_theory.specs.Model.{Model, State, IsLawful}
use Rattle.sp_theory.specs.Values.{Weights, dot, total}
use Rattle.sp_theory.specs.Scaling.{total_weight, scaled_weights}
use Rattle.sp_theory.specs.Beliefs.{moved, unscaled_next, next_weights, exact_next}
use Rattle.sp_theory.specs.Samples.{total_seen, whole_total}
use Rattle.sp_theory.specs.BeliefLaws.{variables, states, observations, RuledOutIsUnseen, UnseenIsSlight, SomethingIsSeen}
use Rattle.sp_theory.proofs.Whole.{times-zero, times_cancel_le, ≤ℤ_trans, sum_below_same}
use Rattle.sp_theory.proofs.Order.{add_right_mono}
use Rattle.sp_theory.proofs.Weighing.{q_pos, le_same, sum_over_same, sum_over_mono, sum_over-add, sum_over-times, mean-constant}
use Rattle.sp_theory.proofs.Numbers.{sum_over-numbers}
use Rattle.sp_theory.proofs.Backups.{sum_over-zero, sum_over-constant, sum_over-swap, thinned_high, length-point, dot_from_zero}
use Rattle.sp_theory.proofs.Updates.{exactly_moved, moved_high, pos-unsigned_abs, unscaled_next-is, unscaled_next_low, unscaled_next_high}

-- ---- totals
pub total-sum : (m : Model) (w : Weights) → total m w ≡ sum_over m.sizes (λ s. pos (w s))
unfolding dot
total-sum m w = sum_over_same m.sizes _ _ (λ s p. one (w s))
  where
    one : (n : ℕ) → times n (pos 1) ≡ pos n
    one n = omega (arith, ints)

pub pos-total_weight : (m : Model) (w : Weights) → pos (total_weight m w) ≡ sum_over m.sizes (λ s. pos (w s))
pos-total_weight m w = pos-unsigned_abs (total m w) (dot_from_zero m w) ∙ total-sum m w

pub power_pos : (n : ℕ) → 0 < q ^ n
power_pos n = one-le-pow n q q_pos

-- ---- unseen
unseen_where : (m : Model) (w : Weights) (a : ℕ) (seen : List ℕ) → total_weight m (unscaled_next m w a seen) ≡ 0 → next_weights m w a seen ≡ None
unfolding next_weights
unseen_where m w a seen e = ap (λ (n : ℕ). cond (eqb n 0) None (Some (scaled_weights m (unscaled_next m w a seen)))) e

pub unseen_only : (m : Model) (w : Weights) (a : ℕ) (seen : List ℕ) → next_weights m w a seen ≡ None → total_weight m (unscaled_next m w a seen) ≡ 0
unfolding next_weights
unseen_only m w a seen = by_test (eqb (total_weight m (unscaled_next m w a seen)) 0) refl
  where
    by_test : (b : Bool) → eqb (total_weight m (unscaled_next m w a seen)) 0 ≡ b → cond b None (Some (scaled_weights m (unscaled_next m w a seen))) ≡ None → total_weight m (unscaled_next m w a seen) ≡ 0
    by_test true e h = eqb-true _ 0 e
    by_test false e h = absurd (cc)

pub ruled_out : RuledOutIsUnseen
ruled_out m lawful w a known seen sighted zeros = unseen_where m w a seen (nothing _ (pos-total_weight m (unscaled_next m w a seen) ∙ sum_over_same m.sizes _ (λ s. pos 0) (λ next p. each next p (unscaled_next m w a seen next) (unscaled_next_low m lawful w a known seen sighted next p)) ∙ sum_over-zero m.sizes))
  where
    nothing : (n : ℕ) → pos n ≡ pos 0 → n ≡ 0
    nothing n e = omega (arith, ints, e)

    each : (next : State) → IsPoint m.sizes next → (n : ℕ) → times (q ^ variables m) (pos n) ≤ℤ exact_next m w a seen next → pos n ≡ pos 0
    each next p n low = let less = times_cancel_le (q ^ variables m) (pos n) (pos 0) (power_pos (variables m)) (≤ℤ_trans low (le_same (zeros next p ∙ sym (times-zero (q ^ variables m))))) in omega (arith, ints, less)

pub unseen_slight : UnseenIsSlight
unseen_slight m lawful w a known seen sighted unseen =
    ≤ℤ_trans (sum_over_mono m.sizes _ _ (λ next p. unscaled_next_high m lawful w a known seen sighted next p))
    (le_same (sum_over-times m.sizes (q ^ variables m) (λ next. pos (unscaled_next m w a seen next + variables m * states m)) ∙ ap (times (q ^ variables m)) together))
  where
    counted : (v n : ℕ) → pos 0 +ℤ times n (pos (v * n)) ≡ pos (v * (n * n))
    counted v n = ap pos (omega arith)

    none : sum_over m.sizes (λ next. pos (unscaled_next m w a seen next)) ≡ pos 0
    none = sym (pos-total_weight m (unscaled_next m w a seen)) ∙ ap pos (unseen_only m w a seen unseen)

    together : sum_over m.sizes (λ next. pos (unscaled_next m w a seen next + variables m * states m)) ≡ pos (variables m * (states m * states m))
    together =
        sum_over-add m.sizes (λ next. pos (unscaled_next m w a seen next)) (λ next. pos (variables m * states m))
        ∙ (λ h. none h +ℤ sum_over-constant m.sizes (pos (variables m * states m)) h) ∙ counted (variables m) (states m)

-- ---- seen
sum_below-first : (n : ℕ) (f : ℕ → ℤ) → sum_below (suc n) f ≡ f 0 +ℤ sum_below n (λ k. f (suc k))
unfolding sum_below
sum_below-first zero f = omega (arith, ints)
sum_below-first (suc n) f = let e = sum_below-first n f in omega (arith, ints, e)

pub pos-sum_by : (f : ℕ → ℕ) (a n : ℕ) → pos (sum_by f (range_with_len a n)) ≡ sum_below n (λ k. pos (f (a + k)))
unfolding sum_below
pos-sum_by f a zero = refl
pos-sum_by f a (suc n) =
    ap pos (sum_by-cons f a (range_with_len (a + 1) n))
    ∙ ap (λ (z : ℤ). pos (f a) +ℤ z) (pos-sum_by f (a + 1) n ∙ sum_below_same n _ _ (λ k less. ap (λ (i : ℕ). pos (f i)) (behind a k)))
    ∙ ap (λ (i : ℕ). pos (f i) +ℤ sum_below n (λ k. pos (f (a + suc k)))) (first a)
    ∙ sym (sum_below-first n (λ k. pos (f (a + k))))
  where
    behind : (a k : ℕ) → a + 1 + k ≡ a + suc k
    behind a k = omega arith

    first : (a : ℕ) → a ≡ a + 0
    first a = omega arith

module _ (m : Model) (lawful : IsLawful m) (w : Weights) (a : ℕ) (known : a < m.actions) where
  abbrev n : ℕ
  n = length m.sizes

  abbrev k : ℕ
  k = length m.sight_sizes

  -- the next weights before scaling, summed over the observations
  pub seen_at : State → ℤ
  seen_at next = sum_over m.sight_sizes (λ seen. pos (unscaled_next m w a seen next))

  -- all observations together lose at most one for each of them and each observation variable
  seen_high : (next : State) → IsPoint m.sizes next → moved m w a next ≤ℤ (seen_at next +ℤ times (observations m) (pos k))
  unfolding seen_at
  seen_high next p = times_cancel_le (q ^ k) _ _ (power_pos k)
      (≤ℤ_trans (le_same (sym (mean-constant m.sight_sizes (m.sights a next) (moved m w a next) (lawful.sights_whole a next known p))))
      (≤ℤ_trans (sum_over_mono m.sight_sizes _ (λ seen. times (q ^ k) (pos (unscaled_next m w a seen next) +ℤ pos k)) (λ seen sighted. ≤ℤ_trans (thinned_high m.sight_sizes (m.sights a next) seen (moved m w a next) (lawful.sights_whole a next known p) sighted) (le_same (λ h. times (q ^ length-point m.sight_sizes seen sighted h) (sym (unscaled_next-is m lawful w a known seen sighted next p) h +ℤ pos (length-point m.sight_sizes seen sighted h))))))
      (le_same (sum_over-times m.sight_sizes (q ^ k) _ ∙ ap (times (q ^ k)) (sum_over-add m.sight_sizes _ _ ∙ ap (λ (z : ℤ). seen_at next +ℤ z) (sum_over-constant m.sight_sizes (pos k)))))))

  -- exactly, the action keeps the total
  pub exactly_moved-all : sum_over m.sizes (exactly_moved m w a) ≡ times (q ^ n) (sum_over m.sizes (λ s. pos (w s)))
  exactly_moved-all = sym (sum_over-swap m.sizes m.sizes (λ s next. times (chance (m.moves a s) next) (pos (w s)))) ∙ sum_over_same m.sizes _ _ (λ s p. mean-constant m.sizes (m.moves a s) (pos (w s)) (lawful.moves_whole a s known p)) ∙ sum_over-times m.sizes (q ^ n) (λ s. pos (w s))

  -- the action loses at most one for each state variable and pair of states
  moved_all : sum_over m.sizes (λ s. pos (w s)) ≤ℤ (sum_over m.sizes (moved m w a) +ℤ times (states m) (pos (n * states m)))
  moved_all = times_cancel_le (q ^ n) _ _ (power_pos n)
      (≤ℤ_trans (le_same (sym exactly_moved-all))
      (≤ℤ_trans (sum_over_mono m.sizes _ (λ next. times (q ^ n) (moved m w a next +ℤ pos (n * states m))) (λ next p. moved_high m lawful w a known next p))
      (le_same (sum_over-times m.sizes (q ^ n) _ ∙ ap (times (q ^ n)) (sum_over-add m.sizes _ _ ∙ ap (λ (z : ℤ). sum_over m.sizes (moved m w a) +ℤ z) (sum_over-constant m.sizes (pos (n * states m))))))))

  -- S as a sum over the next states
  pub whole_total-is : pos (whole_total m w a) ≡ sum_over m.sizes seen_at
  unfolding total_seen seen_at
  whole_total-is =
      pos-sum_by (total_seen m w a) 0 (observations m)
      ∙ sum_below_same (observations m) _ _ (λ o less. ap (λ (i : ℕ). pos (total_seen m w a i)) (zero-add o) ∙ pos-total_weight m (unscaled_next m w a (point_of m.sight_sizes o)))
      ∙ sym (sum_over-numbers m.sight_sizes (λ seen. sum_over m.sizes (λ next. pos (unscaled_next m w a seen next))))
      ∙ sum_over-swap m.sight_sizes m.sizes (λ seen next. pos (unscaled_next m w a seen next))

  -- S is at least the weights' total, but for what the floors take
  pub whole_total_high : pos (total_weight m w) ≤ℤ pos (whole_total m w a + (n * (states m * states m) + k * (states m * observations m)))
  whole_total_high =
      ≤ℤ_trans (le_same (pos-total_weight m w))
      (≤ℤ_trans moved_all
      (≤ℤ_trans (add_right_mono _ _ _ (sum_over_mono m.sizes (moved m w a) (λ next. seen_at next +ℤ times (observations m) (pos k)) seen_high))
      (le_same (ap (λ (z : ℤ). z +ℤ times (states m) (pos (n * states m))) (sum_over-add m.sizes seen_at _ ∙ (λ h. sym whole_total-is h +ℤ sum_over-constant m.sizes (times (observations m) (pos k)) h)) ∙ counted (whole_total m w a) (states m) (observations m) n k))))
    where
      counted : (s states observations n k : ℕ) → pos s +ℤ times states (times observations (pos k)) +ℤ times states (pos (n * states)) ≡ pos (s + (n * (states * states) + k * (states * observations)))
      counted s states observations n k = ap pos (omega arith)

pub something_seen : SomethingIsSeen
something_seen m lawful w scale a known few = left (total_weight m w) (whole_total m w a) _ (2 ^ 61) scale.above (whole_total_high m lawful w a known) few
  where
    left : (t s lost large : ℕ) → large < t → pos t ≤ℤ pos (s + lost) → lost < large → 0 < s
    left t s lost large above high few = omega (arith, ints, above, high, few)
