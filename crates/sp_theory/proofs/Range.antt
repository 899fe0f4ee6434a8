-- The least return and the top: what they do to each reward, and their order.
use Rattle.std.proofs.Common.{◌≡◌, ℕ, ◌+◌, ◌-◌, ◌*◌, ◌<◌, ◌≤◌, sym, ◌∙◌, ap, arith, true}
use Rattle.std.specs.Prelude.{ℤ, ◌+ℤ◌, ◌≤ℤ◌, ◌<ℤ◌, pos, neg_ℤ}
use borrow.Author.Differences.{neg_is}
use Rattle.std.proofs.lemmas.Int.{ints}
use Rattle.std.proofs.Math.Nat.{mul-le-mul_right}
use lib.Signed.{≤ℤ_refl}
use Rattle.std.proofs.lemmas.Bool.Decides.{Decides-int_eq}
use Rattle.sp_theory.specs.Sums.{times, floor, ceiling}
use Rattle.sp_theory.specs.Points.{IsPoint, count_of, least_over, greatest_over}
use Rattle.sp_theory.specs.Draws.{q}
use Rattle.sp_theory.specs.Model.{Model, State, IsLawful, AreRewards, IsReached, least_reward, greatest_reward, least_return, top, ignores_next}
use Rattle.sp_theory.specs.Laws.{IsExactRange}
use Rattle.sp_theory.proofs.Whole.{floor_below, floor_above, floor_most, times-add, times_mono, add-times, times_cancel_le, ≤ℤ_trans}
use Rattle.sp_theory.proofs.Order.{same_from}
use Rattle.sp_theory.proofs.Weighing.{le_same}
use Rattle.sp_theory.proofs.Extremes.{least_below_first, least_below_low, greatest_below_first, greatest_below_high, least_over_low, greatest_over_high, least_reached, greatest_reached, least_over_reached, greatest_over_reached, least_over-le-greatest_over, holds_over_at, holds_over_all}

pub ceiling_above : (z : ℤ) (n : ℕ) → 0 < n → z ≤ℤ times n (ceiling z n)
ceiling_above z n h =
    let low = floor_below (neg_ℤ z) n h in
    let turned = neg_is (floor (neg_ℤ z) n) in
    omega (arith, ints, low, ap (λ (t : ℕ). n * t) turned.0, ap (λ (t : ℕ). n * t) turned.1)

pub ceiling_below : (z : ℤ) (n : ℕ) → 0 < n → times n (ceiling z n) <ℤ (z +ℤ pos n)
ceiling_below z n h =
    let high = floor_above (neg_ℤ z) n h in
    let one = times-add n (floor (neg_ℤ z) n) (pos 1) in
    let turned = neg_is (floor (neg_ℤ z) n) in
    omega (arith, ints, high, one, ap (λ (t : ℕ). n * t) turned.0, ap (λ (t : ℕ). n * t) turned.1)

-- the least: the one that is above
pub ceiling_least : (z x : ℤ) (n : ℕ) → 0 < n → z ≤ℤ times n x → ceiling z n ≤ℤ x
ceiling_least z x n h high =
    let low = floor_most (neg_ℤ z) (neg_ℤ x) n h (let turned = neg_is x in omega (arith, ints, high, ap (λ (t : ℕ). n * t) turned.0, ap (λ (t : ℕ). n * t) turned.1)) in
    omega (arith, ints, low)

restored : (g : ℕ) → g < q → q - g + g ≡ q
restored g less = omega arith

turned : (n k : ℕ) → times n (neg_ℤ (pos k)) ≡ neg_ℤ (pos (n * k))
turned n k = let t = neg_is (pos k) in omega (arith, ints, ap (λ (t : ℕ). n * t) t.0, ap (λ (t : ℕ). n * t) t.1)

module _ (m : Model) where
  pub reward_from : (a : ℕ) (s next : State) → a < m.actions → IsPoint m.sizes s → IsPoint m.sizes next → least_reward m ≤ℤ m.reward a s next
  unfolding least_reward
  reward_from a s next known at to =
      ≤ℤ_trans (least_below_low m.actions _ a known)
      (≤ℤ_trans (least_over_low m.sizes (λ s. least_over m.sizes (m.reward a s)) s at)
      (least_over_low m.sizes (m.reward a s) next to))

  pub reward_to : (a : ℕ) (s next : State) → a < m.actions → IsPoint m.sizes s → IsPoint m.sizes next → m.reward a s next ≤ℤ greatest_reward m
  unfolding greatest_reward
  reward_to a s next known at to =
      ≤ℤ_trans (greatest_over_high m.sizes (m.reward a s) next to)
      (≤ℤ_trans (greatest_over_high m.sizes (λ s. greatest_over m.sizes (m.reward a s)) s at)
      (greatest_below_high m.actions (λ a. greatest_over m.sizes (λ s. greatest_over m.sizes (m.reward a s))) a known))

  least_reward-le-greatest_reward : least_reward m ≤ℤ greatest_reward m
  unfolding least_reward greatest_reward
  least_reward-le-greatest_reward =
      ≤ℤ_trans (least_below_first m.actions _)
      (≤ℤ_trans (least_over-le-greatest_over m.sizes _ (λ s. greatest_over m.sizes (m.reward 0 s)) (λ s. least_over-le-greatest_over m.sizes (m.reward 0 s) (m.reward 0 s) (λ next. ≤ℤ_refl (m.reward 0 s next))))
      (greatest_below_first m.actions (λ a. greatest_over m.sizes (λ s. greatest_over m.sizes (m.reward a s)))))

  module _ (lawful : IsLawful m) where
    -- one more step of the least reward is at least worth the least return
    pub least_low : (a : ℕ) (s next : State) → a < m.actions → IsPoint m.sizes s → IsPoint m.sizes next → times q (least_return m) ≤ℤ (times q (m.reward a s next) +ℤ times m.discount (least_return m))
    unfolding least_return
    least_low a s next known at to =
        let below = floor_below (times q (least_reward m)) (q - m.discount) (omega (arith, lawful.discounts)) in
        let more = times_mono q (least_reward m) _ (reward_from a s next known at to) in
        let parts = add-times (q - m.discount) m.discount (floor (times q (least_reward m)) (q - m.discount)) in
        let same = ap (λ (n : ℕ). times n (floor (times q (least_reward m)) (q - m.discount))) (restored m.discount lawful.discounts) in
        omega (arith, ints, below, more, parts, same)

    pub top_high : (a : ℕ) (s next : State) → a < m.actions → IsPoint m.sizes s → IsPoint m.sizes next → (times q (m.reward a s next) +ℤ times m.discount (top m)) ≤ℤ times q (top m)
    unfolding top
    top_high a s next known at to =
        let above = ceiling_above (times q (greatest_reward m)) (q - m.discount) (omega (arith, lawful.discounts)) in
        let more = times_mono q _ (greatest_reward m) (reward_to a s next known at to) in
        let parts = add-times (q - m.discount) m.discount (ceiling (times q (greatest_reward m)) (q - m.discount)) in
        let same = ap (λ (n : ℕ). times n (ceiling (times q (greatest_reward m)) (q - m.discount))) (restored m.discount lawful.discounts) in
        omega (arith, ints, above, more, parts, same)

    pub least_return-le-top : least_return m ≤ℤ top m
    unfolding least_return top
    least_return-le-top =
        let below = floor_below (times q (least_reward m)) (q - m.discount) (omega (arith, lawful.discounts)) in
        let above = ceiling_above (times q (greatest_reward m)) (q - m.discount) (omega (arith, lawful.discounts)) in
        let between = times_mono q _ _ least_reward-le-greatest_reward in
        times_cancel_le (q - m.discount) _ _ (omega (arith, lawful.discounts)) (≤ℤ_trans below (≤ℤ_trans between above))

  -- what the test on an action's reward tells
  pub ignores_next_at : (a : ℕ) → ignores_next m a ≡ true → (s next other : State) → IsPoint m.sizes s → IsPoint m.sizes next → IsPoint m.sizes other → m.reward a s next ≡ m.reward a s other
  unfolding ignores_next
  ignores_next_at a e s next other at to too = (Decides-int_eq (m.reward a s next) (m.reward a s other)).0 (holds_over_at m.sizes _ (holds_over_at m.sizes _ (holds_over_at m.sizes _ e s at) next to) other too)

  pub ignores_next_all : (a : ℕ) → ((s next other : State) → IsPoint m.sizes s → IsPoint m.sizes next → IsPoint m.sizes other → m.reward a s next ≡ m.reward a s other) → ignores_next m a ≡ true
  unfolding ignores_next
  ignores_next_all a h = holds_over_all m.sizes _ (λ s at. holds_over_all m.sizes _ (λ next to. holds_over_all m.sizes _ (λ other too. (Decides-int_eq (m.reward a s next) (m.reward a s other)).1 (h s next other at to too))))

  -- ---- the least and the greatest reward are those of some action, state and next state
  pub least_reward_reached : 0 < m.actions → 0 < count_of m.sizes → IsReached m (least_reward m)
  unfolding least_reward
  least_reward_reached acts states =
      let (a, known, e) = least_reached m.actions (λ a. least_over m.sizes (λ s. least_over m.sizes (m.reward a s))) acts in
      let (s, at, f) = least_over_reached m.sizes (λ s. least_over m.sizes (m.reward a s)) states in
      let (next, to, g) = least_over_reached m.sizes (m.reward a s) states in
      (a, s, next, known, at, to, g ∙ f ∙ e)

  pub greatest_reward_reached : 0 < m.actions → 0 < count_of m.sizes → IsReached m (greatest_reward m)
  unfolding greatest_reward
  greatest_reward_reached acts states =
      let (a, known, e) = greatest_reached m.actions (λ a. greatest_over m.sizes (λ s. greatest_over m.sizes (m.reward a s))) acts in
      let (s, at, f) = greatest_over_reached m.sizes (λ s. greatest_over m.sizes (m.reward a s)) states in
      let (next, to, g) = greatest_over_reached m.sizes (m.reward a s) states in
      (a, s, next, known, at, to, g ∙ f ∙ e)

  -- a number that no reward is below, and that some reward is, is the least
  pub least_reward_is : (z : ℤ) → 0 < m.actions → 0 < count_of m.sizes → AreRewards m (λ r. z ≤ℤ r) → IsReached m z → least_reward m ≡ z
  least_reward_is z acts states low (a, s, next, known, at, to, e) =
      let (b, t, other, known', at', to', f) = least_reward_reached acts states in
      same_from (≤ℤ_trans (reward_from a s next known at to) (le_same e)) (≤ℤ_trans (low b t other known' at' to') (le_same f))

  pub greatest_reward_is : (z : ℤ) → 0 < m.actions → 0 < count_of m.sizes → AreRewards m (λ r. r ≤ℤ z) → IsReached m z → greatest_reward m ≡ z
  greatest_reward_is z acts states high (a, s, next, known, at, to, e) =
      let (b, t, other, known', at', to', f) = greatest_reward_reached acts states in
      same_from (≤ℤ_trans (le_same (sym f)) (high b t other known' at' to')) (≤ℤ_trans (le_same (sym e)) (reward_to a s next known at to))

  -- ---- the magnitudes of the least return and the top, where the discount is at most 0.999
  module _ (lawful : IsLawful m) (states : 0 < count_of m.sizes) (small : m.discount ≤ 999000000) (r : ℕ) where
    thousandfold : q * r ≤ (q - m.discount) * (1000 * r)
    unfolding q
    thousandfold = let part : 1000000 * (1000 * r) ≤ (1000000000 - m.discount) * (1000 * r) = mul-le-mul_right (1000 * r) (omega (arith)) in omega (arith, part)

    pub least_return_bound : AreRewards m (λ z. neg_ℤ (pos r) ≤ℤ z) → neg_ℤ (pos (1000 * r)) ≤ℤ least_return m
    unfolding least_return
    least_return_bound low =
        let (a, s, next, known, at, to, e) = least_reward_reached lawful.some_action states in
        floor_most _ _ (q - m.discount) (omega (arith, lawful.discounts))
        (let reached = times_mono q (neg_ℤ (pos r)) (least_reward m) (≤ℤ_trans (low a s next known at to) (le_same e)) in
        omega (arith, ints, reached, thousandfold, turned q r, turned (q - m.discount) (1000 * r)))

    pub top_bound : AreRewards m (λ z. z ≤ℤ pos r) → top m ≤ℤ pos (1000 * r)
    unfolding top
    top_bound high =
        let (a, s, next, known, at, to, e) = greatest_reward_reached lawful.some_action states in
        ceiling_least _ _ (q - m.discount) (omega (arith, lawful.discounts))
        (let reached = times_mono q (greatest_reward m) (pos r) (≤ℤ_trans (le_same (sym e)) (high a s next known at to)) in
        omega (arith, ints, reached, thousandfold))

pub range_is : (m : Model) → IsLawful m → 0 < count_of m.sizes → IsExactRange m
unfolding least_return top
range_is m lawful states = record {
  lowest = reward_from m;
  lowest_reached = least_reward_reached m lawful.some_action states;
  highest = reward_to m;
  highest_reached = greatest_reward_reached m lawful.some_action states;
  least_rounded = (floor_below _ _ some, floor_above _ _ some);
  top_rounded = (ceiling_above _ _ some, ceiling_below _ _ some);
  ordered = least_return-le-top m lawful;
  stays_above = least_low m lawful;
  stays_below = top_high m lawful;
}
  where
    some : 0 < q - m.discount
    some = omega (arith, lawful.discounts)
