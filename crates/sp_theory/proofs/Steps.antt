-- The floored one-step value against the exact one.
use Rattle.std.proofs.Common.{◌≡◌, ℕ, suc, ◌+◌, ◌*◌, ◌^◌, ◌<◌, ◌≤◌, List, length, refl, sym, ap, ◌∙◌, arith, Bool, true, false, cond}
use Rattle.std.specs.Prelude.{ℤ, pos, ◌+ℤ◌, ◌≤ℤ◌}
use Rattle.std.specs.Int.{int_max}
use Rattle.std.proofs.lemmas.Int.{ints}
use Rattle.std.proofs.lemmas.Nat.{pow-add}
use Rattle.std.proofs.Math.Nat.{mul-le-mul_right, pow-suc, pow-zero, one-mul}
use Rattle.sp_theory.specs.Sums.{times, floor}
use Rattle.sp_theory.specs.Points.{IsPoint}
use Rattle.sp_theory.specs.Draws.{q, AreProbabilitiesWhole, mean, floored_expectation}
use Rattle.sp_theory.specs.Model.{Model, State, IsLawful, least_return, top, ignores_next, divisions}
use Rattle.sp_theory.specs.Step.{LinkedVectors, value_of_links, discounted_value, step, expected_reward, expected_links, exact_step}
use Rattle.sp_theory.proofs.Whole.{times-add, times-times, times_mono, floor_below, floor_above, ≤ℤ_trans, times_cancel_le}
use Rattle.sp_theory.proofs.Order.{max_case, int_max_left, int_max_right, add_left_mono, add_right_mono}
use Rattle.sp_theory.proofs.Weighing.{q_pos, le_same, times-swap, mean_same, mean_mono, mean-times, mean-add, mean-constant, weighed_low, weighed_high, weighed_same, weighed_to, two_low, two_high}
use Rattle.sp_theory.proofs.Range.{least_low, top_high, least_return-le-top, ignores_next_at}

-- ---- powers of q
pub q-divisions : (i j : ℕ) (z : ℤ) → times (q ^ (i + j + 1)) z ≡ times (q ^ j) (times (q ^ i) (times q z))
q-divisions i j z = ap (λ (t : ℕ). times t z) (pow-add q (i + j) 1 ∙ ap (λ (t : ℕ). t * q ^ 1) (pow-add q i j) ∙ ap (λ (t : ℕ). q ^ i * q ^ j * t) (pow-suc q 0 ∙ ap (λ (t : ℕ). t * q) (pow-zero q) ∙ one-mul q)) ∙ times-times (q ^ i * q ^ j) q z ∙ times-times (q ^ i) (q ^ j) (times q z) ∙ times-swap (q ^ i) (q ^ j) (times q z)

pub q-divisions-suc : (i j : ℕ) (z : ℤ) → times (q ^ (i + j + 1)) z ≡ times (q ^ suc j) (times (q ^ i) z)
q-divisions-suc i j z = let e : i + j + 1 ≡ suc j + i = omega arith in ap (λ (t : ℕ). times (q ^ t) z) e ∙ ap (λ (t : ℕ). times t z) (pow-add q (suc j) i) ∙ times-times (q ^ suc j) (q ^ i) z

pub q-suc : (j : ℕ) (z : ℤ) → times (q ^ suc j) z ≡ times (q ^ j) (times q z)
q-suc j z = ap (λ (t : ℕ). times t z) (pow-suc q j) ∙ times-times (q ^ j) q z

turned : (i j g : ℕ) (z : ℤ) → times (q ^ j) (times (q ^ i) (times g z)) ≡ times g (times (q ^ j) (times (q ^ i) z))
turned i j g z = ap (times (q ^ j)) (times-swap (q ^ i) g z) ∙ times-swap (q ^ j) g (times (q ^ i) z)

regroup : (a b c : ℤ) → a +ℤ b +ℤ c ≡ a +ℤ (b +ℤ c)
regroup a b c = omega (arith, ints)

-- ---- reward and discount after both weighings
module _ (i j g : ℕ) (r out future : ℤ) where
  gain_low : times (q ^ j) (times (q ^ i) out) ≤ℤ future → times (q ^ (i + j + 1)) (r +ℤ floor (times g out) q) ≤ℤ (times (q ^ (i + j + 1)) r +ℤ times g future)
  gain_low h =
      let parts = times-add (q ^ (i + j + 1)) r (floor (times g out) q) in
      let chain : times (q ^ (i + j + 1)) (floor (times g out) q) ≤ℤ times g future =
      ≤ℤ_trans (le_same (q-divisions i j (floor (times g out) q)))
      (≤ℤ_trans (times_mono (q ^ j) _ _ (times_mono (q ^ i) _ _ (floor_below (times g out) q q_pos)))
      (≤ℤ_trans (le_same (turned i j g out)) (times_mono g _ _ h))) in
      ≤ℤ_trans (le_same parts) (add_left_mono (times (q ^ (i + j + 1)) r) _ _ chain)

  gain_high : g ≤ q → future ≤ℤ times (q ^ j) (times (q ^ i) (out +ℤ pos (i + j))) → (times (q ^ (i + j + 1)) r +ℤ times g future) ≤ℤ times (q ^ (i + j + 1)) (r +ℤ floor (times g out) q +ℤ pos (i + j + 1))
  gain_high small h =
      ≤ℤ_trans (add_left_mono (times (q ^ (i + j + 1)) r) _ _ chain)
      (le_same (sym (ap (times (q ^ (i + j + 1))) (regroup r part (pos (i + j + 1))) ∙ times-add (q ^ (i + j + 1)) r (part +ℤ pos (i + j + 1)))))
    where
      part : ℤ
      part = floor (times g out) q

      inside : times g (out +ℤ pos (i + j)) ≤ℤ times q (part +ℤ pos (i + j + 1))
      inside =
          let above = floor_above (times g out) q q_pos in
          let one = times-add q part (pos 1) in
          let all = times-add q part (pos (i + j + 1)) in
          let split = times-add g out (pos (i + j)) in
          let less = mul-le-mul_right (i + j) small in
          omega (arith, ints, above, one, all, split, less)

      chain : times g future ≤ℤ times (q ^ (i + j + 1)) (part +ℤ pos (i + j + 1))
      chain =
          ≤ℤ_trans (times_mono g _ _ h)
          (≤ℤ_trans (le_same (sym (turned i j g _)))
          (≤ℤ_trans (times_mono (q ^ j) _ _ (times_mono (q ^ i) _ _ inside))
          (le_same (sym (q-divisions i j _)))))

-- ---- reward and discount before the next state is weighed out
module _ (j g : ℕ) (r out seen : ℤ) where
  early_low : times (q ^ j) out ≤ℤ seen → times (q ^ suc j) (r +ℤ floor (times g out) q) ≤ℤ (times (q ^ suc j) r +ℤ times g seen)
  early_low h =
      ≤ℤ_trans (le_same (times-add (q ^ suc j) r (floor (times g out) q)))
      (add_left_mono (times (q ^ suc j) r) _ _
      (≤ℤ_trans (le_same (q-suc j _))
      (≤ℤ_trans (times_mono (q ^ j) _ _ (floor_below (times g out) q q_pos))
      (≤ℤ_trans (le_same (times-swap (q ^ j) g out))
      (times_mono g _ _ h)))))

  early_high : g ≤ q → seen ≤ℤ times (q ^ j) (out +ℤ pos j) → (times (q ^ suc j) r +ℤ times g seen) ≤ℤ times (q ^ suc j) (r +ℤ floor (times g out) q +ℤ pos (suc j))
  early_high small h =
      ≤ℤ_trans (add_left_mono (times (q ^ suc j) r) _ _
      (≤ℤ_trans (times_mono g _ _ h)
      (≤ℤ_trans (le_same (times-swap g (q ^ j) (out +ℤ pos j)))
      (≤ℤ_trans (times_mono (q ^ j) _ _ inside)
      (le_same (sym (q-suc j (floor (times g out) q +ℤ pos (suc j)))))))))
      (le_same (sym (ap (times (q ^ suc j)) (regroup r (floor (times g out) q) (pos (suc j))) ∙ times-add (q ^ suc j) r _)))
    where
      inside : times g (out +ℤ pos j) ≤ℤ times q (floor (times g out) q +ℤ pos (suc j))
      inside =
          let above = floor_above (times g out) q q_pos in
          let one = times-add q (floor (times g out) q) (pos 1) in
          let all = times-add q (floor (times g out) q) (pos (suc j)) in
          let split = times-add g out (pos j) in
          let less : g * j ≤ q * j = mul-le-mul_right j small in
          omega (arith, ints, above, one, all, split, less)

-- ---- the exact step
module _ (m : Model) (a : ℕ) (s : State) where
  pub expected_links_mono : (f g : LinkedVectors) → ((seen next : List ℕ) → IsPoint m.sight_sizes seen → IsPoint m.sizes next → f seen next ≤ℤ g seen next) → expected_links m a f s ≤ℤ expected_links m a g s
  expected_links_mono f g h = mean_mono m.sizes (m.moves a s) _ _ (λ next n. mean_mono m.sight_sizes (m.sights a next) _ _ (λ seen o. h seen next o n))

  pub expected_links-times : (k : ℕ) (f : LinkedVectors) → expected_links m a (λ seen next. times k (f seen next)) s ≡ times k (expected_links m a f s)
  expected_links-times k f = mean_same m.sizes (m.moves a s) _ _ (λ next n. mean-times m.sight_sizes (m.sights a next) k (λ seen. f seen next)) ∙ mean-times m.sizes (m.moves a s) k _

  pub exact_step_mono : (f g : LinkedVectors) → ((seen next : List ℕ) → IsPoint m.sight_sizes seen → IsPoint m.sizes next → f seen next ≤ℤ g seen next) → exact_step m a f s ≤ℤ exact_step m a g s
  unfolding exact_step
  exact_step_mono f g h = add_left_mono (times (q ^ suc (length m.sight_sizes)) (expected_reward m a s)) _ _ (times_mono m.discount _ _ (expected_links_mono f g h))

  -- the same as one expectation over the next state
  exact_joined : (f : LinkedVectors) → exact_step m a f s ≡ mean m.sizes (m.moves a s) (λ next. times (q ^ suc (length m.sight_sizes)) (m.reward a s next) +ℤ times m.discount (mean m.sight_sizes (m.sights a next) (λ seen. f seen next)))
  unfolding exact_step
  exact_joined f = sym (mean-add m.sizes (m.moves a s) (λ next. times (q ^ suc (length m.sight_sizes)) (m.reward a s next)) (λ next. times m.discount (mean m.sight_sizes (m.sights a next) (λ seen. f seen next)))
      ∙ (λ h. mean-times m.sizes (m.moves a s) (q ^ suc (length m.sight_sizes)) (m.reward a s) h +ℤ mean-times m.sizes (m.moves a s) m.discount (λ next. mean m.sight_sizes (m.sights a next) (λ seen. f seen next)) h))

module _ (m : Model) (lawful : IsLawful m) (a : ℕ) (known : a < m.actions) (s : State) (at : IsPoint m.sizes s) where
  abbrev l : ℕ
  l = length m.sight_sizes

  small : m.discount ≤ q
  small = omega (arith, lawful.discounts)

  moved : AreProbabilitiesWhole m.sizes (m.moves a s)
  moved = lawful.moves_whole a s known at

  -- where each link is worth the least return, the exact step is worth at least that
  pub least_step : times (q ^ divisions m) (least_return m) ≤ℤ exact_step m a (λ seen next. least_return m) s
  least_step =
      ≤ℤ_trans (le_same (q-divisions-suc (length m.sizes) l (least_return m) ∙ times-swap (q ^ suc l) (q ^ length m.sizes) (least_return m) ∙ sym (mean-constant m.sizes (m.moves a s) (times (q ^ suc l) (least_return m)) moved)))
      (≤ℤ_trans (mean_mono m.sizes (m.moves a s) _ _ each)
      (le_same (sym (exact_joined m a s (λ seen next. least_return m)))))
    where
      each : (next : List ℕ) → IsPoint m.sizes next → times (q ^ suc l) (least_return m) ≤ℤ (times (q ^ suc l) (m.reward a s next) +ℤ times m.discount (mean m.sight_sizes (m.sights a next) (λ seen. least_return m)))
      each next n =
          ≤ℤ_trans (le_same (q-suc l (least_return m)))
          (≤ℤ_trans (times_mono (q ^ l) _ _ (least_low m lawful a s next known at n))
          (le_same (times-add (q ^ l) (times q (m.reward a s next)) (times m.discount (least_return m))
          ∙ (λ h. sym (q-suc l (m.reward a s next)) h +ℤ (times-swap (q ^ l) m.discount (least_return m) ∙ ap (times m.discount) (sym (mean-constant m.sight_sizes (m.sights a next) (least_return m) (lawful.sights_whole a next known n)))) h))))

  module _ (links : LinkedVectors) where
    -- the two cases of the floored step before the least return is put under them
    late : ℤ
    late = m.reward a s s +ℤ discounted_value m (floored_expectation m.sizes (m.moves a s) (value_of_links m a links))

    early : ℤ
    early = floored_expectation m.sizes (m.moves a s) (λ next. m.reward a s next +ℤ discounted_value m (value_of_links m a links next))

    linked_low : times (q ^ l) (times (q ^ length m.sizes) (floored_expectation m.sizes (m.moves a s) (value_of_links m a links))) ≤ℤ expected_links m a links s
    linked_low = two_low m.sizes (m.moves a s) l _ _ (λ next n. weighed_low m.sight_sizes (m.sights a next) (λ seen. links seen next))

    linked_high : expected_links m a links s ≤ℤ times (q ^ l) (times (q ^ length m.sizes) (floored_expectation m.sizes (m.moves a s) (value_of_links m a links) +ℤ pos (length m.sizes + l)))
    linked_high = two_high m.sizes (m.moves a s) l _ _ moved (λ next n. weighed_high m.sight_sizes (m.sights a next) (λ seen. links seen next) (lawful.sights_whole a next known n))

    -- a reward that ignores the next state is expected exactly
    exact_late : ignores_next m a ≡ true → exact_step m a links s ≡ times (q ^ divisions m) (m.reward a s s) +ℤ times m.discount (expected_links m a links s)
    unfolding exact_step
    exact_late e = ap (λ (z : ℤ). z +ℤ times m.discount (expected_links m a links s))
        (ap (times (q ^ suc l)) (mean_same m.sizes (m.moves a s) (m.reward a s) (λ next. m.reward a s s) (λ next n. ignores_next_at m a e s next s at n at) ∙ mean-constant m.sizes (m.moves a s) (m.reward a s s) moved)
        ∙ sym (q-divisions-suc (length m.sizes) l (m.reward a s s)))

    late_low : ignores_next m a ≡ true → times (q ^ divisions m) late ≤ℤ exact_step m a links s
    unfolding late
    late_low e = ≤ℤ_trans (gain_low (length m.sizes) l m.discount (m.reward a s s) _ _ linked_low) (le_same (sym (exact_late e)))

    late_high : ignores_next m a ≡ true → exact_step m a links s ≤ℤ times (q ^ divisions m) (late +ℤ pos (divisions m))
    unfolding late
    late_high e = ≤ℤ_trans (le_same (exact_late e)) (gain_high (length m.sizes) l m.discount (m.reward a s s) _ _ small linked_high)

    early_is_low : times (q ^ divisions m) early ≤ℤ exact_step m a links s
    unfolding early
    early_is_low =
        ≤ℤ_trans (le_same (q-divisions-suc (length m.sizes) l early))
        (≤ℤ_trans (two_low m.sizes (m.moves a s) (suc l) _ _ (λ next n. early_low l m.discount (m.reward a s next) _ _ (weighed_low m.sight_sizes (m.sights a next) (λ seen. links seen next))))
        (le_same (sym (exact_joined m a s links))))

    early_is_high : exact_step m a links s ≤ℤ times (q ^ divisions m) (early +ℤ pos (divisions m))
    unfolding early
    early_is_high =
        let same : length m.sizes + suc l ≡ divisions m = omega arith in
        ≤ℤ_trans (le_same (exact_joined m a s links))
        (≤ℤ_trans (two_high m.sizes (m.moves a s) (suc l) _ _ moved (λ next n. early_high l m.discount (m.reward a s next) _ _ small (weighed_high m.sight_sizes (m.sights a next) (λ seen. links seen next) (lawful.sights_whole a next known n))))
        (le_same (ap (λ (k : ℕ). times (q ^ suc l) (times (q ^ length m.sizes) (early +ℤ pos k))) same ∙ sym (q-divisions-suc (length m.sizes) l (early +ℤ pos (divisions m))))))

    pub step_low : ((seen next : List ℕ) → IsPoint m.sight_sizes seen → IsPoint m.sizes next → least_return m ≤ℤ links seen next) → times (q ^ divisions m) (step m a links s) ≤ℤ exact_step m a links s
    unfolding step late early
    step_low from = max_case (λ z. times (q ^ divisions m) z ≤ℤ exact_step m a links s) (least_return m) _ (≤ℤ_trans least_step (exact_step_mono m a s (λ seen next. least_return m) links from)) (by_test (ignores_next m a) refl)
      where
        by_test : (b : Bool) → ignores_next m a ≡ b → times (q ^ divisions m) (cond b late early) ≤ℤ exact_step m a links s
        by_test true e = late_low e
        by_test false e = early_is_low

    pub step_high : exact_step m a links s ≤ℤ times (q ^ divisions m) (step m a links s +ℤ pos (divisions m))
    unfolding step late early
    step_high = ≤ℤ_trans (by_test (ignores_next m a) refl) (times_mono (q ^ divisions m) _ _ (add_right_mono _ _ (pos (divisions m)) (int_max_right (least_return m) (cond (ignores_next m a) late early))))
      where
        by_test : (b : Bool) → ignores_next m a ≡ b → exact_step m a links s ≤ℤ times (q ^ divisions m) (cond b late early +ℤ pos (divisions m))
        by_test true e = late_high e
        by_test false e = early_is_high

    -- no vector is above the top, where the links are not
    pub step_to : ((seen next : List ℕ) → IsPoint m.sight_sizes seen → IsPoint m.sizes next → links seen next ≤ℤ top m) → step m a links s ≤ℤ top m
    unfolding step late early
    step_to to = max_case (λ z. z ≤ℤ top m) (least_return m) _ (least_return-le-top m lawful) (by_test (ignores_next m a))
      where
        gained : (r out : ℤ) → (times q r +ℤ times m.discount (top m)) ≤ℤ times q (top m) → out ≤ℤ top m → (r +ℤ discounted_value m out) ≤ℤ top m
        gained r out high below = times_cancel_le q _ (top m) q_pos
            (let parts = times-add q r (floor (times m.discount out) q) in
            let low = floor_below (times m.discount out) q q_pos in
            let more = times_mono m.discount out (top m) below in
            omega (arith, ints, parts, low, more, high))

        linked_to : (next : List ℕ) → IsPoint m.sizes next → value_of_links m a links next ≤ℤ top m
        linked_to next n = weighed_to m.sight_sizes (m.sights a next) _ (top m) (lawful.sights_whole a next known n) (λ seen o. to seen next o n)

        by_test : (b : Bool) → cond b late early ≤ℤ top m
        by_test true = gained (m.reward a s s) _ (top_high m lawful a s s known at at) (weighed_to m.sizes (m.moves a s) _ (top m) moved linked_to)
        by_test false = weighed_to m.sizes (m.moves a s) _ (top m) moved (λ next n. gained (m.reward a s next) _ (top_high m lawful a s next known at n) (linked_to next n))

-- no vector is below the least return
pub step_from : (m : Model) (a : ℕ) (links : LinkedVectors) (s : State) → least_return m ≤ℤ step m a links s
unfolding step
step_from m a links s = int_max_left (least_return m) _

-- equal links give equal vectors
pub step_same : (m : Model) (a : ℕ) (f g : LinkedVectors) (s : State) → ((seen next : List ℕ) → IsPoint m.sight_sizes seen → IsPoint m.sizes next → f seen next ≡ g seen next) → step m a f s ≡ step m a g s
unfolding step
step_same m a f g s h = λ k. int_max (least_return m) (cond (ignores_next m a)
    (m.reward a s s +ℤ discounted_value m (weighed_same m.sizes (m.moves a s) _ _ same k))
    (weighed_same m.sizes (m.moves a s) _ _ (λ next n. ap (λ (z : ℤ). m.reward a s next +ℤ discounted_value m z) (same next n)) k))
  where
    same : (next : List ℕ) → IsPoint m.sizes next → value_of_links m a f next ≡ value_of_links m a g next
    same next n = weighed_same m.sight_sizes (m.sights a next) _ _ (λ seen o. h seen next o n)
