-- The backup against the exact backup.
use Rattle.std.proofs.Common.{negsuc, ◌≡◌, ℕ, zero, suc, ◌+◌, ◌*◌, ◌^◌, ◌<◌, ◌≤◌, List, [], ◌∷◌, length, refl, sym, ap, ◌∙◌, subst, arith}
use Rattle.std.specs.Prelude.{ℤ, pos, ◌+ℤ◌, ◌≤ℤ◌, All}
use Rattle.std.specs.List.{range_with_len}
use Rattle.std.proofs.lemmas.Int.{ints}
use Rattle.std.proofs.lemmas.Nat.{mul-le, pow-add}
use Rattle.std.proofs.lemmas.List.FromFn.{get_or-range_with_len, length-range_with_len}
use Rattle.std.proofs.Math.Nat.{zero-add, mul_comm, pow-suc, pow-zero, mul-le-mul_right}
use Rattle.std.proofs.Math.IntN.{zero-*ℤ, +ℤ_idr}
use lib.Signed.{≤ℤ_refl}
use Rattle.sp_theory.specs.Sums.{times, floor, sum_below}
use Rattle.sp_theory.specs.Points.{IsPoint, count_of, sum_over}
use Rattle.sp_theory.specs.Draws.{q, Draws, after, AreProbabilitiesWhole, chance, mean, floored_expectation, thinned}
use Rattle.sp_theory.specs.Model.{Vector, Model, IsLawful, least_return, divisions}
use Rattle.sp_theory.specs.Step.{LinkedVectors, step, expected_reward, expected_links, exact_step}
use Rattle.sp_theory.specs.Values.{greatest, Weights, leaf_member, Edition, dot, total}
use Rattle.sp_theory.specs.Backup.{estimate, link_at, candidate, choice, exact_estimate, exact_link, exact_worth, exact_backup, tick_bound}
use Rattle.sp_theory.proofs.Whole.{times-add, add-times, times-times, times-one, times-zero, times_mono, floor_below, floor_above, ≤ℤ_trans, sum_below_same}
use Rattle.sp_theory.proofs.Weighing.{q_pos, le_same, times-swap, sum_over_same, sum_over_mono, sum_over-add, sum_over-times, two_low, two_high}
use Rattle.sp_theory.proofs.Steps.{q-divisions, step_low, step_high}
use Rattle.sp_theory.proofs.Order.{by_order, add_left_mono, add_right_mono}
use Rattle.sp_theory.proofs.Greatest.{greatest_case, greatest_among, greatest_high, dot_mono}

-- ---- sums
pub sum_over-zero : (ks : List ℕ) → sum_over ks (λ xs. pos 0) ≡ pos 0
sum_over-zero ks = sum_over-times ks 0 (λ xs. pos 0) ∙ zero-*ℤ (sum_over ks (λ xs. pos 0))

pub sum_over-constant : (ks : List ℕ) (z : ℤ) → sum_over ks (λ xs. z) ≡ times (count_of ks) z
unfolding sum_over sum_below
sum_over-constant [] z = sym (times-one z)
sum_over-constant (k ∷ ks) z = sum_below_same k _ _ (λ x less. sum_over-constant ks z) ∙ constant k (times (count_of ks) z) ∙ sym (times-times k (count_of ks) z)
  where
    constant : (k : ℕ) (z : ℤ) → sum_below k (λ x. z) ≡ times k z
    constant zero z = sym (zero-*ℤ z)
    constant (suc k) z = ap (λ (t : ℤ). t +ℤ z) (constant k z) ∙ omega (arith, ints)

pub sum_below-sum_over : (k : ℕ) (js : List ℕ) (f : ℕ → List ℕ → ℤ) → sum_below k (λ x. sum_over js (f x)) ≡ sum_over js (λ ys. sum_below k (λ x. f x ys))
unfolding sum_below
sum_below-sum_over zero js f = sym (sum_over-zero js)
sum_below-sum_over (suc k) js f = ap (λ (t : ℤ). t +ℤ sum_over js (f k)) (sum_below-sum_over k js f) ∙ sym (sum_over-add js (λ ys. sum_below k (λ x. f x ys)) (f k))

pub sum_over-swap : (ks js : List ℕ) (f : List ℕ → List ℕ → ℤ) → sum_over ks (λ xs. sum_over js (f xs)) ≡ sum_over js (λ ys. sum_over ks (λ xs. f xs ys))
unfolding sum_over
sum_over-swap [] js f = refl
sum_over-swap (k ∷ ks) js f = sum_below_same k _ _ (λ x less. sum_over-swap ks js (λ xs. f (x ∷ xs))) ∙ sum_below-sum_over k js (λ x ys. sum_over ks (λ xs. f (x ∷ xs) ys))

-- ---- sums at weights
module _ (m : Model) (w : Weights) where
  pub dot-add : (u v : Vector) → dot m w (λ s. u s +ℤ v s) ≡ dot m w u +ℤ dot m w v
  unfolding dot
  dot-add u v = sum_over_same m.sizes _ _ (λ s p. times-add (w s) (u s) (v s)) ∙ sum_over-add m.sizes _ _

  pub dot-times : (n : ℕ) (v : Vector) → dot m w (λ s. times n (v s)) ≡ times n (dot m w v)
  unfolding dot
  dot-times n v = sum_over_same m.sizes _ _ (λ s p. times-swap (w s) n (v s)) ∙ sum_over-times m.sizes n _

  pub dot-constant : (n : ℕ) → dot m w (λ s. pos n) ≡ times n (total m w)
  unfolding dot
  dot-constant n = sum_over_same m.sizes _ _ (λ s p. ap pos (omega arith)) ∙ sum_over-times m.sizes n (λ s. times (w s) (pos 1))

  pub dot-sum_over : (js : List ℕ) (f : List ℕ → Vector) → dot m w (λ s. sum_over js (λ ys. f ys s)) ≡ sum_over js (λ ys. dot m w (f ys))
  unfolding dot
  dot-sum_over js f = sum_over_same m.sizes _ _ (λ s p. sym (sum_over-times js (w s) (λ ys. f ys s))) ∙ sum_over-swap m.sizes js (λ s ys. times (w s) (f ys s))

pub mean-sum_over : (ks : List ℕ) (d : Draws) (js : List ℕ) (f : List ℕ → List ℕ → ℤ) → mean ks d (λ xs. sum_over js (λ ys. f ys xs)) ≡ sum_over js (λ ys. mean ks d (f ys))
mean-sum_over ks d js f = sum_over_same ks _ _ (λ s p. sym (sum_over-times js (chance d s) (λ ys. f ys s))) ∙ sum_over-swap ks js (λ s ys. times (chance d s) (f ys s))

-- ---- multiplying by chances one after another
pub thinned_low : (d : Draws) (xs : List ℕ) (z : ℤ) → times (q ^ length xs) (thinned d xs z) ≤ℤ times (chance d xs) z
unfolding thinned chance
thinned_low d [] z = le_same (ap (λ (t : ℕ). times t z) (pow-zero q))
thinned_low d (x ∷ xs) z =
    ≤ℤ_trans (le_same (power (thinned (after x d) xs part)))
    (≤ℤ_trans (times_mono q _ _ (thinned_low (after x d) xs part))
    (≤ℤ_trans (le_same (times-swap q (chance (after x d) xs) part))
    (≤ℤ_trans (times_mono (chance (after x d) xs) _ _ (floor_below (times (d [] x) z) q q_pos))
    (le_same (sym (ap (λ (t : ℕ). times t z) (mul_comm (d [] x) (chance (after x d) xs)) ∙ times-times (chance (after x d) xs) (d [] x) z))))))
  where
    part : ℤ
    part = floor (times (d [] x) z) q

    power : (y : ℤ) → times (q ^ suc (length xs)) y ≡ times q (times (q ^ length xs) y)
    power y = ap (λ (t : ℕ). times t y) (pow-suc q (length xs) ∙ mul_comm (q ^ length xs) q) ∙ times-times q (q ^ length xs) y

-- a chance of a whole row is at most one
sum_from_zero : (k : ℕ) (f : ℕ → ℕ) → pos 0 ≤ℤ sum_below k (λ y. pos (f y))
unfolding sum_below
sum_from_zero zero f = ≤ℤ_refl (pos 0)
sum_from_zero (suc k) f = let first = sum_from_zero k f in omega (arith, ints)

pub chance_part : (k : ℕ) (f : ℕ → ℕ) (x : ℕ) → x < k → pos (f x) ≤ℤ sum_below k (λ y. pos (f y))
unfolding sum_below
chance_part zero f x less = absurd (omega arith)
chance_part (suc k) f x less =
    by_order x k (λ before. let part = chance_part k f x before in omega (arith, ints))
    (λ last. let first = sum_from_zero k f in let same = ap f last in omega (arith, ints))
    (λ past. absurd (omega arith))

pub chance_most : (ks : List ℕ) (d : Draws) (xs : List ℕ) → AreProbabilitiesWhole ks d → IsPoint ks xs → chance d xs ≤ q ^ length xs
unfolding chance
chance_most [] d [] whole p = omega (arith, pow-zero q)
chance_most (k ∷ ks) d (x ∷ xs) whole (less, p) =
    let part = chance_part k (d []) x less in
    let one : d [] x ≤ q = omega (arith, ints, part, whole.0) in
    let all = mul-le (d [] x) (chance (after x d) xs) q (q ^ length xs) one (chance_most ks (after x d) xs (whole.1 x less) p) in
    omega (arith, all, pow-suc q (length xs))
chance_most [] d (x ∷ xs) whole p = absurd p
chance_most (k ∷ ks) d [] whole p = absurd p

pub thinned_high : (ks : List ℕ) (d : Draws) (xs : List ℕ) (z : ℤ) → AreProbabilitiesWhole ks d → IsPoint ks xs → times (chance d xs) z ≤ℤ times (q ^ length xs) (thinned d xs z +ℤ pos (length xs))
unfolding thinned chance
thinned_high [] d [] z whole p = le_same (sym (ap (λ (t : ℕ). times t (z +ℤ pos 0)) (pow-zero q) ∙ ap (times 1) (+ℤ_idr z)))
thinned_high (k ∷ ks) d (x ∷ xs) z whole (less, p) =
    ≤ℤ_trans (le_same (ap (λ (t : ℕ). times t z) (mul_comm (d [] x) (chance (after x d) xs)) ∙ times-times (chance (after x d) xs) (d [] x) z))
    (≤ℤ_trans (times_mono (chance (after x d) xs) _ (times q (part +ℤ pos 1)) (let above = floor_above (times (d [] x) z) q q_pos in omega (arith, ints)))
    (≤ℤ_trans (le_same (times-swap (chance (after x d) xs) q (part +ℤ pos 1)))
    (≤ℤ_trans (times_mono q _ _ (inside (thinned_high ks (after x d) xs part (whole.1 x less) p)))
    (le_same (sym (ap (λ (t : ℕ). times t (rest +ℤ pos (suc (length xs)))) (pow-suc q (length xs) ∙ mul_comm (q ^ length xs) q) ∙ times-times q (q ^ length xs) _))))))
  where
    part : ℤ
    part = floor (times (d [] x) z) q

    rest : ℤ
    rest = thinned (after x d) xs part

    inside : times (chance (after x d) xs) part ≤ℤ times (q ^ length xs) (rest +ℤ pos (length xs)) → times (chance (after x d) xs) (part +ℤ pos 1) ≤ℤ times (q ^ length xs) (rest +ℤ pos (suc (length xs)))
    inside low =
        let split = times-add (chance (after x d) xs) part (pos 1) in
        let most = chance_most ks (after x d) xs (whole.1 x less) p in
        let one = times-add (q ^ length xs) rest (pos (length xs)) in
        let two = times-add (q ^ length xs) rest (pos (suc (length xs))) in
        omega (arith, ints, low, split, most, one, two)
thinned_high [] d (x ∷ xs) z whole p = absurd p
thinned_high (k ∷ ks) d [] z whole p = absurd p

pub length-point : (ks xs : List ℕ) → IsPoint ks xs → length xs ≡ length ks
length-point [] [] p = refl
length-point (k ∷ ks) (x ∷ xs) (less, p) = ap suc (length-point ks xs p)
length-point [] (x ∷ xs) p = absurd p
length-point (k ∷ ks) [] p = absurd p

pub factor_mono : (g n : ℕ) (z : ℤ) → g ≤ n → pos 0 ≤ℤ z → times g z ≤ℤ times n z
factor_mono g n (pos a) h low = let e = mul-le-mul_right a h in omega (arith, ints)
factor_mono g n (negsuc a) h low = absurd (omega (arith, ints))

pub dot_from_zero : (m : Model) (w : Weights) → pos 0 ≤ℤ total m w
unfolding dot
dot_from_zero m w = ≤ℤ_trans (le_same (sym (sum_over-zero m.sizes))) (sum_over_mono m.sizes _ _ (λ s p. omega (arith, ints)))

pub lifted : (i j g : ℕ) (z : ℤ) → times (q ^ j) (times (q ^ i) (times g z)) ≡ times g (times (q ^ j) (times (q ^ i) z))
lifted i j g z = ap (times (q ^ j)) (times-swap (q ^ i) g z) ∙ times-swap (q ^ j) g (times (q ^ i) z)

module _ (m : Model) (lawful : IsLawful m) (w : Weights) (a : ℕ) (known : a < m.actions) where
  abbrev pub draws : ℕ
  draws = length m.sizes + length m.sight_sizes

  abbrev weight : ℤ
  weight = total m w

  abbrev raised : ℤ → ℤ
  raised z = times (q ^ length m.sight_sizes) (times (q ^ length m.sizes) z)

  raised_mono : (y z : ℤ) → y ≤ℤ z → raised y ≤ℤ raised z
  raised_mono y z h = times_mono (q ^ length m.sight_sizes) _ _ (times_mono (q ^ length m.sizes) _ _ h)

  raised-add : (y z : ℤ) → raised (y +ℤ z) ≡ raised y +ℤ raised z
  raised-add y z = ap (times (q ^ length m.sight_sizes)) (times-add (q ^ length m.sizes) y z) ∙ times-add (q ^ length m.sight_sizes) _ _

  dot-raised : (v : Vector) → dot m w (λ s. raised (v s)) ≡ raised (dot m w v)
  dot-raised v = dot-times m w (q ^ length m.sight_sizes) (λ s. times (q ^ length m.sizes) (v s)) ∙ ap (times (q ^ length m.sight_sizes)) (dot-times m w (q ^ length m.sizes) v)

  module _ (seen : List ℕ) (at : IsPoint m.sight_sizes seen) where
    pub estimate_low : (v : Vector) → raised (estimate m w a seen v) ≤ℤ exact_estimate m w a seen v
    unfolding estimate exact_estimate
    estimate_low v =
        ≤ℤ_trans (le_same (sym (dot-raised (λ s. floored_expectation m.sizes (m.moves a s) (λ next. thinned (m.sights a next) seen (v next))))))
        (dot_mono m w _ _ (λ s p. two_low m.sizes (m.moves a s) (length m.sight_sizes) _ _ (λ next n. subst (λ (k : ℕ). times (q ^ k) (thinned (m.sights a next) seen (v next)) ≤ℤ times (chance (m.sights a next) seen) (v next)) (length-point m.sight_sizes seen at) (thinned_low (m.sights a next) seen (v next)))))

    pub estimate_high : (v : Vector) → exact_estimate m w a seen v ≤ℤ raised (estimate m w a seen v +ℤ times draws weight)
    unfolding estimate exact_estimate
    estimate_high v =
        ≤ℤ_trans (dot_mono m w _ (λ s. raised (floored s +ℤ pos draws)) (λ s p. two_high m.sizes (m.moves a s) (length m.sight_sizes) _ _ (lawful.moves_whole a s known p) (λ next n. subst (λ (k : ℕ). times (chance (m.sights a next) seen) (v next) ≤ℤ times (q ^ k) (thinned (m.sights a next) seen (v next) +ℤ pos k)) (length-point m.sight_sizes seen at) (thinned_high m.sight_sizes (m.sights a next) seen (v next) (lawful.sights_whole a next known n) at))))
        (le_same (dot-raised (λ s. floored s +ℤ pos draws) ∙ ap raised (dot-add m w floored (λ s. pos draws) ∙ ap (λ (t : ℤ). dot m w floored +ℤ t) (dot-constant m w draws))))
      where
        floored : Vector
        floored s = floored_expectation m.sizes (m.moves a s) (λ next. thinned (m.sights a next) seen (v next))

    module _ (edition : Edition) (some : 0 < length edition) where
      pub link_less : exact_estimate m w a seen (link_at m edition w a seen).vector ≤ℤ exact_estimate m w a seen (exact_link m edition w a seen).vector
      unfolding link_at exact_link
      link_less = greatest_among (λ x. estimate m w a seen x.vector) (λ x. x.id) (λ z. exact_estimate m w a seen z.vector ≤ℤ exact_estimate m w a seen (exact_link m edition w a seen).vector) (leaf_member m) edition some (greatest_high (λ x. exact_estimate m w a seen x.vector) (λ x. x.id) (leaf_member m) edition)

      pub link_close : exact_estimate m w a seen (exact_link m edition w a seen).vector ≤ℤ (exact_estimate m w a seen (link_at m edition w a seen).vector +ℤ raised (times draws weight))
      unfolding link_at exact_link
      link_close =
          let best : estimate m w a seen (exact_link m edition w a seen).vector ≤ℤ estimate m w a seen (link_at m edition w a seen).vector = greatest_among (λ x. exact_estimate m w a seen x.vector) (λ x. x.id) (λ z. estimate m w a seen z.vector ≤ℤ estimate m w a seen (link_at m edition w a seen).vector) (leaf_member m) edition some (greatest_high (λ x. estimate m w a seen x.vector) (λ x. x.id) (leaf_member m) edition) in
          ≤ℤ_trans (estimate_high (exact_link m edition w a seen).vector)
          (≤ℤ_trans (raised_mono _ _ (add_right_mono _ _ (times draws weight) best))
          (≤ℤ_trans (le_same (raised-add (estimate m w a seen (link_at m edition w a seen).vector) (times draws weight)))
          (add_right_mono _ _ (raised (times draws weight)) (estimate_low (link_at m edition w a seen).vector))))

  pub dot-exact_step : (links : LinkedVectors) → dot m w (exact_step m a links) ≡ times (q ^ suc (length m.sight_sizes)) (dot m w (expected_reward m a)) +ℤ times m.discount (sum_over m.sight_sizes (λ seen. exact_estimate m w a seen (links seen)))
  unfolding exact_step exact_estimate
  dot-exact_step links =
      dot-add m w (λ s. times (q ^ suc (length m.sight_sizes)) (expected_reward m a s)) (λ s. times m.discount (expected_links m a links s))
      ∙ (λ h. dot-times m w (q ^ suc (length m.sight_sizes)) (expected_reward m a) h +ℤ dot-times m w m.discount (expected_links m a links) h)
      ∙ ap (λ (t : ℤ). times (q ^ suc (length m.sight_sizes)) (dot m w (expected_reward m a)) +ℤ times m.discount t)
      (ap (λ (v : Vector). dot m w v) (λ h s. mean-sum_over m.sizes (m.moves a s) m.sight_sizes (λ seen next. times (chance (m.sights a next) seen) (links seen next)) h)
      ∙ dot-sum_over m w m.sight_sizes (λ seen s. mean m.sizes (m.moves a s) (λ next. times (chance (m.sights a next) seen) (links seen next))))

  module _ (edition : Edition) (some : 0 < length edition) (ranged : All (λ x. (s : List ℕ) → IsPoint m.sizes s → least_return m ≤ℤ x.vector s) edition) where
    abbrev links : LinkedVectors
    links seen = (link_at m edition w a seen).vector

    linked : (seen next : List ℕ) → IsPoint m.sight_sizes seen → IsPoint m.sizes next → least_return m ≤ℤ links seen next
    unfolding link_at
    linked seen next o n = greatest_among (λ x. estimate m w a seen x.vector) (λ x. x.id) (λ z. (s : List ℕ) → IsPoint m.sizes s → least_return m ≤ℤ z.vector s) (leaf_member m) edition some ranged next n

    pub worth_low : times (q ^ divisions m) (dot m w (candidate m edition w a)) ≤ℤ exact_worth m edition w a
    unfolding candidate exact_worth
    worth_low =
        ≤ℤ_trans (le_same (sym (dot-times m w (q ^ divisions m) (step m a links))))
        (≤ℤ_trans (dot_mono m w _ (exact_step m a links) (λ s p. step_low m lawful a known s p links linked))
        (≤ℤ_trans (le_same (dot-exact_step links))
        (add_left_mono (times (q ^ suc (length m.sight_sizes)) (dot m w (expected_reward m a))) _ _ (times_mono m.discount _ _ (sum_over_mono m.sight_sizes _ _ (λ seen o. link_less seen o edition some))))))

    -- what the links lose, for each joint observation
    loss : ℤ
    loss = times (count_of m.sight_sizes) (raised (times draws weight))

    loss_from_zero : pos 0 ≤ℤ loss
    unfolding loss
    loss_from_zero = from_zero (count_of m.sight_sizes) _ (from_zero (q ^ length m.sight_sizes) _ (from_zero (q ^ length m.sizes) _ (from_zero draws _ (dot_from_zero m w))))
      where
        from_zero : (n : ℕ) (z : ℤ) → pos 0 ≤ℤ z → pos 0 ≤ℤ times n z
        from_zero n z h = ≤ℤ_trans (le_same (sym (times-zero n))) (times_mono n (pos 0) z h)

    loss-raised : times q loss ≡ times (q ^ divisions m) (times (count_of m.sight_sizes) (times draws weight))
    unfolding loss
    loss-raised = ap (times q) (sym (lifted (length m.sizes) (length m.sight_sizes) (count_of m.sight_sizes) (times draws weight))) ∙ sym (lifted (length m.sizes) (length m.sight_sizes) q (times (count_of m.sight_sizes) (times draws weight))) ∙ sym (q-divisions (length m.sizes) (length m.sight_sizes) _)

    futures_close : sum_over m.sight_sizes (λ seen. exact_estimate m w a seen (exact_link m edition w a seen).vector) ≤ℤ (sum_over m.sight_sizes (λ seen. exact_estimate m w a seen (links seen)) +ℤ loss)
    unfolding loss
    futures_close =
        ≤ℤ_trans (sum_over_mono m.sight_sizes _ (λ seen. exact_estimate m w a seen (links seen) +ℤ raised (times draws weight)) (λ seen o. link_close seen o edition some))
        (le_same (sum_over-add m.sight_sizes (λ seen. exact_estimate m w a seen (links seen)) (λ seen. raised (times draws weight)) ∙ ap (λ (t : ℤ). sum_over m.sight_sizes (λ seen. exact_estimate m w a seen (links seen)) +ℤ t) (sum_over-constant m.sight_sizes (raised (times draws weight)))))

    pub worth_high : exact_worth m edition w a ≤ℤ times (q ^ divisions m) (dot m w (candidate m edition w a) +ℤ times (tick_bound m) weight)
    unfolding candidate exact_worth
    worth_high =
        let futures = times_mono m.discount _ _ futures_close in
        let split = times-add m.discount (sum_over m.sight_sizes (λ seen. exact_estimate m w a seen (links seen))) loss in
        let lost = factor_mono m.discount q loss (omega (arith, lawful.discounts)) loss_from_zero in
        let steps = dot_mono m w (exact_step m a links) _ (λ s p. step_high m lawful a known s p links) in
        let one = dot-exact_step links in
        let two = dot-times m w (q ^ divisions m) (λ s. step m a links s +ℤ pos (divisions m)) ∙ ap (times (q ^ divisions m)) (dot-add m w (step m a links) (λ s. pos (divisions m)) ∙ ap (λ (t : ℤ). dot m w (step m a links) +ℤ t) (dot-constant m w (divisions m))) in
        let sum = times-add (q ^ divisions m) (dot m w (step m a links) +ℤ times (divisions m) weight) (times (count_of m.sight_sizes) (times draws weight)) in
        let all = ap (times (q ^ divisions m)) (together (dot m w (step m a links)) weight) in
        omega (arith, futures, split, lost, steps, one, two, sum, all, loss-raised, ints)
      where
        together : (x t : ℤ) → x +ℤ times (divisions m) t +ℤ times (count_of m.sight_sizes) (times draws t) ≡ x +ℤ times (tick_bound m) t
        together x t =
            ap (λ (y : ℤ). x +ℤ times (divisions m) t +ℤ y) (sym (times-times (count_of m.sight_sizes) draws t))
            ∙ regroup x (times (divisions m) t) (times (count_of m.sight_sizes * draws) t)
            ∙ ap (λ (y : ℤ). x +ℤ y) (sym (add-times (divisions m) (count_of m.sight_sizes * draws) t) ∙ ap (λ (n : ℕ). times n t) counted)
          where
            regroup : (a b c : ℤ) → a +ℤ b +ℤ c ≡ a +ℤ (b +ℤ c)
            regroup a b c = omega (arith, ints)

            counted : divisions m + count_of m.sight_sizes * draws ≡ tick_bound m
            counted = omega arith

-- ---- the law of the backup
pub in_range : (P : ℕ → Type 0) (n a : ℕ) → a < n → All P (range_with_len 0 n) → P a
in_range P n a less all = subst P (get_or-range_with_len 0 n a 0 less ∙ zero-add a) (all a 0 (omega (arith, length-range_with_len 0 n)))

pub range_below : (n : ℕ) → All (λ a. a < n) (range_with_len 0 n)
range_below n k d less = omega (arith, get_or-range_with_len 0 n k d (omega (arith, length-range_with_len 0 n)), length-range_with_len 0 n)

module _ (m : Model) (lawful : IsLawful m) (w : Weights) (edition : Edition) (some : 0 < length edition) (ranged : All (λ x. (s : List ℕ) → IsPoint m.sizes s → least_return m ≤ℤ x.vector s) edition) where
  pub backup_low : times (q ^ divisions m) (dot m w (candidate m edition w (choice m edition w))) ≤ℤ exact_backup m edition w
  unfolding exact_backup choice
  backup_low = ≤ℤ_trans (worth_low m lawful w (choice m edition w) known edition some ranged)
      (in_range (λ a. exact_worth m edition w a ≤ℤ exact_backup m edition w) m.actions (choice m edition w) known (greatest_high (exact_worth m edition w) (λ a. a) 0 (range_with_len 0 m.actions)))
    where
      known : choice m edition w < m.actions
      known = greatest_case (λ a. dot m w (candidate m edition w a)) (λ a. a) (λ a. a < m.actions) 0 (range_with_len 0 m.actions) lawful.some_action (range_below m.actions)

  pub backup_high : exact_backup m edition w ≤ℤ times (q ^ divisions m) (dot m w (candidate m edition w (choice m edition w)) +ℤ times (tick_bound m) (total m w))
  unfolding exact_backup choice
  backup_high = ≤ℤ_trans (worth_high m lawful w best known edition some ranged)
      (times_mono (q ^ divisions m) _ _ (add_right_mono _ _ (times (tick_bound m) (total m w))
      (in_range (λ a. dot m w (candidate m edition w a) ≤ℤ dot m w (candidate m edition w (choice m edition w))) m.actions best known (greatest_high (λ a. dot m w (candidate m edition w a)) (λ a. a) 0 (range_with_len 0 m.actions)))))
    where
      best : ℕ
      best = greatest 0 (exact_worth m edition w) (λ a. a) (range_with_len 0 m.actions)

      known : best < m.actions
      known = greatest_case (exact_worth m edition w) (λ a. a) (λ a. a < m.actions) 0 (range_with_len 0 m.actions) lawful.some_action (range_below m.actions)

-- ---- the law of estimates, over one power of q
pub estimate_is : (m : Model) → IsLawful m → (w : Weights) (a : ℕ) → a < m.actions → (seen : List ℕ) → IsPoint m.sight_sizes seen → (v : Vector)
    → (times (q ^ (length m.sizes + length m.sight_sizes)) (estimate m w a seen v) ≤ℤ exact_estimate m w a seen v)
    × (exact_estimate m w a seen v ≤ℤ times (q ^ (length m.sizes + length m.sight_sizes)) (estimate m w a seen v +ℤ times (length m.sizes + length m.sight_sizes) (total m w)))
estimate_is m lawful w a known seen at v = (≤ℤ_trans (le_same (split _)) (estimate_low m lawful w a known seen at v), ≤ℤ_trans (estimate_high m lawful w a known seen at v) (le_same (sym (split _))))
  where
    split : (z : ℤ) → times (q ^ (length m.sizes + length m.sight_sizes)) z ≡ times (q ^ length m.sight_sizes) (times (q ^ length m.sizes) z)
    split z = ap (λ (t : ℕ). times t z) (pow-add q (length m.sizes) (length m.sight_sizes)) ∙ times-times (q ^ length m.sizes) (q ^ length m.sight_sizes) z ∙ times-swap (q ^ length m.sizes) (q ^ length m.sight_sizes) z
