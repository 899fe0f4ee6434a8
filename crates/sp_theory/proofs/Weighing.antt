-- Weighing out against the exact weighted sum.
use Rattle.std.proofs.Common.{◌≡◌, ℕ, zero, suc, ◌^◌, ◌+◌, ◌<◌, List, [], ◌∷◌, length, refl, sym, ap, ◌∙◌, arith}
use Rattle.std.specs.Prelude.{ℤ, pos, ◌+ℤ◌, ◌*ℤ◌, ◌≤ℤ◌, ◌<ℤ◌}
use Rattle.std.proofs.lemmas.Int.{ints}
use Rattle.std.proofs.Math.IntN.{zero-*ℤ, +ℤ_idr}
use Rattle.std.proofs.Math.Nat.{mul_comm, pow-zero, pow-suc}
use Rattle.sp_theory.specs.Sums.{times, floor, sum_below}
use Rattle.sp_theory.specs.Points.{IsPoint, sum_over}
use Rattle.sp_theory.specs.Draws.{q, Draws, after, AreProbabilitiesWhole, chance, mean, weigh_out, floored_expectation}
use Rattle.sp_theory.proofs.Whole.{times-add, times-times, times-one, times_mono, floor-times, +ℤ-*ℤ, floor_below, floor_above, floor_mono, ≤ℤ_trans, sum_below_mono, sum_below-add, sum_below-times, sum_below_same}

pub q_pos : 0 < q
unfolding q
q_pos = omega arith

-- ---- sums over all points
pub sum_over_same : (ks : List ℕ) (f g : List ℕ → ℤ) → ((xs : List ℕ) → IsPoint ks xs → f xs ≡ g xs) → sum_over ks f ≡ sum_over ks g
unfolding sum_over
sum_over_same [] f g h = h [] tt
sum_over_same (k ∷ ks) f g h = sum_below_same k _ _ (λ x less. sum_over_same ks _ _ (λ xs p. h (x ∷ xs) (less, p)))

pub sum_over_mono : (ks : List ℕ) (f g : List ℕ → ℤ) → ((xs : List ℕ) → IsPoint ks xs → f xs ≤ℤ g xs) → sum_over ks f ≤ℤ sum_over ks g
unfolding sum_over
sum_over_mono [] f g h = h [] tt
sum_over_mono (k ∷ ks) f g h = sum_below_mono k _ _ (λ x less. sum_over_mono ks _ _ (λ xs p. h (x ∷ xs) (less, p)))

pub sum_over-add : (ks : List ℕ) (f g : List ℕ → ℤ) → sum_over ks (λ xs. f xs +ℤ g xs) ≡ sum_over ks f +ℤ sum_over ks g
unfolding sum_over
sum_over-add [] f g = refl
sum_over-add (k ∷ ks) f g = sum_below_same k _ _ (λ x less. sum_over-add ks (λ xs. f (x ∷ xs)) (λ xs. g (x ∷ xs))) ∙ sum_below-add k _ _

pub sum_over-times : (ks : List ℕ) (m : ℕ) (f : List ℕ → ℤ) → sum_over ks (λ xs. times m (f xs)) ≡ times m (sum_over ks f)
unfolding sum_over
sum_over-times [] m f = refl
sum_over-times (k ∷ ks) m f = sum_below_same k _ _ (λ x less. sum_over-times ks m (λ xs. f (x ∷ xs))) ∙ sum_below-times k m _

-- ---- the exact weighted sum
pub mean_same : (ks : List ℕ) (d : Draws) (f g : List ℕ → ℤ) → ((xs : List ℕ) → IsPoint ks xs → f xs ≡ g xs) → mean ks d f ≡ mean ks d g
mean_same ks d f g h = sum_over_same ks _ _ (λ xs p. ap (times (chance d xs)) (h xs p))

pub mean_mono : (ks : List ℕ) (d : Draws) (f g : List ℕ → ℤ) → ((xs : List ℕ) → IsPoint ks xs → f xs ≤ℤ g xs) → mean ks d f ≤ℤ mean ks d g
mean_mono ks d f g h = sum_over_mono ks _ _ (λ xs p. times_mono (chance d xs) (f xs) (g xs) (h xs p))

pub mean-cons : (k : ℕ) (ks : List ℕ) (d : Draws) (f : List ℕ → ℤ) → mean (k ∷ ks) d f ≡ sum_below k (λ x. times (d [] x) (mean ks (after x d) (λ xs. f (x ∷ xs))))
unfolding sum_over chance
mean-cons k ks d f = sum_below_same k _ _ (λ x less. sum_over_same ks _ _ (λ xs p. times-times (d [] x) (chance (after x d) xs) (f (x ∷ xs))) ∙ sum_over-times ks (d [] x) _)

pub mean-none : (d : Draws) (f : List ℕ → ℤ) → mean [] d f ≡ f []
unfolding sum_over chance
mean-none d f = times-one (f [])

pub times-swap : (m n : ℕ) (z : ℤ) → times m (times n z) ≡ times n (times m z)
times-swap m n z = sym (times-times m n z) ∙ ap (λ (t : ℕ). times t z) (mul_comm m n) ∙ times-times n m z

pub le_same : {a b : ℤ} → a ≡ b → a ≤ℤ b
le_same e = omega (arith, ints)

pub mean-times : (ks : List ℕ) (d : Draws) (m : ℕ) (f : List ℕ → ℤ) → mean ks d (λ xs. times m (f xs)) ≡ times m (mean ks d f)
mean-times ks d m f = sum_over_same ks _ _ (λ xs p. times-swap (chance d xs) m (f xs)) ∙ sum_over-times ks m _

pub mean-add : (ks : List ℕ) (d : Draws) (f g : List ℕ → ℤ) → mean ks d (λ xs. f xs +ℤ g xs) ≡ mean ks d f +ℤ mean ks d g
mean-add ks d f g = sum_over_same ks _ _ (λ xs p. times-add (chance d xs) (f xs) (g xs)) ∙ sum_over-add ks _ _

-- ---- weighing out
-- a draw of the next value: the sum over it, q-fold, of what comes after
abbrev pub drawn : ℕ → Draws → (ℕ → ℤ) → ℤ
drawn k d f = sum_below k (λ x. times (d [] x) (f x))

pub drawn-times : (k : ℕ) (d : Draws) (m : ℕ) (f : ℕ → ℤ) → drawn k d (λ x. times m (f x)) ≡ times m (drawn k d f)
drawn-times k d m f = sum_below_same k _ _ (λ x less. times-swap (d [] x) m (f x)) ∙ sum_below-times k m _

pub drawn_mono : (k : ℕ) (d : Draws) (f g : ℕ → ℤ) → ((x : ℕ) → x < k → f x ≤ℤ g x) → drawn k d f ≤ℤ drawn k d g
drawn_mono k d f g h = sum_below_mono k _ _ (λ x less. times_mono (d [] x) (f x) (g x) (h x less))

drawn-add : (k : ℕ) (d : Draws) (f g : ℕ → ℤ) → drawn k d (λ x. f x +ℤ g x) ≡ drawn k d f +ℤ drawn k d g
drawn-add k d f g = sum_below_same k _ _ (λ x less. times-add (d [] x) (f x) (g x)) ∙ sum_below-add k _ _

times-turn : (n : ℕ) (z : ℤ) → times n (pos 1 *ℤ z) ≡ times n z
times-turn n z = ap (times n) (times-one z)

-- a constant is drawn q-fold
drawn-constant : (k : ℕ) (d : Draws) (z : ℤ) → sum_below k (λ x. pos (d [] x)) ≡ pos q → drawn k d (λ x. z) ≡ times q z
unfolding sum_below
drawn-constant k d z whole = scaled k (λ x. pos (d [] x)) ∙ ap (λ (t : ℤ). t *ℤ z) whole
  where
    scaled : (k : ℕ) (f : ℕ → ℤ) → sum_below k (λ x. f x *ℤ z) ≡ sum_below k f *ℤ z
    scaled zero f = sym (zero-*ℤ z)
    scaled (suc k) f = ap (λ (t : ℤ). t +ℤ f k *ℤ z) (scaled k f) ∙ sym (+ℤ-*ℤ (sum_below k f) (f k) z)

pub weighed_low : (ks : List ℕ) (d : Draws) (f : List ℕ → ℤ) → times (q ^ length ks) (floored_expectation ks d f) ≤ℤ mean ks d f
unfolding floored_expectation
weighed_low [] d f = le_same (ap (λ (t : ℕ). times t (f [])) (pow-zero q) ∙ times-one (f []) ∙ sym (mean-none d f))
weighed_low (k ∷ ks) d f =
    ≤ℤ_trans (le_same (ap (λ (t : ℕ). times t part) (pow-suc q (length ks)) ∙ times-times (q ^ length ks) q part))
    (≤ℤ_trans (times_mono (q ^ length ks) _ _ (floor_below (drawn k d rest) q q_pos))
    (≤ℤ_trans (le_same (sym (drawn-times k d (q ^ length ks) rest)))
    (≤ℤ_trans (drawn_mono k d _ _ (λ x less. weighed_low ks (after x d) (λ xs. f (x ∷ xs))))
    (le_same (sym (mean-cons k ks d f))))))
  where
    rest : ℕ → ℤ
    rest x = floored_expectation ks (after x d) (λ xs. f (x ∷ xs))

    part : ℤ
    part = floor (drawn k d rest) q

-- at most one more for each value that is weighed out
pub weighed_high : (ks : List ℕ) (d : Draws) (f : List ℕ → ℤ) → AreProbabilitiesWhole ks d → mean ks d f ≤ℤ times (q ^ length ks) (floored_expectation ks d f +ℤ pos (length ks))
unfolding floored_expectation
weighed_high [] d f whole = le_same (mean-none d f ∙ sym (ap (λ (t : ℕ). times t (f [] +ℤ pos 0)) (pow-zero q) ∙ times-one (f [] +ℤ pos 0) ∙ +ℤ_idr (f [])))
weighed_high (k ∷ ks) d f whole =
    ≤ℤ_trans (le_same (mean-cons k ks d f))
    (≤ℤ_trans (drawn_mono k d _ _ (λ x less. weighed_high ks (after x d) (λ xs. f (x ∷ xs)) (whole.1 x less)))
    (≤ℤ_trans (le_same (drawn-times k d (q ^ length ks) (λ x. rest x +ℤ pos (length ks))))
    (≤ℤ_trans (times_mono (q ^ length ks) _ (times q (part +ℤ pos (suc (length ks)))) bound)
    (le_same (sym (ap (λ (t : ℕ). times t (part +ℤ pos (suc (length ks)))) (pow-suc q (length ks)) ∙ times-times (q ^ length ks) q _))))))
  where
    rest : ℕ → ℤ
    rest x = floored_expectation ks (after x d) (λ xs. f (x ∷ xs))

    part : ℤ
    part = floor (drawn k d rest) q

    bound : drawn k d (λ x. rest x +ℤ pos (length ks)) ≤ℤ times q (part +ℤ pos (suc (length ks)))
    bound =
        let above = floor_above (drawn k d rest) q q_pos in
        let one = times-add q part (pos 1) in
        let all = times-add q part (pos (suc (length ks))) in
        let parts = drawn-add k d rest (λ x. pos (length ks)) in
        let same = drawn-constant k d (pos (length ks)) whole.0 in
        omega (arith, ints, above, one, all, parts, same)

pub weighed_mono : (ks : List ℕ) (d : Draws) (f g : List ℕ → ℤ) → ((xs : List ℕ) → IsPoint ks xs → f xs ≤ℤ g xs) → floored_expectation ks d f ≤ℤ floored_expectation ks d g
unfolding floored_expectation
weighed_mono [] d f g h = h [] tt
weighed_mono (k ∷ ks) d f g h = floor_mono _ _ q q_pos (drawn_mono k d _ _ (λ x less. weighed_mono ks (after x d) _ _ (λ xs p. h (x ∷ xs) (less, p))))

pub weighed-constant : (ks : List ℕ) (d : Draws) (z : ℤ) → AreProbabilitiesWhole ks d → floored_expectation ks d (λ xs. z) ≡ z
unfolding floored_expectation
weighed-constant [] d z whole = refl
weighed-constant (k ∷ ks) d z whole = ap (λ (t : ℤ). floor t q) (sum_below_same k _ _ (λ x less. ap (times (d [] x)) (weighed-constant ks (after x d) z (whole.1 x less))) ∙ drawn-constant k d z whole.0) ∙ floor-times q z q_pos

pub mean-constant : (ks : List ℕ) (d : Draws) (z : ℤ) → AreProbabilitiesWhole ks d → mean ks d (λ xs. z) ≡ times (q ^ length ks) z
mean-constant [] d z whole = mean-none d (λ xs. z) ∙ sym (ap (λ (t : ℕ). times t z) (pow-zero q) ∙ times-one z)
mean-constant (k ∷ ks) d z whole = mean-cons k ks d (λ xs. z) ∙ sum_below_same k _ _ (λ x less. ap (times (d [] x)) (mean-constant ks (after x d) z (whole.1 x less))) ∙ drawn-constant k d (times (q ^ length ks) z) whole.0 ∙ times-swap q (q ^ length ks) z ∙ sym (ap (λ (t : ℕ). times t z) (pow-suc q (length ks)) ∙ times-times (q ^ length ks) q z)

-- what stays in a range is weighed out to a number of the range
pub weighed_from : (ks : List ℕ) (d : Draws) (f : List ℕ → ℤ) (z : ℤ) → AreProbabilitiesWhole ks d → ((xs : List ℕ) → IsPoint ks xs → z ≤ℤ f xs) → z ≤ℤ floored_expectation ks d f
weighed_from ks d f z whole h = ≤ℤ_trans (le_same (sym (weighed-constant ks d z whole))) (weighed_mono ks d (λ xs. z) f h)

pub weighed_to : (ks : List ℕ) (d : Draws) (f : List ℕ → ℤ) (z : ℤ) → AreProbabilitiesWhole ks d → ((xs : List ℕ) → IsPoint ks xs → f xs ≤ℤ z) → floored_expectation ks d f ≤ℤ z
weighed_to ks d f z whole h = ≤ℤ_trans (weighed_mono ks d f (λ xs. z) h) (le_same (weighed-constant ks d z whole))

pub weighed_same : (ks : List ℕ) (d : Draws) (f g : List ℕ → ℤ) → ((xs : List ℕ) → IsPoint ks xs → f xs ≡ g xs) → floored_expectation ks d f ≡ floored_expectation ks d g
unfolding floored_expectation
weighed_same [] d f g h = h [] tt
weighed_same (k ∷ ks) d f g h = ap (λ (t : ℤ). floor t q) (sum_below_same k _ _ (λ x less. ap (times (d [] x)) (weighed_same ks (after x d) _ _ (λ xs p. h (x ∷ xs) (less, p)))))

-- ---- weighing out what was rounded before
pub two_low : (ks : List ℕ) (d : Draws) (l : ℕ) (f g : List ℕ → ℤ) → ((xs : List ℕ) → IsPoint ks xs → times (q ^ l) (f xs) ≤ℤ g xs) → times (q ^ l) (times (q ^ length ks) (floored_expectation ks d f)) ≤ℤ mean ks d g
two_low ks d l f g h = ≤ℤ_trans (times_mono (q ^ l) _ _ (weighed_low ks d f)) (≤ℤ_trans (le_same (sym (mean-times ks d (q ^ l) f))) (mean_mono ks d _ _ h))

pub two_high : (ks : List ℕ) (d : Draws) (l : ℕ) (f g : List ℕ → ℤ) → AreProbabilitiesWhole ks d → ((xs : List ℕ) → IsPoint ks xs → g xs ≤ℤ times (q ^ l) (f xs +ℤ pos l)) → mean ks d g ≤ℤ times (q ^ l) (times (q ^ length ks) (floored_expectation ks d f +ℤ pos (length ks + l)))
two_high ks d l f g whole h =
    ≤ℤ_trans (mean_mono ks d _ _ h) (≤ℤ_trans (le_same (mean-times ks d (q ^ l) (λ xs. f xs +ℤ pos l))) (times_mono (q ^ l) _ _ together))
  where
    together : mean ks d (λ xs. f xs +ℤ pos l) ≤ℤ times (q ^ length ks) (floored_expectation ks d f +ℤ pos (length ks + l))
    together =
        let parts = mean-add ks d f (λ xs. pos l) in
        let same = mean-constant ks d (pos l) whole in
        let high = weighed_high ks d f whole in
        let one = times-add (q ^ length ks) (floored_expectation ks d f) (pos (length ks)) in
        let two = times-add (q ^ length ks) (floored_expectation ks d f) (pos (length ks + l)) in
        omega (arith, ints, parts, same, high, one, two)

-- ---- one variable
pub weigh_out_below : (size : ℕ) (row : ℕ → ℕ) (f : ℕ → ℤ) → times q (weigh_out size row f) ≤ℤ sum_below size (λ x. times (row x) (f x))
weigh_out_below size row f = floor_below _ q q_pos

pub weigh_out_above : (size : ℕ) (row : ℕ → ℕ) (f : ℕ → ℤ) → sum_below size (λ x. times (row x) (f x)) <ℤ times q (weigh_out size row f +ℤ pos 1)
weigh_out_above size row f = floor_above _ q q_pos

pub weigh_out_mono : (size : ℕ) (row : ℕ → ℕ) (f g : ℕ → ℤ) → ((x : ℕ) → x < size → f x ≤ℤ g x) → weigh_out size row f ≤ℤ weigh_out size row g
weigh_out_mono size row f g h = floor_mono _ _ q q_pos (drawn_mono size (λ before. row) f g h)

pub weigh_out_range : (size : ℕ) (row : ℕ → ℕ) (f : ℕ → ℤ) → sum_below size (λ x. pos (row x)) ≡ pos q → (low high : ℤ) → ((x : ℕ) → x < size → (low ≤ℤ f x) × (f x ≤ℤ high)) → (low ≤ℤ weigh_out size row f) × (weigh_out size row f ≤ℤ high)
weigh_out_range size row f whole low high h = (
  ≤ℤ_trans (le_same (sym (constant low))) (weigh_out_mono size row (λ x. low) f (λ x less. (h x less).0)),
  ≤ℤ_trans (weigh_out_mono size row f (λ x. high) (λ x less. (h x less).1)) (le_same (constant high)),
)
  where
    constant : (z : ℤ) → weigh_out size row (λ x. z) ≡ z
    constant z = ap (λ (t : ℤ). floor t q) (drawn-constant size (λ before. row) z whole) ∙ floor-times q z q_pos
