-- The initial weights are to scale.
use Rattle.std.proofs.Common.{◌≡◌, ◌≢◌, ℕ, zero, suc, ◌*◌, ◌^◌, ◌<◌, ◌≤◌, List, [], ◌∷◌, length, get_or, map, ◌+◌, ◌++◌, length-append, refl, sym, ap, ◌∙◌, subst, arith}
use Rattle.std.specs.Prelude.{ℤ, pos, ◌+ℤ◌, ◌≤ℤ◌, ◌<ℤ◌, All}
use Rattle.std.specs.List.{fold}
use Rattle.std.proofs.lemmas.Int.{ints}
use Rattle.std.proofs.lemmas.Nat.{mul-le}
use Rattle.std.proofs.lemmas.List.Elements.{All-head, All-tail, All-cons, All-nil}
use Rattle.std.proofs.Math.Nat.{mul_comm, pow-suc, pow-zero}
use Rattle.std.proofs.Math.IntN.{+ℤ_idr}
use lib.Signed.{≤ℤ_refl}
use Rattle.sp_theory.specs.Sums.{times, floor}
use Rattle.sp_theory.specs.Points.{IsPoint, count_of, put, sum_over}
use Rattle.sp_theory.specs.Draws.{q}
use Rattle.sp_theory.specs.Model.{State, Factor, Model, all_own, DependsOnOwn, HasInitial, sum_over_own}
use Rattle.sp_theory.specs.Scaling.{total_weight}
use Rattle.sp_theory.specs.Beliefs.{unscaled_initial, Table, summed_out, all_summed_out}
use Rattle.sp_theory.specs.BeliefLaws.{states, InitialIsScaled}
use Rattle.sp_theory.proofs.Whole.{times-add, times-times, times-zero, times_mono, floor_below, floor_above, floor_most, floor-times, times_cancel_le, ≤ℤ_trans}
use Rattle.sp_theory.proofs.Weighing.{q_pos, le_same, times-swap, sum_over_same, sum_over_mono, sum_over-add, sum_over-times}
use Rattle.sp_theory.proofs.Backups.{sum_over-constant, length-point, chance_part}
use Rattle.sp_theory.proofs.Carried.{IsPoint-put, Every, positive_parts, all_same, all_mono, IgnoredBy, all-table}
use Rattle.sp_theory.proofs.Updates.{all-over, pos-unsigned_abs}
use Rattle.sp_theory.proofs.Unseen.{pos-total_weight, power_pos}
use Rattle.sp_theory.proofs.Scales.{scaling_gives}
use Rattle.sp_theory.proofs.Downs.{different_most}
use Rattle.sp_theory.proofs.Once.{all-append, own-all, Apart, Apart-append, Apart-at, Every-append, one_kept, all-once}

-- ---- points
put-same : (s : List ℕ) (i : ℕ) → put s i (get_or s i 0) ≡ s
put-same [] i = refl
put-same (x ∷ s) zero = refl
put-same (x ∷ s) (suc i) = ap (λ (t : List ℕ). x ∷ t) (put-same s i)

get_or-put_other : (s : List ℕ) (i j x : ℕ) → i ≢ j → get_or (put s i x) j 0 ≡ get_or s j 0
get_or-put_other [] i j x differ = refl
get_or-put_other (y ∷ s) zero zero x differ = absurd (differ refl)
get_or-put_other (y ∷ s) zero (suc j) x differ = refl
get_or-put_other (y ∷ s) (suc i) zero x differ = refl
get_or-put_other (y ∷ s) (suc i) (suc j) x differ = get_or-put_other s i j x (λ e. differ (ap suc e))

get_or-point : (sizes s : List ℕ) (i : ℕ) → IsPoint sizes s → i < length sizes → get_or s i 0 < get_or sizes i 0
get_or-point [] s i p less = absurd (omega arith)
get_or-point (size ∷ sizes) (x ∷ s) zero (low, p) less = low
get_or-point (size ∷ sizes) (x ∷ s) (suc i) (low, p) less = get_or-point sizes s i p (omega arith)
get_or-point (size ∷ sizes) [] i p less = absurd p

pub zeros_point : (sizes : List ℕ) → 0 < count_of sizes → IsPoint sizes (map (λ size. 0) sizes)
zeros_point [] some = tt
zeros_point (size ∷ sizes) some = let two = positive_parts size (count_of sizes) some in (two.0, zeros_point sizes two.1)

-- ---- the product of the factors
pub shares : List Factor → Table
shares [] s t = 1
shares (f ∷ fs) s t = f.share s * shares fs s t

Every-All : {X : Type 0} (P : X → Type 0) (xs : List X) → Every P xs → All P xs
Every-All P [] h = All-nil P
Every-All P (x ∷ xs) (here, rest) = All-cons P x xs here (Every-All P xs rest)

All-Every : {X : Type 0} (P : X → Type 0) (xs : List X) → All P xs → Every P xs
All-Every P [] h = tt
All-Every P (x ∷ xs) h = (All-head P x xs h, All-Every P xs (All-tail P x xs h))

module _ (sizes : List ℕ) where
  -- a factor sums to one over its own variables
  IsFactor : Factor → Type 0
  IsFactor f = (s : State) → IsPoint sizes s → sum_over_own sizes f.own (λ t. pos (f.share t)) s ≡ pos q

  -- a variable that is of none of the factors
  shares_ignore : (fs : List Factor) → Every (DependsOnOwn sizes) fs → (i : ℕ) → Every (λ j. i ≢ j) (all_own fs) → IgnoredBy sizes [] (shares fs) i
  unfolding shares
  shares_ignore [] owned i other s x p less = refl
  shares_ignore (f ∷ fs) (here, rest) i other s x p less =
      let two = Every-append (λ j. i ≢ j) f.own (all_own fs) other in
      let one = here (put s i x) s (IsPoint-put sizes s i x p less) p (Every-All (λ j. get_or (put s i x) j 0 ≡ get_or s j 0) f.own (same f.own two.0)) in
      (λ k. one k * shares_ignore fs rest i two.1 s x p less k)
    where
      same : (js : List ℕ) → Every (λ j. i ≢ j) js → Every (λ j. get_or (put s i x) j 0 ≡ get_or s j 0) js
      same [] h = tt
      same (j ∷ js) (differ, h) = (get_or-put_other s i j x differ, same js h)

  -- all factors together sum to one, over q for each
  shares-sum : (fs : List Factor) → Every IsFactor fs → Every (DependsOnOwn sizes) fs → Apart (all_own fs) → (s : State) → IsPoint sizes s → all_summed_out sizes (all_own fs) (λ s t. pos (shares fs s t)) s [] ≡ pos (q ^ length fs)
  unfolding shares all_summed_out IsFactor
  shares-sum [] whole owned apart s p = ap pos (sym (pow-zero q))
  shares-sum (f ∷ fs) (here, whole) (its, owned) apart s p =
      all-append sizes f.own (all_own fs) _ s []
      ∙ all_same sizes [] (all_own fs) _ (λ s t. times q (pos (shares fs s t))) inner s p
      ∙ all-table sizes [] (all_own fs) (λ s t. q) (λ s t. pos (shares fs s t)) (constant (all_own fs)) s p
      ∙ ap (times q) (shares-sum fs whole owned (Apart-append f.own (all_own fs) apart).1 s p)
      ∙ ap pos (mul_comm q (q ^ length fs) ∙ sym (pow-suc q (length fs)))
    where
      constant : (is : List ℕ) → Every (IgnoredBy sizes [] (λ s t. q)) is
      constant [] = tt
      constant (i ∷ is) = (λ s x p less. refl, constant is)

      ignored : (is : List ℕ) → Every (λ i. Every (λ j. i ≢ j) (all_own fs)) is → Every (IgnoredBy sizes [] (shares fs)) is
      ignored [] h = tt
      ignored (i ∷ is) (h, rest) = (shares_ignore fs owned i h, ignored is rest)

      inner : (s : State) → IsPoint sizes s → all_summed_out sizes f.own (λ s t. pos (f.share s * shares fs s t)) s [] ≡ times q (pos (shares fs s []))
      inner s p =
          all_same sizes [] f.own _ (λ s t. times (shares fs s t) (pos (f.share s))) (λ s p. ap pos (mul_comm (f.share s) (shares fs s []))) s p
          ∙ all-table sizes [] f.own (shares fs) (λ s t. pos (f.share s)) (ignored f.own (Apart-append f.own (all_own fs) apart).0) s p
          ∙ ap (times (shares fs s [])) (sym (own-all sizes f.own (λ t. pos (f.share t)) s []) ∙ here s p)
          ∙ ap pos (mul_comm (shares fs s []) q)

  -- a number is at most its sum over the values of some variables
  all_at_least : (is : List ℕ) → Every (λ i. i < length sizes) is → (f : State → ℕ) (s : State) → IsPoint sizes s → pos (f s) ≤ℤ all_summed_out sizes is (λ s t. pos (f s)) s []
  unfolding all_summed_out
  all_at_least [] low f s p = ≤ℤ_refl (pos (f s))
  all_at_least (i ∷ is) (less, low) f s p =
      ≤ℤ_trans (all_at_least is low f s p)
      (all_mono sizes [] is (λ s t. pos (f s)) (summed_out sizes i (λ s t. pos (f s))) (λ s p. ≤ℤ_trans (le_same (ap (λ (t : State). pos (f t)) (sym (put-same s i)))) (chance_part (get_or sizes i 0) (λ x. f (put s i x)) (get_or s i 0) (get_or-point sizes s i p less))) s p)

  share_at_most : (f : Factor) → IsFactor f → Every (λ i. i < length sizes) f.own → (s : State) → IsPoint sizes s → f.share s ≤ q
  unfolding IsFactor
  share_at_most f whole low s p = let least = all_at_least f.own low f.share s p in let same = own-all sizes f.own (λ t. pos (f.share t)) s [] in let one = whole s p in omega (arith, ints, least, same, one)

  -- without own variables it is one
  share_without : (f : Factor) → IsFactor f → (s : State) → IsPoint sizes s → length f.own ≡ 0 → f.share s ≡ q
  unfolding IsFactor sum_over_own
  share_without f whole s p none = by_own f.own none (whole s p)
    where
      by_own : (own : List ℕ) → length own ≡ 0 → sum_over_own sizes own (λ t. pos (f.share t)) s ≡ pos q → f.share s ≡ q
      by_own [] none is = omega (arith, ints, is)
      by_own (i ∷ own) none is = absurd (omega (arith, none))

-- ---- the factors one after another
-- z times each factor, rounded down each time
abbrev pub factored : List Factor → State → ℤ → ℤ
factored fs s z = fold (λ z f. floor (times (f.share s) z) q) z fs

factored_low : (fs : List Factor) (s : State) (z : ℤ) → times (q ^ length fs) (factored fs s z) ≤ℤ times (shares fs s []) z
unfolding shares
factored_low [] s z = le_same (ap (λ (t : ℕ). times t z) (pow-zero q))
factored_low (f ∷ fs) s z =
    ≤ℤ_trans (le_same (ap (λ (t : ℕ). times t (factored fs s part)) (pow-suc q (length fs) ∙ mul_comm (q ^ length fs) q) ∙ times-times q (q ^ length fs) _))
    (≤ℤ_trans (times_mono q _ _ (factored_low fs s part))
    (≤ℤ_trans (le_same (times-swap q (shares fs s []) part))
    (≤ℤ_trans (times_mono (shares fs s []) _ _ (floor_below (times (f.share s) z) q q_pos))
    (le_same (sym (ap (λ (t : ℕ). times t z) (mul_comm (f.share s) (shares fs s [])) ∙ times-times (shares fs s []) (f.share s) z))))))
  where
    part : ℤ
    part = floor (times (f.share s) z) q

-- each share is at most one, and one exactly where the factor has no own variable
AreAtMost : State → List Factor → Type 0
AreAtMost s fs = Every (λ f. (f.share s ≤ q) × (length f.own ≡ 0 → f.share s ≡ q)) fs

shares_most : (fs : List Factor) (s : State) → AreAtMost s fs → shares fs s [] ≤ q ^ length fs
unfolding shares AreAtMost
shares_most [] s small = omega (arith, pow-zero q)
shares_most (f ∷ fs) s ((one, whole), small) = let all = mul-le (f.share s) (shares fs s []) q (q ^ length fs) one (shares_most fs s small) in omega (arith, all, pow-suc q (length fs))

-- a factor takes at most one for each own variable
part_high : (f : Factor) (s : State) (z : ℤ) → (f.share s ≤ q) × (length f.own ≡ 0 → f.share s ≡ q) → times (f.share s) z ≤ℤ times q (floor (times (f.share s) z) q +ℤ pos (length f.own))
part_high f s z (one, whole) = by_own (length f.own) refl
  where
    by_own : (n : ℕ) → length f.own ≡ n → times (f.share s) z ≤ℤ times q (floor (times (f.share s) z) q +ℤ pos n)
    by_own zero none =
        let is = whole none in
        subst (λ (k : ℕ). times k z ≤ℤ times q (floor (times k z) q +ℤ pos 0)) (sym is)
        (times_mono q z _ (le_same (sym (+ℤ_idr (floor (times q z) q) ∙ floor-times q z q_pos))))
    by_own (suc n) some =
        let above = floor_above (times (f.share s) z) q q_pos in
        ≤ℤ_trans (let up = above in lt_le up) (times_mono q _ _ (more (floor (times (f.share s) z) q)))
      where
        lt_le : {a b : ℤ} → a <ℤ b → a ≤ℤ b
        lt_le h = omega (arith, ints, h)

        more : (p : ℤ) → (p +ℤ pos 1) ≤ℤ (p +ℤ pos (suc n))
        more p = omega (arith, ints)

factored_high : (fs : List Factor) (s : State) (z : ℤ) → AreAtMost s fs → times (shares fs s []) z ≤ℤ times (q ^ length fs) (factored fs s z +ℤ pos (length (all_own fs)))
unfolding shares AreAtMost
factored_high [] s z small = le_same (sym (ap (λ (t : ℕ). times t (z +ℤ pos 0)) (pow-zero q) ∙ ap (times 1) (+ℤ_idr z)))
factored_high (f ∷ fs) s z (one, small) =
    ≤ℤ_trans (le_same (ap (λ (t : ℕ). times t z) (mul_comm (f.share s) (shares fs s [])) ∙ times-times (shares fs s []) (f.share s) z))
    (≤ℤ_trans (times_mono (shares fs s []) _ (times q (part +ℤ pos (length f.own))) (part_high f s z one))
    (≤ℤ_trans (le_same (times-swap (shares fs s []) q (part +ℤ pos (length f.own))))
    (≤ℤ_trans (times_mono q _ _ (inside (factored_high fs s part small)))
    (le_same (sym (ap (λ (t : ℕ). times t (rest +ℤ pos (length (f.own ++ all_own fs)))) (pow-suc q (length fs) ∙ mul_comm (q ^ length fs) q) ∙ times-times q (q ^ length fs) _))))))
  where
    part : ℤ
    part = floor (times (f.share s) z) q

    rest : ℤ
    rest = factored fs s part

    few : ℕ
    few = length (all_own fs)

    inside : times (shares fs s []) part ≤ℤ times (q ^ length fs) (rest +ℤ pos few) → times (shares fs s []) (part +ℤ pos (length f.own)) ≤ℤ times (q ^ length fs) (rest +ℤ pos (length (f.own ++ all_own fs)))
    inside low =
        let split = times-add (shares fs s []) part (pos (length f.own)) in
        let most : times (shares fs s []) (pos (length f.own)) ≤ℤ times (q ^ length fs) (pos (length f.own)) = as_whole (mul-le (shares fs s []) (length f.own) (q ^ length fs) (length f.own) (shares_most fs s small) (omega arith)) in
        let second = times-add (q ^ length fs) (rest +ℤ pos few) (pos (length f.own)) in
        let both : (times (shares fs s []) part +ℤ times (shares fs s []) (pos (length f.own))) ≤ℤ (times (q ^ length fs) (rest +ℤ pos few) +ℤ times (q ^ length fs) (pos (length f.own))) = sum_le low most in
        ≤ℤ_trans (le_same split) (≤ℤ_trans both (≤ℤ_trans (le_same (sym second)) (times_mono (q ^ length fs) _ _ (joined rest few (length f.own) (length (f.own ++ all_own fs)) (length-append f.own (all_own fs))))))
      where
        as_whole : {a b : ℕ} → a ≤ b → pos a ≤ℤ pos b
        as_whole h = omega (arith, ints, h)

        sum_le : {a b c d : ℤ} → a ≤ℤ b → c ≤ℤ d → (a +ℤ c) ≤ℤ (b +ℤ d)
        sum_le h k = omega (arith, ints, h, k)

        joined : (r : ℤ) (a b n : ℕ) → n ≡ b + a → ((r +ℤ pos a) +ℤ pos b) ≤ℤ (r +ℤ pos n)
        joined r a b n e = omega (arith, ints, e)

factored_from_zero : (fs : List Factor) (s : State) (z : ℤ) → pos 0 ≤ℤ z → pos 0 ≤ℤ factored fs s z
factored_from_zero [] s z h = h
factored_from_zero (f ∷ fs) s z h = factored_from_zero fs s _ (floor_most (times (f.share s) z) (pos 0) q q_pos (≤ℤ_trans (le_same (times-zero q ∙ sym (times-zero (f.share s)))) (times_mono (f.share s) _ _ h)))

-- ---- the initial weights
module _ (m : Model) (law : HasInitial m) (some : 0 < states m) where
  abbrev count : ℕ
  count = length m.factors

  abbrev owned_count : ℕ
  owned_count = length (all_own m.factors)

  factors_whole : Every (IsFactor m.sizes) m.factors
  unfolding IsFactor
  factors_whole = All-Every (λ f. (s : State) → IsPoint m.sizes s → sum_over_own m.sizes f.own (λ t. pos (f.share t)) s ≡ pos q) m.factors law.whole

  within : Every (λ i. i < length m.sizes) (all_own m.factors)
  within = All-Every (λ i. i < length m.sizes) (all_own m.factors) law.within

  zeros : State
  zeros = map (λ size. 0) m.sizes

  at : IsPoint m.sizes zeros
  unfolding zeros
  at = zeros_point m.sizes some

  shares-over : sum_over m.sizes (λ s. pos (shares m.factors s [])) ≡ pos (q ^ count)
  shares-over =
      sym (all-over m.sizes (λ s t. pos (shares m.factors s t)) zeros [] (length-point m.sizes zeros at))
      ∙ sym (all-once m.sizes (length m.sizes) (all_own m.factors) (λ s t. pos (shares m.factors s t)) zeros [] within (λ v less. one_kept v (all_own m.factors) (Apart-at (all_own m.factors) law.apart) (law.every v less)))
      ∙ shares-sum m.sizes m.factors factors_whole (All-Every (DependsOnOwn m.sizes) m.factors law.owned) (Apart-at (all_own m.factors) law.apart) zeros at

  small : (s : State) → IsPoint m.sizes s → AreAtMost s m.factors
  unfolding AreAtMost
  small s p = each m.factors factors_whole within
    where
      each : (fs : List Factor) → Every (IsFactor m.sizes) fs → Every (λ i. i < length m.sizes) (all_own fs) → Every (λ f. (f.share s ≤ q) × (length f.own ≡ 0 → f.share s ≡ q)) fs
      each [] whole low = tt
      each (f ∷ fs) (here, whole) low = let two = Every-append (λ i. i < length m.sizes) f.own (all_own fs) low in ((share_at_most m.sizes f here two.0 s p, share_without m.sizes f here s p), each fs whole two.1)

  unscaled-is : (s : State) → pos (unscaled_initial m s) ≡ factored m.factors s (pos (2 ^ 62))
  unfolding unscaled_initial
  unscaled-is s = pos-unsigned_abs _ (factored_from_zero m.factors s (pos (2 ^ 62)) (omega (arith, ints)))

  turn : (a b : ℕ) → times a (pos b) ≡ times b (pos a)
  turn a b = ap pos (mul_comm a b)

  -- exactly, the total is 2^62
  exact-total : sum_over m.sizes (λ s. times (shares m.factors s []) (pos (2 ^ 62))) ≡ times (q ^ count) (pos (2 ^ 62))
  exact-total = sum_over_same m.sizes _ (λ s. times (2 ^ 62) (pos (shares m.factors s []))) (λ s p. turn (shares m.factors s []) (2 ^ 62)) ∙ sum_over-times m.sizes (2 ^ 62) _ ∙ ap (times (2 ^ 62)) shares-over ∙ turn (2 ^ 62) (q ^ count)

  total_low : pos (total_weight m (unscaled_initial m)) ≤ℤ pos (2 ^ 62)
  total_low = times_cancel_le (q ^ count) _ _ (power_pos count)
      (≤ℤ_trans (le_same (ap (times (q ^ count)) (pos-total_weight m (unscaled_initial m)) ∙ sym (sum_over-times m.sizes (q ^ count) _)))
      (≤ℤ_trans (sum_over_mono m.sizes _ (λ s. times (shares m.factors s []) (pos (2 ^ 62))) (λ s p. ≤ℤ_trans (le_same (ap (times (q ^ count)) (unscaled-is s))) (factored_low m.factors s (pos (2 ^ 62)))))
      (le_same exact-total)))

  total_high : pos (2 ^ 62) ≤ℤ (pos (total_weight m (unscaled_initial m)) +ℤ times (states m) (pos owned_count))
  total_high = times_cancel_le (q ^ count) _ _ (power_pos count)
      (≤ℤ_trans (le_same (sym exact-total))
      (≤ℤ_trans (sum_over_mono m.sizes _ (λ s. times (q ^ count) (pos (unscaled_initial m s) +ℤ pos owned_count)) (λ s p. ≤ℤ_trans (factored_high m.factors s (pos (2 ^ 62)) (small s p)) (le_same (ap (λ (z : ℤ). times (q ^ count) (z +ℤ pos owned_count)) (sym (unscaled-is s))))))
      (le_same (sum_over-times m.sizes (q ^ count) _ ∙ ap (times (q ^ count)) (sum_over-add m.sizes _ _ ∙ (λ h. sym (pos-total_weight m (unscaled_initial m)) h +ℤ sum_over-constant m.sizes (pos owned_count) h))))))

pub initial_scaled : InitialIsScaled
initial_scaled m law some few = scaling_gives m (unscaled_initial m) (left (total_weight m (unscaled_initial m)) (states m) (length (all_own m.factors)) (2 ^ 62) (total_high m law some) few) (below _ _ (total_low m law some))
  where
    left : (t n k large : ℕ) → pos large ≤ℤ (pos t +ℤ times n (pos k)) → k * n < large → 0 < t
    left t n k large high few = omega (arith, ints, high, few)

    below : (a b : ℕ) → pos a ≤ℤ pos b → a ≤ b
    below a b h = omega (arith, ints, h)

-- each variable is owned once at most
pub owned_most : (m : Model) → HasInitial m → length (all_own m.factors) ≤ length m.sizes
owned_most m law = different_most (length m.sizes) (all_own m.factors) (All-Every (λ i. i < length m.sizes) (all_own m.factors) law.within) (Apart-at (all_own m.factors) law.apart)
