-- The windows as they are computed.
use Rattle.std.proofs.Common.{◌≡◌, ℕ, ◌+◌, ◌*◌, ◌/◌, ◌^◌, ◌<◌, ◌≤◌, refl, sym, ap, ◌∙◌, subst, arith, length, to_z, of_z, true}
use Rattle.std.specs.Prelude.{ℤ, pos, neg_ℤ, ◌+ℤ◌, ◌-ℤ◌, ◌*ℤ◌, ◌≤ℤ◌, ◌<ℤ◌, int_lt, unsigned_abs, FitsSigned}
use Rattle.std.specs.Int.{w128}
use Rattle.std.proofs.lemmas.Int.{ints, to_z_pos, to_z-of_z, unsigned_abs-mul, fits_signed_from_abs}
use Rattle.std.proofs.lemmas.Nat.{mul-le}
use Rattle.std.proofs.Math.Nat.{div-le_self}
use Rattle.sp_bounds.specs.Bounds.{slack, link_window, whole_slack, action_window}
use Rattle.sp_theory.specs.Sums.{times, floor}
use Rattle.sp_theory.specs.Points.{count_of}
use Rattle.sp_theory.specs.Draws.{q}
use Rattle.sp_theory.proofs.Whole.{floor_below, floor_above}
use Rattle.sp_model.specs.declared.parts.Parts.{Parts}
use Rattle.sp_model.specs.Problem.{sizes_of, problem}
use Rattle.sp_model.proofs.Counts.{length-sizes_of}
use Rattle.sp_backup.specs.Ranges.{apart, farthest}

counts : (p : Parts) → length p.variables + length p.sights ≡ length (problem p).sizes + length (problem p).sight_sizes
unfolding problem
counts p = (λ i. sym (length-sizes_of p.variables) i + sym (length-sizes_of p.sights) i)

variables-count : (p : Parts) → length p.variables ≡ length (problem p).sizes
unfolding problem
variables-count p = sym (length-sizes_of p.variables)

sights-count : (p : Parts) → length p.sights ≡ length (problem p).sight_sizes
unfolding problem
sights-count p = sym (length-sizes_of p.sights)

joints-count : (p : Parts) → count_of (sizes_of p.sights) ≡ count_of (problem p).sight_sizes
unfolding problem
joints-count p = refl

-- ---- the window of links
abbrev pub link_sum : ℕ → ℕ → ℕ → ℕ
link_sum n apart slack = n * 4611686018427387904 + apart * slack

module _ (n slack : ℕ) (low high : ℤ) (few : n ≤ 32) (small : slack ≤ 2 ^ 53) (small_low : unsigned_abs low ≤ 10 ^ 18) (small_high : unsigned_abs high ≤ 10 ^ 18) where
  apart_small : apart low high ≤ 2 * 10 ^ 18
  apart_small = omega (arith, ints, small_low, small_high)

  pub rests_small : apart low high * slack ≤ 2 * 10 ^ 18 * 2 ^ 53
  rests_small = mul-le (apart low high) slack (2 * 10 ^ 18) (2 ^ 53) apart_small small

  pub link_sum_small : link_sum n (apart low high) slack ≤ 2 ^ 116
  link_sum_small = summed (apart low high * slack) rests_small
    where
      summed : (x : ℕ) → x ≤ 2 * 10 ^ 18 * 2 ^ 53 → n * 4611686018427387904 + x ≤ 2 ^ 116
      summed x most = omega (arith, few, most)

pub link_window_is : (p : Parts) (n r s : ℕ) → n ≡ length p.variables + length p.sights → s ≡ slack (problem p) → link_sum n r s ≡ link_window (problem p) (2 ^ 62) r
link_window_is p n r s count slack_at = λ i. (count ∙ counts p) i * 4611686018427387904 + r * slack_at i

-- what is read of the difference of two values
pub apart-read : (low high : ℤ) → unsigned_abs low ≤ 10 ^ 18 → unsigned_abs high ≤ 10 ^ 18 → unsigned_abs (to_z w128 (of_z w128 (to_z w128 (of_z w128 high) -ℤ to_z w128 (of_z w128 low)))) ≡ apart low high
apart-read low high small_low small_high = ap unsigned_abs read ∙ plain high low
  where
    read : to_z w128 (of_z w128 (to_z w128 (of_z w128 high) -ℤ to_z w128 (of_z w128 low))) ≡ high -ℤ low
    read =
        (λ i. to_z w128 (of_z w128 (to_z-of_z w128 high (fits_signed_from_abs w128 high (omega (arith, small_high))) i -ℤ to_z-of_z w128 low (fits_signed_from_abs w128 low (omega (arith, small_low))) i)))
        ∙ to_z-of_z w128 (high -ℤ low) (fits_signed_from_abs w128 (high -ℤ low) (omega (arith, ints, small_low, small_high)))

    plain : (h l : ℤ) → unsigned_abs (h -ℤ l) ≡ unsigned_abs (h +ℤ neg_ℤ l)
    plain h l = omega (arith, ints)

-- a sum that was found less than another by the window
pub apart_from : (x y window : ℤ) (n : ℕ) → unsigned_abs x ≤ 2 ^ 122 → unsigned_abs y ≤ 2 ^ 122 → unsigned_abs window ≤ 2 ^ 116 → window ≡ pos n
    → int_lt (to_z w128 (of_z w128 (to_z w128 (of_z w128 x) +ℤ to_z w128 (of_z w128 window)))) (to_z w128 (of_z w128 y)) ≡ true → (x +ℤ pos n) <ℤ y
apart_from x y window n small_x small_y small_window is less = plain (sym read ∙ less)
  where
    read : int_lt (to_z w128 (of_z w128 (to_z w128 (of_z w128 x) +ℤ to_z w128 (of_z w128 window)))) (to_z w128 (of_z w128 y)) ≡ int_lt (x +ℤ window) y
    read =
        (λ i. int_lt (to_z w128 (of_z w128 (to_z-of_z w128 x (fits_signed_from_abs w128 x (omega (arith, small_x))) i +ℤ to_z-of_z w128 window (fits_signed_from_abs w128 window (omega (arith, small_window))) i))) (to_z-of_z w128 y (fits_signed_from_abs w128 y (omega (arith, small_y))) i))
        ∙ ap (λ (z : ℤ). int_lt z y) (to_z-of_z w128 (x +ℤ window) (fits_signed_from_abs w128 (x +ℤ window) (omega (arith, ints, small_x, small_window))))

    plain : int_lt (x +ℤ window) y ≡ true → (x +ℤ pos n) <ℤ y
    plain e = omega (arith, ints, e, is)

pub apart_fits : (x window : ℤ) → unsigned_abs x ≤ 2 ^ 122 → unsigned_abs window ≤ 2 ^ 116 → FitsSigned w128 (to_z w128 (of_z w128 x) +ℤ to_z w128 (of_z w128 window))
apart_fits x window small_x small_window =
    subst (FitsSigned w128) (λ i. sym (to_z-of_z w128 x (fits_signed_from_abs w128 x (omega (arith, small_x)))) i +ℤ sym (to_z-of_z w128 window (fits_signed_from_abs w128 window (omega (arith, small_window)))) i)
    (fits_signed_from_abs w128 (x +ℤ window) (omega (arith, ints, small_x, small_window)))

-- ---- quotients by q
pub quotient_small : (z : ℤ) (b : ℕ) → unsigned_abs z ≤ b * 1000000000 → unsigned_abs (floor z q) ≤ b
unfolding q
quotient_small z b small =
    let below : times 1000000000 (floor z 1000000000) ≤ℤ z = floor_below z 1000000000 (omega arith) in
    let above : z <ℤ times 1000000000 (floor z 1000000000 +ℤ pos 1) = floor_above z 1000000000 (omega arith) in
    bounded (floor z 1000000000) below above
  where
    bounded : (f : ℤ) → times 1000000000 f ≤ℤ z → z <ℤ times 1000000000 (f +ℤ pos 1) → unsigned_abs f ≤ b
    bounded f below above = omega (arith, ints, below, above, small)

pub shared_is : (f s : ℤ) (joint : ℕ) → joint < 4096 → unsigned_abs f ≤ joint * 2 ^ 93 → unsigned_abs s ≤ 2 ^ 93 → to_z w128 (of_z w128 (to_z w128 (of_z w128 f) +ℤ to_z w128 (of_z w128 s))) ≡ f +ℤ s
shared_is f s joint few small_f small_s =
    (λ i. to_z w128 (of_z w128 (to_z-of_z w128 f (fits_signed_from_abs w128 f (omega (arith, few, small_f))) i +ℤ to_z-of_z w128 s (fits_signed_from_abs w128 s (omega (arith, small_s))) i)))
    ∙ to_z-of_z w128 (f +ℤ s) (fits_signed_from_abs w128 (f +ℤ s) (omega (arith, ints, few, small_f, small_s)))

-- ---- promises
module _ (g : ℕ) (n l : ℤ) (discount : g ≤ 999000000) (small_n : unsigned_abs n ≤ 2 ^ 83) (small_l : unsigned_abs l ≤ 2 ^ 76) where
  product-reads : to_z w128 g *ℤ to_z w128 (of_z w128 l) ≡ pos g *ℤ l
  product-reads = (λ i. to_z_pos w128 g (omega (arith, discount)) i *ℤ to_z-of_z w128 l (fits_signed_from_abs w128 l (omega (arith, small_l))) i)

  product_low : unsigned_abs (pos g *ℤ l) ≤ 999000000 * 2 ^ 76
  product_low = subst (λ (k : ℕ). k ≤ 999000000 * 2 ^ 76) (sym (unsigned_abs-mul (pos g) l)) (mul-le g (unsigned_abs l) 999000000 (2 ^ 76) discount small_l)

  pub product_fits : FitsSigned w128 (to_z w128 g *ℤ to_z w128 (of_z w128 l))
  product_fits = subst (FitsSigned w128) (sym product-reads) (fits_signed_from_abs w128 (pos g *ℤ l) (let low = product_low in omega (arith, low)))

  abbrev pub later : ℤ
  later = to_z w128 (of_z w128 (to_z w128 g *ℤ to_z w128 (of_z w128 l)))

  later-is : later ≡ pos g *ℤ l
  later-is = to_z-of_z w128 _ product_fits ∙ product-reads

  both-read : to_z w128 (of_z w128 n) +ℤ later ≡ n +ℤ pos g *ℤ l
  both-read = (λ i. to_z-of_z w128 n (fits_signed_from_abs w128 n (omega (arith, small_n))) i +ℤ later-is i)

  both_small : unsigned_abs (n +ℤ pos g *ℤ l) ≤ 2 ^ 108
  both_small = summed (pos g *ℤ l) product_low
    where
      summed : (z : ℤ) → unsigned_abs z ≤ 999000000 * 2 ^ 76 → unsigned_abs (n +ℤ z) ≤ 2 ^ 108
      summed z most = omega (arith, ints, most, small_n)

  pub promise_fits : FitsSigned w128 (to_z w128 (of_z w128 n) +ℤ later)
  promise_fits = subst (FitsSigned w128) (sym both-read) (fits_signed_from_abs w128 (n +ℤ pos g *ℤ l) (let most = both_small in omega (arith, most)))

  pub promise-is : to_z w128 (of_z w128 (to_z w128 (of_z w128 n) +ℤ later)) ≡ n +ℤ pos g *ℤ l
  promise-is = to_z-of_z w128 _ promise_fits ∙ both-read

  pub promise_small : unsigned_abs (to_z w128 (of_z w128 (to_z w128 (of_z w128 n) +ℤ later))) ≤ 2 ^ 108
  promise_small = subst (λ (z : ℤ). unsigned_abs z ≤ 2 ^ 108) (sym promise-is) both_small

-- ---- the window of actions
pub whole_slack_is : (p : Parts) (n m states joints : ℕ) → n ≡ length p.variables → m ≡ length p.sights → states ≡ count_of (sizes_of p.variables) → joints ≡ count_of (sizes_of p.sights)
    → n * (states * states) + m * (states * joints) ≡ whole_slack (problem p)
unfolding problem
whole_slack_is p n m states joints e f g h = λ i. (e ∙ sym (length-sizes_of p.variables)) i * (g i * g i) + (f ∙ sym (length-sizes_of p.sights)) i * (g i * h i)

abbrev pub window_of : ℕ → ℕ → ℕ → ℕ → ℕ → ℕ → ℕ
window_of n m joints l h slack = 1000000002 + joints + ((2 * n + m + 1) * 4611686018427387904 + 2 * ((l + h) * slack)) / 1000000000

pub window_small : (n m joints l h slack : ℕ) → n ≤ 24 → m ≤ 8 → joints ≤ 4096 → l ≤ 10 ^ 18 → h ≤ 10 ^ 18 → slack ≤ 2 ^ 53 → window_of n m joints l h slack ≤ 2 ^ 116
window_small n m joints l h slack few_n few_m few small_l small_h small =
    let product = mul-le (l + h) slack (2 * 10 ^ 18) (2 ^ 53) (omega (arith, small_l, small_h)) small in
    inside ((2 * n + m + 1) * 4611686018427387904 + 2 * ((l + h) * slack)) (summed ((l + h) * slack) product)
  where
    summed : (x : ℕ) → x ≤ 2 * 10 ^ 18 * 2 ^ 53 → (2 * n + m + 1) * 4611686018427387904 + 2 * x ≤ 2 ^ 115 + 2 ^ 69
    summed x most = omega (arith, few_n, few_m, most)

    inside : (x : ℕ) → x ≤ 2 ^ 115 + 2 ^ 69 → 1000000002 + joints + x / 1000000000 ≤ 2 ^ 116
    inside x most = let less = div-le_self x 1000000000 in omega (arith, most, few, less)

pub action_window_is : (p : Parts) (low high : ℤ) (n m joints l h slack : ℕ) → n ≡ length p.variables → m ≡ length p.sights → joints ≡ count_of (sizes_of p.sights)
    → l ≡ unsigned_abs low → h ≡ unsigned_abs high → slack ≡ whole_slack (problem p)
    → window_of n m joints l h slack ≡ action_window (problem p) (2 ^ 62) (farthest low high)
unfolding q
action_window_is p low high n m joints l h slack e_n e_m e_o e_l e_h e_s =
    ap (λ (k : ℕ). 1000000002 + joints + (k * 4611686018427387904 + 2 * ((l + h) * slack)) / 1000000000) (twice n m)
    ∙ (λ i. 1000000002 + sights_of e_o i + ((parts_of e_n i + (parts_of e_n i + seen_of e_m i + 1)) * 4611686018427387904 + 2 * ((e_l i + e_h i) * e_s i)) / 1000000000)
  where
    twice : (n m : ℕ) → 2 * n + m + 1 ≡ n + (n + m + 1)
    twice n m = omega arith

    parts_of : n ≡ length p.variables → n ≡ length (problem p).sizes
    parts_of e = e ∙ variables-count p

    seen_of : m ≡ length p.sights → m ≡ length (problem p).sight_sizes
    seen_of e = e ∙ sights-count p

    sights_of : joints ≡ count_of (sizes_of p.sights) → joints ≡ count_of (problem p).sight_sizes
    sights_of e = e ∙ joints-count p
