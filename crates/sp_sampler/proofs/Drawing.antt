-- The observation that a word draws: the running totals tell it, and weights that agree draw the same.
use Rattle.std.proofs.Common.{◌≡◌, ℕ, suc, ◌+◌, ◌%◌, ◌<◌, ◌≤◌, sym, ◌∙◌, ap, subst, arith, zero-add, add-one, List, [], ◌∷◌, ◌++◌, map, length, take, get_or, Bool, Some, Option}
use Rattle.std.specs.Prelude.{nat_lt, unwrap_or, slice_get, sum, sum_by, IsSome}
use Rattle.std.specs.List.{range_with_len, find}
use Rattle.std.proofs.lemmas.List.{take-take}
use Rattle.std.proofs.lemmas.List.FromFn.{get_or-range_with_len, length-range_with_len, length-map-range_with_len, take-map-range_with_len}
use Rattle.std.proofs.lemmas.List.Sums.{sum-map, sum_by-take-le, sum_by_more, position_or_len_is}
use Rattle.std.proofs.lemmas.List.Folds.{find_at}
use Rattle.std.proofs.lemmas.Bool.{lt-ltb, le-ltb}
use Rattle.std.proofs.lemmas.Option.{slice_get-get_or}
use Rattle.sp_theory.specs.Points.{count_of, point_of}
use Rattle.sp_theory.specs.Model.{Model}
use Rattle.sp_theory.specs.Values.{Weights}
use Rattle.sp_theory.specs.Agreement.{WeightsAgree}
use Rattle.sp_theory.specs.Samples.{total_seen, running_total, whole_total, drawn_observation}
use Rattle.sp_theory.proofs.LogLemmas.{unscaled_agrees, total_weight_same}
use Rattle.sp_theory.specs.Beliefs.{next_weights}
use Rattle.sp_theory.proofs.Drawn.{drawn_seen}
use Rattle.std.proofs.lemmas.Nat.{mod_below}
use Rattle.sp_dd.specs.Func.{Func}
use Rattle.sp_model.specs.declared.parts.Parts.{Parts}
use Rattle.sp_model.specs.Problem.{sizes_of, problem}
use Rattle.sp_model.specs.Links.{weights_of}
use Rattle.sp_belief.specs.Updates.{total_after}
use Rattle.sp_sampler.specs.Totals.{Exceeds}
use Rattle.sp_sampler.specs.Sampled.{IsDrawnObservation}

-- the least number below n whose next running sum exceeds a target
drawn_by : (ℕ → ℕ) → ℕ → ℕ → ℕ
drawn_by f n word = unwrap_or (find (λ o. nat_lt (word % sum_by f (range_with_len 0 n)) (sum_by f (range_with_len 0 (suc o)))) (range_with_len 0 n)) 0

-- ---- weights that agree
total_seen_same : (m : Model) (v w : Weights) (a o : ℕ) → WeightsAgree m v w → total_seen m v a o ≡ total_seen m w a o
unfolding total_seen
total_seen_same m v w a o agree = total_weight_same m _ _ (unscaled_agrees m v w a (point_of m.sight_sizes o) agree)

pub drawn_same : (m : Model) (v w : Weights) (a word : ℕ) → WeightsAgree m v w → drawn_observation m v a word ≡ drawn_observation m w a word
unfolding drawn_observation drawn_by
drawn_same m v w a word agree = λ h. drawn_by (λ o. total_seen_same m v w a o agree h) (count_of m.sight_sizes) word

-- ---- running totals
pub exceeds_here : (xs : List ℕ) (target running place : ℕ) → running ≡ sum (take place xs) → running ≤ target → place < length xs → target < running + get_or xs place 0 → Exceeds xs target place
exceeds_here xs target running place is before within above =
    let more = ap (λ (n : ℕ). sum (take n xs)) (sym (add-one place)) ∙ sum_by_more (λ x. x) xs place 0 within in
    record { within = within; before = subst (λ (n : ℕ). n ≤ target) is before; above = omega (arith, more, is, above) }

found : (f : ℕ → ℕ) (n target place : ℕ) → place < n
    → ((o : ℕ) → o < place → sum_by f (range_with_len 0 (suc o)) ≤ target)
    → target < sum_by f (range_with_len 0 (suc place))
    → find (λ o. nat_lt target (sum_by f (range_with_len 0 (suc o)))) (range_with_len 0 n) ≡ Some place
found f n target place within before above =
    find_at passes (range_with_len 0 n)
    ∙ ap (slice_get (range_with_len 0 n)) (position_or_len_is passes (range_with_len 0 n) place 0 (omega (arith, within, length-range_with_len 0 n))
    (λ k less. ap passes (number k (omega (arith, less, within))) ∙ le-ltb target (sum_by f (range_with_len 0 (suc k))) (before k less))
    (λ less. ap passes (number place within) ∙ lt-ltb target (sum_by f (range_with_len 0 (suc place))) above))
    ∙ slice_get-get_or (range_with_len 0 n) place 0 (omega (arith, within, length-range_with_len 0 n))
    ∙ ap Some (number place within)
  where
    passes : ℕ → Bool
    passes o = nat_lt target (sum_by f (range_with_len 0 (suc o)))

    number : (k : ℕ) → k < n → get_or (range_with_len 0 n) k 0 ≡ k
    number k less = get_or-range_with_len 0 n k 0 less ∙ zero-add k

module _ (m : Model) (w : Weights) (a : ℕ) (totals : List ℕ) (are : totals ≡ map (total_seen m w a) (range_with_len 0 (count_of m.sight_sizes))) where
  -- how many totals there are
  pub count-totals : length totals ≡ count_of m.sight_sizes
  count-totals = ap length are ∙ length-map-range_with_len (total_seen m w a) 0 (count_of m.sight_sizes)

  sum-running : (k : ℕ) → k ≤ count_of m.sight_sizes → sum (take k totals) ≡ running_total m w a k
  sum-running k less =
      ap (λ (xs : List ℕ). sum (take k xs)) are
      ∙ ap sum (take-map-range_with_len (total_seen m w a) 0 (count_of m.sight_sizes) k less)
      ∙ sum-map (total_seen m w a) (range_with_len 0 k)

  pub sum-whole : sum totals ≡ whole_total m w a
  sum-whole = ap sum are ∙ sum-map (total_seen m w a) (range_with_len 0 (count_of m.sight_sizes))

  pub exceeding_drawn : (word place : ℕ) → Exceeds totals (word % sum totals) place → (place < count_of m.sight_sizes) × (place ≡ drawn_observation m w a word)
  unfolding drawn_observation
  exceeding_drawn word place is =
      let within : place < count_of m.sight_sizes = omega (arith, is.within, count-totals) in
      let target = word % sum totals in
      let before : (o : ℕ) → o < place → running_total m w a (suc o) ≤ target = λ o less.
      subst (λ (n : ℕ). n ≤ target) (ap sum (take-take (suc o) place totals less) ∙ sum-running (suc o) (omega (arith, less, within)))
      (let part = sum_by-take-le (λ x. x) (take place totals) (suc o) in omega (arith, part, is.before)) in
      let above : target < running_total m w a (suc place) = subst (λ (n : ℕ). target < n) (sum-running (suc place) within) is.above in
      (within, sym (ap (λ (o : Option ℕ). unwrap_or o 0) (ap (λ (n : ℕ). find (λ o. nat_lt (word % n) (running_total m w a (suc o))) (range_with_len 0 (count_of m.sight_sizes))) (sym sum-whole) ∙ found (total_seen m w a) (count_of m.sight_sizes) target place within before above)))

-- ---- the totals of a model's observations, as the code has them
pub slice_count : (p : Parts) (w : Func) (a : ℕ) (totals slice : List ℕ) → totals ≡ map (total_after p w a) (range_with_len 0 (count_of (sizes_of p.sights))) → slice ≡ totals → length slice ≡ count_of (sizes_of p.sights)
slice_count p w a totals slice are same = ap length (same ∙ are) ∙ length-map-range_with_len (total_after p w a) 0 (count_of (sizes_of p.sights))

module _ (p : Parts) (w : Func) (a : ℕ) (totals slice : List ℕ) (are : totals ≡ map (total_after p w a) (range_with_len 0 (count_of (sizes_of p.sights)))) (same : slice ≡ totals) (some : 0 < whole_total (problem p) (weights_of p w) a) where
  whole-is : sum slice ≡ whole_total (problem p) (weights_of p w) a
  unfolding problem
  whole-is = ap sum same ∙ sum-whole (problem p) (weights_of p w) a totals are

  pub whole_some : (whole : ℕ) → whole ≡ sum slice → 0 < whole
  whole_some whole is = subst (λ (n : ℕ). 0 < n) (sym (is ∙ whole-is)) some

  pub remainder_below : (word whole : ℕ) → whole ≡ sum slice → word % whole < sum slice
  remainder_below word whole is = subst (λ (n : ℕ). word % whole < n) is (mod_below word whole (whole_some whole is))

  pub observed_is : (word whole place : ℕ) → whole ≡ sum slice → Exceeds slice (word % whole) place → IsDrawnObservation p w a word place
  unfolding problem
  observed_is word whole place is exceeds =
      let drawn = exceeding_drawn (problem p) (weights_of p w) a slice (same ∙ are) word place (subst (λ (n : ℕ). Exceeds slice (word % n) place) is exceeds) in
      record {
        within = drawn.0;
        drawn = drawn.1;
        seen = subst (λ (o : ℕ). IsSome (next_weights (problem p) (weights_of p w) a (point_of (problem p).sight_sizes o))) (sym drawn.1) (drawn_seen (problem p) (weights_of p w) a word some).1;
      }
