-- The observation that a word draws.
use Rattle.std.proofs.Common.{◌≡◌, ℕ, zero, suc, ◌+◌, ◌*◌, ◌^◌, ◌%◌, ◌<◌, ◌≤◌, List, length, refl, sym, ap, ◌∙◌, arith, add-one, zero-add, Bool, true, false, cond, subst, eqb, ◌≢◌, ◌⊎◌, inl, inr, Option, Some, None}
use Rattle.std.proofs.Math.Dec.{leb}
use Rattle.std.specs.Prelude.{ℤ, pos, ◌+ℤ◌, nat_lt, unwrap_or, is_some, IsSome, All}
use Rattle.std.proofs.lemmas.List.FromFn.{get_or-map-range_with_len, length-map-range_with_len}
use Rattle.std.specs.List.{range_with_len, find}
use Rattle.std.proofs.lemmas.Int.{ints}
use Rattle.std.proofs.lemmas.Bool.{leb-true, leb-false}
use Rattle.std.proofs.lemmas.Bool.Decides.{eqb_tells}
use Rattle.std.proofs.lemmas.Nat.{mod_below, mul-le}
use Rattle.sp_theory.specs.Sums.{sum_below}
use Rattle.sp_theory.specs.Points.{point_of}
use Rattle.sp_theory.specs.Model.{Model, all_own, IsLawful, HasInitial}
use Rattle.sp_theory.specs.Values.{Weights}
use Rattle.sp_theory.specs.Scaling.{total_weight, IsScaled}
use Rattle.sp_theory.specs.Beliefs.{initial_weights, unscaled_next, next_weights}
use Rattle.sp_theory.specs.Samples.{IsFirstSample, Chooser, Sample, first_sample, sample_at, samples, IsNextSample, AreSamplesOf, total_seen, running_total, whole_total, drawn_observation, sample_after, parent_weights, sampled}
use Rattle.sp_theory.specs.BeliefLaws.{states, observations, DrawnIsSeen, KeepsWeight, LimitsKeepWeight, IsSampled, SampleIsNext, KeepsInitial, AnswersBelow, SamplesAreNext}
use Rattle.sp_theory.specs.Agreement.{NextAgree}
use Rattle.sp_theory.proofs.Unseen.{pos-sum_by, something_seen}
use Rattle.sp_theory.proofs.Scales.{next_scaled}
use Rattle.sp_theory.proofs.Initial.{initial_scaled, owned_most}
use Rattle.sp_theory.proofs.Numbers.{point_of-point}

-- a number at which a rising count first exceeds a target
pub record IsFirstAbove (count : ℕ → ℕ) (target a n o : ℕ) : Type 0 where
  pub from : a ≤ o
  pub below : o < a + n
  pub before : count o ≤ target
  pub exceeds : target < count (suc o)

-- the search finds it
find_first : (count : ℕ → ℕ) (target a n : ℕ) → count a ≤ target → target < count (a + n)
    → (o : ℕ) × (find (λ o. nat_lt target (count (suc o))) (range_with_len a n) ≡ Some o) × IsFirstAbove count target a n o
find_first count target a zero low high = absurd (let same = ap count (none a) in omega (arith, low, high, same))
  where
    none : (a : ℕ) → a + 0 ≡ a
    none a = omega arith
find_first count target a (suc n) low high = by_test (leb (suc target) (count (suc a))) refl (find_first count target (suc a) n)
  where
    Found : Bool → Type 0
    Found b = (o : ℕ) × (cond b (Some a) (find (λ o. nat_lt target (count (suc o))) (range_with_len (a + 1) n)) ≡ Some o) × IsFirstAbove count target a (suc n) o

    more : target < count (suc a + n)
    more = subst (λ (k : ℕ). target < count k) (moved a n) high
      where
        moved : (a n : ℕ) → a + suc n ≡ suc a + n
        moved a n = omega arith

    by_test : (b : Bool) → leb (suc target) (count (suc a)) ≡ b
        → (count (suc a) ≤ target → target < count (suc a + n) → (o : ℕ) × (find (λ o. nat_lt target (count (suc o))) (range_with_len (suc a) n) ≡ Some o) × IsFirstAbove count target (suc a) n o)
        → Found b
    by_test true e rest = (a, refl, record { from = omega arith; below = omega arith; before = low; exceeds = leb-true _ _ e })
    by_test false e rest =
        let found = rest (let less = leb-false (suc target) (count (suc a)) e in omega (arith, less)) more in
        let is = found.2 in (
          found.0,
          ap (λ (b : ℕ). find (λ o. nat_lt target (count (suc o))) (range_with_len b n)) (add-one a) ∙ found.1,
          record { from = omega (arith, is.from); below = omega (arith, is.below); before = is.before; exceeds = is.exceeds },
        )

running_total_more : (m : Model) (w : Weights) (a o : ℕ) → running_total m w a (suc o) ≡ running_total m w a o + total_seen m w a o
unfolding sum_below
running_total_more m w a o = same _ _ (pos-sum_by (total_seen m w a) 0 (suc o) ∙ ap (λ (z : ℤ). z +ℤ pos (total_seen m w a (0 + o))) (sym (pos-sum_by (total_seen m w a) 0 o)) ∙ ap (λ (i : ℕ). pos (running_total m w a o + total_seen m w a i)) (zero-add o))
  where
    same : (a b : ℕ) → pos a ≡ pos b → a ≡ b
    same a b e = omega (arith, ints, e)

pub drawn_seen : DrawnIsSeen
unfolding drawn_observation total_seen next_weights
drawn_seen m w a word some = with_found (find_first (running_total m w a) target 0 (observations m) (omega arith) (subst (λ (k : ℕ). target < running_total m w a k) (sym (zero-add (observations m))) (mod_below word (whole_total m w a) some)))
  where
    target : ℕ
    target = word % whole_total m w a

    seen : ℕ → Type 0
    seen o = (o < observations m) × IsSome (next_weights m w a (point_of m.sight_sizes o))

    by_test : (n : ℕ) (v : Weights) → 0 < n → (b : Bool) → ((eqb n 0 ≡ true) × (n ≡ 0)) ⊎ ((eqb n 0 ≡ false) × (n ≢ 0)) → eqb n 0 ≡ b → is_some (cond b None (Some v)) ≡ true
    by_test n v more false told e = refl
    by_test n v more true (inl (is, none)) e = absurd (omega (arith, more, none))
    by_test n v more true (inr (is, differ)) e = absurd (cc)

    with_found : (o : ℕ) × (find (λ o. nat_lt target (running_total m w a (suc o))) (range_with_len 0 (observations m)) ≡ Some o) × IsFirstAbove (running_total m w a) target 0 (observations m) o → seen (drawn_observation m w a word)
    with_found (o, found, is) = subst seen (sym (ap (λ (x : Option ℕ). unwrap_or x 0) found)) (
      omega (arith, is.below),
      by_test (total_weight m (unscaled_next m w a (point_of m.sight_sizes o))) _ (let more = running_total_more m w a o in omega (arith, more, is.before, is.exceeds)) (eqb (total_weight m (unscaled_next m w a (point_of m.sight_sizes o))) 0) (eqb_tells _ 0) refl,
    )

-- ---- samples
pub sample_next : SampleIsNext
unfolding sample_after
sample_next m lawful keeps w scale a known word =
    let some = something_seen m lawful w scale a known keeps in
    let drawn = drawn_seen m w a word some in
    let is = some_is (next_weights m w a (point_of m.sight_sizes (drawn_observation m w a word))) w drawn.1 in
    record { known = known; seen = drawn.0; next = is; scale = next_scaled m lawful w scale a known _ (point_of-point m.sight_sizes (drawn_observation m w a word) drawn.0) _ is }
  where
    some_is : (o : Option Weights) (d : Weights) → IsSome o → o ≡ Some (unwrap_or o d)
    some_is (Some v) d e = refl
    some_is None d e = absurd (cc)

pub limits_keep : LimitsKeepWeight
limits_keep m few many less fewer = (few_lost, owned_few)
  where
    few_lost : KeepsWeight m
    few_lost =
        let moved = mul-le (length m.sizes) (states m * states m) 24 (2 ^ 24 * 2 ^ 24) few (mul-le (states m) (states m) (2 ^ 24) (2 ^ 24) many many) in
        let seen = mul-le (length m.sight_sizes) (states m * observations m) 8 (2 ^ 24 * 4096) less (mul-le (states m) (observations m) (2 ^ 24) 4096 many fewer) in
        omega (arith, moved, seen)

    owned_few : HasInitial m → KeepsInitial m
    owned_few law = let owned = owned_most m law in let all = mul-le (length (all_own m.factors)) (states m) 24 (2 ^ 24) (omega (arith, owned, few)) many in omega (arith, all)

-- each belief of the samples is to scale, and each after the first is the next one of its parent
module _ {S : Type 0} (m : Model) (lawful : IsLawful m) (initial : HasInitial m) (some : 0 < states m) (factors : KeepsInitial m) (keeps : KeepsWeight m)
    (chooser : Chooser S) (answers : AnswersBelow chooser) (depth : ℕ) (words : List ℕ) where
  parent_scaled : (k : ℕ) (w : Weights) → IsScaled m w → IsScaled m (parent_weights m depth k w)
  parent_scaled k w scale = by_test (eqb (k % depth) 0)
    where
      by_test : (b : Bool) → IsScaled m (cond b (initial_weights m) w)
      by_test true = initial_scaled m initial some factors
      by_test false = scale

  pub sampled_scaled : (k : ℕ) → IsScaled m (sampled m chooser depth words k).0.weights
  unfolding sampled
  sampled_scaled zero = initial_scaled m initial some factors
  sampled_scaled (suc k) = (sample_next m lawful keeps _ (parent_scaled k _ (sampled_scaled k)) _ (answers (sampled m chooser depth words k).1 (k % depth) m.actions _ lawful.some_action) _).scale

  pub sampled_next : (k : ℕ) → IsSampled m (parent_weights m depth k (sampled m chooser depth words k).0.weights) (sampled m chooser depth words (suc k)).0
  unfolding sampled
  sampled_next k = sample_next m lawful keeps _ (parent_scaled k _ (sampled_scaled k)) _ (answers (sampled m chooser depth words k).1 (k % depth) m.actions _ lawful.some_action) _

  opening_first : IsFirstSample m (sampled m chooser depth words 0).0
  unfolding sampled
  opening_first = record { action = refl; observation = refl; weights = λ s at. refl }

  -- sample k of a list
  sample_is : (count k : ℕ) → k < count → sample_at m (samples m chooser depth words count) k ≡ (sampled m chooser depth words k).0
  sample_is count k less = get_or-map-range_with_len (λ i. (sampled m chooser depth words i).0) 0 count k k (first_sample m) less (zero-add k)

  some_agree : (o : Option Weights) (w : Weights) → o ≡ Some w → NextAgree m o (Some w)
  some_agree o w is = subst (λ (x : Option Weights). NextAgree m x (Some w)) (sym is) (λ s at. refl)

  is_next : (parent : Weights) (x : Sample) → IsSampled m parent x → IsNextSample m parent x
  is_next parent x is = record { known = is.known; seen = is.seen; next = some_agree _ x.weights is.next }

  are_samples : (count : ℕ) → AreSamplesOf m depth (samples m chooser depth words count)
  are_samples count = record {
    first = λ some. subst (IsFirstSample m) (sym (sample_is count 0 (less_of some))) opening_first;
    later = λ k less.
        let within = suc_less k less in
        subst (λ (x : Sample). IsNextSample m (parent_weights m depth k x.weights) (sample_at m (samples m chooser depth words count) (suc k))) (sym (sample_is count k (omega (arith, within))))
        (subst (IsNextSample m (parent_weights m depth k (sampled m chooser depth words k).0.weights)) (sym (sample_is count (suc k) within)) (is_next _ _ (sampled_next k)));
  }
    where
      less_of : 0 < length (samples m chooser depth words count) → 0 < count
      less_of some = omega (arith, some, length-map-range_with_len (λ i. (sampled m chooser depth words i).0) 0 count)

      suc_less : (k : ℕ) → suc k < length (samples m chooser depth words count) → suc k < count
      suc_less k less = omega (arith, less, length-map-range_with_len (λ i. (sampled m chooser depth words i).0) 0 count)

  all_scaled : (count : ℕ) → All (λ x. IsScaled m x.weights) (samples m chooser depth words count)
  all_scaled count k d less =
      let within : k < count = omega (arith, less, length-map-range_with_len (λ i. (sampled m chooser depth words i).0) 0 count) in
      subst (λ (x : Sample). IsScaled m x.weights) (sym (get_or-map-range_with_len (λ i. (sampled m chooser depth words i).0) 0 count k k d within (zero-add k))) (sampled_scaled k)

-- for choosers with states of every type
pub samples_next : (S : Type 0) → SamplesAreNext S
samples_next S m lawful initial some factors keeps chooser answers depth words count =
    (are_samples m lawful initial some factors keeps chooser answers depth words count, all_scaled m lawful initial some factors keeps chooser answers depth words count)
