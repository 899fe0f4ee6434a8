-- One more sampled belief.
use Rattle.std.proofs.Common.{◌≡◌, ℕ, zero, suc, ◌+◌, ◌*◌, ◌%◌, ◌<◌, refl, sym, ◌∙◌, ap, subst, arith, below_more, cond, eqb, Bool, true, false, List, [], ◌∷◌, ◌++◌, length, get_or, Option, Some, None, length-append}
use Rattle.std.specs.Prelude.{unwrap_or}
use Rattle.std.proofs.Math.ListN.{get_or-append}
use Rattle.std.proofs.Math.Seq.{get_or-append_seam}
use Rattle.sp_theory.specs.Points.{count_of, point_of}
use Rattle.sp_theory.specs.Model.{Model}
use Rattle.sp_theory.specs.Values.{Weights}
use Rattle.sp_theory.specs.Agreement.{WeightsAgree, NextAgree}
use Rattle.sp_theory.specs.Beliefs.{initial_weights, next_weights}
use Rattle.sp_theory.specs.Samples.{Chooser, Sample, first_sample, sample_after, sampled, parent_weights, drawn_observation, sample_at, IsFirstSample, IsNextSample, AreSamplesOf}
use Rattle.sp_theory.proofs.LogLemmas.{next_agrees}
use Rattle.sp_sampler.specs.Sampled.{SamplesAgree, parent_number}
use Rattle.sp_sampler.proofs.Drawing.{drawn_same}

-- ---- agreement
weights_sym : (m : Model) (v w : Weights) → WeightsAgree m v w → WeightsAgree m w v
weights_sym m v w agree s at = sym (agree s at)

next_trans : (m : Model) (o r t : Option Weights) → NextAgree m o r → NextAgree m r t → NextAgree m o t
next_trans m None None None h k = tt
next_trans m (Some u) (Some v) (Some w) h k = λ s at. h s at ∙ k s at
next_trans m None None (Some w) h k = absurd k
next_trans m (Some u) (Some v) None h k = absurd k
next_trans m None (Some v) t h k = absurd h
next_trans m (Some u) None t h k = absurd h

some_agrees : (m : Model) (o : Option Weights) (w d : Weights) → NextAgree m o (Some w) → WeightsAgree m w (unwrap_or o d)
some_agrees m (Some v) w d h = λ s at. sym (h s at)
some_agrees m None w d h = absurd h

-- what holds below n and at n
below_last : (P : ℕ → Type 0) (n : ℕ) → ((j : ℕ) → j < n → P j) → P n → (j : ℕ) → j < suc n → P j
below_last P n below here j less = below_more P n below here j (omega (arith, less))

-- ---- theory lists that a chooser and words sample
module _ (m : Model) {S : Type 0} (chooser : Chooser S) (depth : ℕ) (words : List ℕ) where
  -- n samples that agree with those sampled, and are samples of the model
  pub record AreSoFar (n : ℕ) (xs : List Sample) : Type 0 where
    pub count : length xs ≡ n
    pub agree : (k : ℕ) → k < n → SamplesAgree m (sample_at m xs k) (sampled m chooser depth words k).0
    pub of_model : AreSamplesOf m depth xs

  pub first_so_far : (x : Sample) → IsFirstSample m x → AreSoFar 1 (x ∷ [])
  unfolding sampled
  first_so_far x is = record {
    count = refl;
    agree = λ k less. at k less;
    of_model = record { first = λ some. is; later = λ k less. absurd (omega (arith, less)) };
  }
    where
      at : (k : ℕ) → k < 1 → SamplesAgree m (sample_at m (x ∷ []) k) (sampled m chooser depth words k).0
      at zero less = record { action = is.action; observation = is.observation; weights = is.weights }
      at (suc k) less = absurd (omega (arith, less))

  module _ (k : ℕ) (xs : List Sample) (before : AreSoFar (suc k) xs) where
    abbrev pub parent : Sample
    parent = sample_at m xs (parent_number depth k)

    -- the parent has the weights of the theory's parent
    parent_sampled : WeightsAgree m parent.weights (parent_weights m depth k (sampled m chooser depth words k).0.weights)
    unfolding sampled
    parent_sampled = by_test (eqb (k % depth) 0)
      where
        by_test : (b : Bool) → WeightsAgree m (sample_at m xs (cond b 0 k)).weights (cond b (initial_weights m) (sampled m chooser depth words k).0.weights)
        by_test true = (before.agree 0 (omega arith)).weights
        by_test false = (before.agree k (omega arith)).weights

    parent_of_list : WeightsAgree m (parent_weights m depth k (sample_at m xs k).weights) parent.weights
    parent_of_list = by_test (eqb (k % depth) 0)
      where
        by_test : (b : Bool) → WeightsAgree m (cond b (initial_weights m) (sample_at m xs k).weights) (sample_at m xs (cond b 0 k)).weights
        by_test true = weights_sym m _ _ (before.of_model.first (omega (arith, before.count))).weights
        by_test false = λ s at. refl

    -- the action and the word for the observation
    abbrev pub action : ℕ
    action = chooser.answer (sampled m chooser depth words k).1 (k % depth) m.actions (get_or words (2 * k) 0)

    abbrev pub word : ℕ
    word = get_or words (2 * k + 1) 0

    -- the belief that they give
    module _ (x : Sample) (acts : x.action ≡ action) (known : x.action < m.actions) (seen : x.observation < count_of m.sight_sizes) (drawn : x.observation ≡ drawn_observation m parent.weights action word)
        (next : NextAgree m (next_weights m parent.weights action (point_of m.sight_sizes x.observation)) (Some x.weights)) where
      more : List Sample
      more = xs ++ x ∷ []

      more_before : (j : ℕ) → j < suc k → sample_at m xs j ≡ sample_at m more j
      unfolding more
      more_before j less = sym (get_or-append xs (x ∷ []) (first_sample m) j (omega (arith, less, before.count)))

      more_last : x ≡ sample_at m more (suc k)
      unfolding more
      more_last = sym (ap (λ (n : ℕ). get_or (xs ++ x ∷ []) n (first_sample m)) (sym before.count) ∙ get_or-append_seam xs x [] (first_sample m))

      count_more : length more ≡ suc (suc k)
      unfolding more
      count_more = length-append xs (x ∷ []) ∙ omega (arith, before.count)

      agrees : SamplesAgree m x (sampled m chooser depth words (suc k)).0
      unfolding sampled sample_after
      agrees =
          let same = drawn_same m _ _ action word parent_sampled in
          record {
            action = acts;
            observation = drawn ∙ same;
            weights = some_agrees m _ x.weights _ (next_trans m _ _ _ (next_agrees m _ _ action _ (weights_sym m _ _ parent_sampled)) (subst (λ (o : ℕ). NextAgree m (next_weights m parent.weights action (point_of m.sight_sizes o)) (Some x.weights)) (drawn ∙ same) next));
          }

      follows : IsNextSample m (parent_weights m depth k (sample_at m xs k).weights) x
      follows = record {
        known = known;
        seen = seen;
        next = subst (λ (a : ℕ). NextAgree m (next_weights m (parent_weights m depth k (sample_at m xs k).weights) a (point_of m.sight_sizes x.observation)) (Some x.weights)) (sym acts) (next_trans m _ _ _ (next_agrees m _ _ action _ parent_of_list) next);
      }

      pub one_more : AreSoFar (suc (suc k)) (xs ++ x ∷ [])
      unfolding more
      one_more = record {
        count = count_more;
        agree = λ j less. below_last agree_at (suc k) (λ j less. subst (λ (y : Sample). SamplesAgree m y (sampled m chooser depth words j).0) (more_before j less) (before.agree j less)) (subst (λ (y : Sample). SamplesAgree m y (sampled m chooser depth words (suc k)).0) more_last agrees) j less;
        of_model = record {
          first = λ some. subst (IsFirstSample m) (more_before 0 (omega arith)) (before.of_model.first (omega (arith, before.count)));
          later = λ j less. below_last next_at k
              (λ j less. next_in j (omega (arith, less)) (sample_at m more (suc j)) (more_before (suc j) (omega (arith, less))) (before.of_model.later j (omega (arith, less, before.count))))
              (next_in k (omega arith) (sample_at m more (suc k)) more_last follows) j (omega (arith, less, count_more));
        };
      }
        where
          agree_at : ℕ → Type 0
          agree_at j = SamplesAgree m (sample_at m (xs ++ x ∷ []) j) (sampled m chooser depth words j).0

          next_at : ℕ → Type 0
          next_at j = IsNextSample m (parent_weights m depth j (sample_at m (xs ++ x ∷ []) j).weights) (sample_at m (xs ++ x ∷ []) (suc j))

          next_in : (j : ℕ) → j < suc k → (z : Sample) {y : Sample} → y ≡ z → IsNextSample m (parent_weights m depth j (sample_at m xs j).weights) y → IsNextSample m (parent_weights m depth j (sample_at m more j).weights) z
          next_in j less z {y} same is = subst (λ (z : Sample). IsNextSample m (parent_weights m depth j (sample_at m more j).weights) z) same (subst (λ (u : Sample). IsNextSample m (parent_weights m depth j u.weights) y) (more_before j less) is)
