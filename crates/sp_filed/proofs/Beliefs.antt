-- Sampled beliefs, one after another.
use Rattle.std.proofs.Common.{◌≡◌, ℕ, suc, ◌%◌, ◌<◌, List, [], ◌∷◌, ◌++◌, length, get_or, map, Bool, true, false, cond, eqb, Option, Some, None, below_more, refl, ap, sym, ◌∙◌, arith, subst}
use Rattle.std.specs.Prelude.{slice_get}
use Rattle.std.specs.List.{AllByRecursion}
use Rattle.std.proofs.lemmas.List.{length-map, get_or-map, map-append, length-append}
use Rattle.std.proofs.lemmas.List.Elements.{All-append, All-cons, All-nil}
use Rattle.std.proofs.lemmas.Option.{slice_get_within, get_or_from_slice_get}
use Rattle.sp_theory.specs.Model as problems
use Rattle.std.proofs.Math.ListN.{get_or-append}
use Rattle.std.proofs.Math.Seq.{get_or-append_seam}
use Rattle.sp_theory.specs.Points.{count_of, point_of}
use Rattle.sp_theory.specs.Values.{Weights}
use Rattle.sp_theory.specs.Agreement.{WeightsAgree, NextAgree}
use Rattle.sp_theory.specs.Beliefs.{initial_weights, next_weights}
use Rattle.sp_theory.proofs.LogLemmas.{next_agrees}
use Rattle.sp_theory.specs.Samples as theory
use Rattle.sp_dd.specs.Func.{Func}
use Rattle.sp_model.specs.declared.parts.Parts.{Parts}
use Rattle.sp_model.specs.declared.beliefs.Sample.{Sample}
use Rattle.sp_model.specs.Problem.{shape_of, sizes_of, problem}
use Rattle.sp_model.specs.Kept.{IsModel}
use Rattle.sp_model.specs.Links.{sample_of, weights_of}
use Rattle.sp_belief.specs.Updates.{AreInitial, AreNext}
use Rattle.sp_lines.proofs.Lists.{all_push}
use Rattle.sp_planfile.specs.Contents.{moves_of, move_of}
use Rattle.sp_filed.specs.declared.sizes.Sizes.{Sizes}
use Rattle.sp_filed.specs.Sizes.{IsMoveOf}
use Rattle.sp_filed.specs.Sampled.{AreSampledBy, parent_number}

pub parent_below : (depth k n : ℕ) → n ≡ suc k → parent_number depth k < n
parent_below depth k n is = by_test (eqb (k % depth) 0)
  where
    by_test : (b : Bool) → cond b 0 k < n
    by_test true = omega (arith, is)
    by_test false = omega (arith, is)

-- belief 0
pub first_sampled : (p : Parts) (s : Sizes) (depth : ℕ) (w : Func) (xs : List Sample) → IsModel p → AreInitial p w → xs ≡ record { action = 0; observation = 0; weights = w } ∷ [] → AreSampledBy p s depth xs
first_sampled p s depth w xs known initial is = subst (AreSampledBy p s depth) (sym is) (record {
  scopes = All-cons (λ (x : Sample). x.weights.shape ≡ shape_of p) first [] (initial.scope ∙ known.scope) (All-nil (λ (x : Sample). x.weights.shape ≡ shape_of p));
  of_model = record { first = λ some. record { action = refl; observation = refl; weights = initial.agree }; later = λ k less. absurd (omega (arith, less)) };
  moves = tt;
})
  where
    first : Sample
    first = record { action = 0; observation = 0; weights = w }

-- ---- one more sample of the theory
pub weights_sym : (m : problems.Model) (v w : Weights) → WeightsAgree m v w → WeightsAgree m w v
weights_sym m v w agree s at = sym (agree s at)

pub next_trans : (m : problems.Model) (o r t : Option Weights) → NextAgree m o r → NextAgree m r t → NextAgree m o t
next_trans m None None None h k = tt
next_trans m (Some u) (Some v) (Some w) h k = λ s at. h s at ∙ k s at
next_trans m None None (Some w) h k = absurd k
next_trans m (Some u) (Some v) None h k = absurd k
next_trans m None (Some v) t h k = absurd h
next_trans m (Some u) None t h k = absurd h

module _ (m : problems.Model) (depth k : ℕ) (xs : List theory.Sample) (count : length xs ≡ suc k) (before : theory.AreSamplesOf m depth xs) where
  parent_of_list : WeightsAgree m (theory.parent_weights m depth k (theory.sample_at m xs k).weights) (theory.sample_at m xs (parent_number depth k)).weights
  parent_of_list = by_test (eqb (k % depth) 0)
    where
      by_test : (b : Bool) → WeightsAgree m (cond b (initial_weights m) (theory.sample_at m xs k).weights) (theory.sample_at m xs (cond b 0 k)).weights
      by_test true = weights_sym m _ _ (before.first (omega (arith, count))).weights
      by_test false = λ s at. refl

  module _ (x : theory.Sample) (known : x.action < m.actions) (seen : x.observation < count_of m.sight_sizes)
      (next : NextAgree m (next_weights m (theory.sample_at m xs (parent_number depth k)).weights x.action (point_of m.sight_sizes x.observation)) (Some x.weights)) where
    more : List theory.Sample
    more = xs ++ (x ∷ [])

    more_before : (j : ℕ) → j < suc k → theory.sample_at m xs j ≡ theory.sample_at m more j
    unfolding more
    more_before j less = sym (get_or-append xs (x ∷ []) (theory.first_sample m) j (omega (arith, less, count)))

    more_last : x ≡ theory.sample_at m more (suc k)
    unfolding more
    more_last = sym (ap (λ (n : ℕ). get_or (xs ++ (x ∷ [])) n (theory.first_sample m)) (sym count) ∙ get_or-append_seam xs x [] (theory.first_sample m))

    follows : theory.IsNextSample m (theory.parent_weights m depth k (theory.sample_at m xs k).weights) x
    follows = record { known = known; seen = seen; next = next_trans m _ _ _ (next_agrees m _ _ x.action _ parent_of_list) next }

    next_in : (j : ℕ) → j < suc k → (z : theory.Sample) {y : theory.Sample} → y ≡ z → theory.IsNextSample m (theory.parent_weights m depth j (theory.sample_at m xs j).weights) y → theory.IsNextSample m (theory.parent_weights m depth j (theory.sample_at m more j).weights) z
    next_in j less z {y} same is = subst (λ (z : theory.Sample). theory.IsNextSample m (theory.parent_weights m depth j (theory.sample_at m more j).weights) z) same (subst (λ (u : theory.Sample). theory.IsNextSample m (theory.parent_weights m depth j u.weights) y) (more_before j less) is)

    one_more : theory.AreSamplesOf m depth (xs ++ (x ∷ []))
    unfolding more
    one_more = record {
      first = λ some. subst (theory.IsFirstSample m) (more_before 0 (omega arith)) (before.first (omega (arith, count)));
      later = λ j less. below_more next_at k
          (λ j less. next_in j (omega (arith, less)) (theory.sample_at m more (suc j)) (more_before (suc j) (omega (arith, less))) (before.later j (omega (arith, less, count))))
          (next_in k (omega arith) (theory.sample_at m more (suc k)) more_last follows) j (omega (arith, less, count, length-append xs (x ∷ [])));
    }
      where
        next_at : ℕ → Type 0
        next_at j = theory.IsNextSample m (theory.parent_weights m depth j (theory.sample_at m (xs ++ (x ∷ [])) j).weights) (theory.sample_at m (xs ++ (x ∷ [])) (suc j))

pub moves_push : (xs : List Sample) (x : Sample) → 0 < length xs → moves_of (xs ++ (x ∷ [])) ≡ moves_of xs ++ (move_of x ∷ [])
moves_push [] x some = absurd (omega (arith, some))
moves_push (y ∷ xs) x some = map-append move_of xs (x ∷ [])

module _ (p : Parts) (known : IsModel p) (s : Sizes) (actions : s.actions ≡ length p.actions) (joint : s.joint ≡ count_of (sizes_of p.sights)) (depth k : ℕ) (xs : List Sample)
    (before : AreSampledBy p s depth xs) (count : length xs ≡ suc k) (j : ℕ) (at : j ≡ parent_number depth k) (parent : Sample) (is : slice_get xs j ≡ Some parent) where
  pub parent_scope : parent.weights.shape ≡ p.scope
  parent_scope = subst (λ (x : Sample). x.weights.shape ≡ shape_of p) (get_or_from_slice_get xs j parent parent is) (before.scopes j parent (slice_get_within xs j parent is)) ∙ sym known.scope

  parent_is : sample_of p parent ≡ theory.sample_at (problem p) (map (sample_of p) xs) (parent_number depth k)
  parent_is =
      sym (get_or-map (sample_of p) xs j parent _ (slice_get_within xs j parent is) ∙ ap (sample_of p) (get_or_from_slice_get xs j parent parent is))
      ∙ ap (theory.sample_at (problem p) (map (sample_of p) xs)) at

  pub sampled_more : (x : Sample) (ys : List Sample) → IsMoveOf s (move_of x) → AreNext p parent.weights x.action x.observation x.weights → ys ≡ xs ++ (x ∷ []) → AreSampledBy p s depth ys
  unfolding problem
  sampled_more x ys good next pushed = subst (AreSampledBy p s depth) (sym pushed) (record {
    scopes = All-append (λ (x : Sample). x.weights.shape ≡ shape_of p) xs (x ∷ []) before.scopes (All-cons (λ (x : Sample). x.weights.shape ≡ shape_of p) x [] (next.scope ∙ known.scope) (All-nil (λ (x : Sample). x.weights.shape ≡ shape_of p)));
    of_model = subst (theory.AreSamplesOf (problem p) depth) (sym (map-append (sample_of p) xs (x ∷ [])))
        (one_more (problem p) depth k (map (sample_of p) xs) (length-map xs (sample_of p) ∙ count) before.of_model (sample_of p x)
        (omega (arith, good.0.0, actions)) (omega (arith, good.0.1, joint))
        (subst (λ (y : theory.Sample). NextAgree (problem p) (next_weights (problem p) y.weights x.action (point_of (problem p).sight_sizes x.observation)) (Some (weights_of p x.weights))) parent_is next.agree));
    moves = subst (AllByRecursion (IsMoveOf s)) (sym (moves_push xs x (omega (arith, count)))) (all_push (IsMoveOf s) (moves_of xs) (move_of x) before.moves good);
  })
