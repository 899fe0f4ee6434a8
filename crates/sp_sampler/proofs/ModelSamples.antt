-- The sampled beliefs of a model, one after another.
use Rattle.std.proofs.Common.{◌≡◌, ℕ, suc, ◌+◌, ◌*◌, ◌%◌, ◌<◌, refl, sym, ◌∙◌, ap, subst, arith, Bool, true, false, cond, eqb, List, [], ◌∷◌, ◌++◌, length, get_or, map, Some}
use Rattle.std.specs.Prelude.{All, slice_get}
use Rattle.std.proofs.lemmas.List.{length-map, get_or-map, map-append}
use Rattle.std.proofs.lemmas.List.Elements.{All-append, All-cons, All-nil}
use Rattle.std.proofs.lemmas.Option.{slice_get_within, get_or_from_slice_get}
use Rattle.sp_dd.specs.Func.{Func}
use Rattle.sp_theory.specs.Points.{point_of}
use Rattle.sp_theory.specs.Agreement.{NextAgree}
use Rattle.sp_theory.specs.Beliefs.{next_weights}
use Rattle.sp_theory.specs.Samples as theory
use Rattle.sp_model.specs.declared.parts.Parts.{Parts}
use Rattle.sp_model.specs.declared.beliefs.Sample.{Sample}
use Rattle.sp_model.specs.Problem.{shape_of, problem}
use Rattle.sp_model.specs.Kept.{IsModel}
use Rattle.sp_model.specs.Links.{weights_of, sample_of}
use Rattle.sp_belief.specs.Updates.{AreInitial}
use Rattle.sp_choose.specs.Machines.{Machine}
use Rattle.sp_sampler.specs.Sampled.{AreSampled, IsDrawn, parent_number}
use Rattle.sp_sampler.proofs.Continued.{AreSoFar, first_so_far, one_more}

pub parent_below : (depth k n : ℕ) → n ≡ suc k → parent_number depth k < n
parent_below depth k n is = by_test (eqb (k % depth) 0)
  where
    by_test : (b : Bool) → cond b 0 k < n
    by_test true = omega (arith, is)
    by_test false = omega (arith, is)

module _ (p : Parts) (known : IsModel p) (chooser : Machine) (depth : ℕ) (words : List ℕ) where
  so_far : (n : ℕ) (xs : List Sample) → AreSampled p chooser depth words n xs → AreSoFar (problem p) chooser depth words n (map (sample_of p) xs)
  so_far n xs are = record { count = length-map xs (sample_of p) ∙ are.count; agree = are.agree; of_model = are.of_model }

  sampled_so_far : (n : ℕ) (xs : List Sample) → All (λ x. x.weights.shape ≡ shape_of p) xs → AreSoFar (problem p) chooser depth words n (map (sample_of p) xs) → AreSampled p chooser depth words n xs
  sampled_so_far n xs scopes are = record { count = sym (length-map xs (sample_of p)) ∙ are.count; scopes = scopes; agree = are.agree; of_model = are.of_model }

  pub sampled_all : (k n : ℕ) (xs : List Sample) → suc k ≡ n → AreSampled p chooser depth words (suc k) xs → AreSampled p chooser depth words n xs
  sampled_all k n xs all are = subst (λ (n : ℕ). AreSampled p chooser depth words n xs) all are

  scope_of_one : (x : Sample) → x.weights.shape ≡ p.scope → All (λ x. x.weights.shape ≡ shape_of p) (x ∷ [])
  scope_of_one x is = All-cons (λ x. x.weights.shape ≡ shape_of p) x [] (is ∙ known.scope) (All-nil (λ x. x.weights.shape ≡ shape_of p))

  pub sampled_first : (w : Func) → AreInitial p w → (none xs : List Sample) → none ≡ [] → xs ≡ none ++ record { action = 0; observation = 0; weights = w } ∷ [] → AreSampled p chooser depth words 1 xs
  sampled_first w initial none xs empty is = subst (AreSampled p chooser depth words 1) (sym (is ∙ ap (λ (xs : List Sample). xs ++ first ∷ []) empty))
      (sampled_so_far 1 (first ∷ []) (scope_of_one first initial.scope)
      (first_so_far (problem p) chooser depth words (sample_of p first) (record { action = refl; observation = refl; weights = initial.agree })))
    where
      first : Sample
      first = record { action = 0; observation = 0; weights = w }

  module _ (k : ℕ) (xs : List Sample) (before : AreSampled p chooser depth words (suc k) xs) (j : ℕ) (at : j ≡ parent_number depth k) (parent : Sample) (is : slice_get xs j ≡ Some parent) where
    pub parent_scope : parent.weights.shape ≡ p.scope
    parent_scope = subst (λ (x : Sample). x.weights.shape ≡ shape_of p) (get_or_from_slice_get xs j parent parent is) (before.scopes j parent (slice_get_within xs j parent is)) ∙ sym known.scope

    parent_is : sample_of p parent ≡ theory.sample_at (problem p) (map (sample_of p) xs) (parent_number depth k)
    parent_is =
        sym (get_or-map (sample_of p) xs j parent _ (slice_get_within xs j parent is) ∙ ap (sample_of p) (get_or_from_slice_get xs j parent parent is))
        ∙ ap (theory.sample_at (problem p) (map (sample_of p) xs)) at

    pub sampled_more : (a word : ℕ) → a ≡ chooser.answer (theory.sampled (problem p) chooser depth words k).1 (k % depth) (problem p).actions (get_or words (2 * k) 0) → a < length p.actions → word ≡ get_or words (2 * k + 1) 0
        → (x : Sample) → IsDrawn p parent.weights a word x → (ys : List Sample) → ys ≡ xs ++ x ∷ []
        → AreSampled p chooser depth words (suc (k + 1)) ys
    unfolding problem
    sampled_more a word answer within second x drawn ys more =
        let acts = drawn.action ∙ answer in
        let observed = drawn.observed in
        let next = drawn.next in
        subst (AreSampled p chooser depth words (suc (k + 1))) (sym more)
        (sampled_so_far (suc (k + 1)) (xs ++ x ∷ []) (All-append (λ x. x.weights.shape ≡ shape_of p) xs (x ∷ []) before.scopes (scope_of_one x next.scope))
        (subst (λ (n : ℕ). AreSoFar (problem p) chooser depth words (suc n) (map (sample_of p) (xs ++ x ∷ []))) (one k)
        (subst (AreSoFar (problem p) chooser depth words (suc (suc k))) (sym (map-append (sample_of p) xs (x ∷ [])))
        (one_more (problem p) chooser depth words k (map (sample_of p) xs) (so_far (suc k) xs before) (sample_of p x) acts
        (subst (λ (n : ℕ). n < length p.actions) (sym drawn.action) within)
        observed.within
        (observed.drawn ∙ (λ h. theory.drawn_observation (problem p) (parent_is h).weights (answer h) (second h)))
        (subst (λ (y : theory.Sample). NextAgree (problem p) (next_weights (problem p) y.weights (chooser.answer (theory.sampled (problem p) chooser depth words k).1 (k % depth) (problem p).actions (get_or words (2 * k) 0)) (point_of (problem p).sight_sizes x.observation)) (Some (weights_of p x.weights))) parent_is
        (subst (λ (n : ℕ). NextAgree (problem p) (next_weights (problem p) (weights_of p parent.weights) n (point_of (problem p).sight_sizes x.observation)) (Some (weights_of p x.weights))) answer next.agree))))))
      where
        one : (k : ℕ) → suc k ≡ k + 1
        one k = omega arith
