-- What agrees at all states has the same values, the same backup and the same step.
use Rattle.std.proofs.Common.{◌≡◌, ℕ, List, [], ◌∷◌, refl, ap, ◌∙◌, subst, Bool, true, false, cond, map}
use Rattle.std.specs.Prelude.{ℤ, int_lt, nat_lt}
use Rattle.std.specs.List.{range_with_len}
use Rattle.sp_theory.specs.Sums.{times}
use Rattle.sp_theory.specs.Points.{count_of, point_of}
use Rattle.sp_theory.specs.Draws.{thinned}
use Rattle.sp_theory.specs.Model.{Model, Vector}
use Rattle.sp_theory.specs.Values.{better, greatest_from, greatest, Weights, Member, leaf_member, Edition, dot, greatest_member, value}
use Rattle.sp_theory.specs.Backup.{estimate, link_at, candidate, choice, links_at, IsBackup}
use Rattle.sp_theory.specs.Agreement.{VectorsAgree, WeightsAgree, MembersAgree, EditionsAgree}
use Rattle.sp_theory.proofs.Weighing.{sum_over_same, weighed_same}
use Rattle.sp_theory.proofs.Steps.{step_same}

pub dot_same : (m : Model) (w x : Weights) (u v : Vector) → WeightsAgree m w x → VectorsAgree m u v → dot m w u ≡ dot m x v
unfolding dot
dot_same m w x u v weights vectors = sum_over_same m.sizes _ _ (λ s p. λ h. times (weights s p h) (vectors s p h))

pub leaf_agrees : (m : Model) → MembersAgree m (leaf_member m) (leaf_member m)
leaf_agrees m = (refl, refl, λ s p. refl)

-- ---- the greatest of lists whose elements are related, with equal scores and numbers
module _ (m : Model) (score score' : Member → ℤ) (same : (x y : Member) → MembersAgree m x y → score x ≡ score' y) where
  better_agrees : (x y x' y' : Member) → MembersAgree m x y → MembersAgree m x' y' → MembersAgree m (better score (λ z. z.id) x x') (better score' (λ z. z.id) y y')
  better_agrees x y x' y' first second =
      subst (λ (t : Bool). MembersAgree m (better score (λ z. z.id) x x') (cond t y' (cond (int_lt (score' y') (score' y)) y (cond (nat_lt y'.id y.id) y' y)))) (λ h. int_lt (same x y first h) (same x' y' second h))
      (subst (λ (t : Bool). MembersAgree m (better score (λ z. z.id) x x') (cond (int_lt (score x) (score x')) y' (cond t y (cond (nat_lt y'.id y.id) y' y)))) (λ h. int_lt (same x' y' second h) (same x y first h))
      (subst (λ (t : Bool). MembersAgree m (better score (λ z. z.id) x x') (cond (int_lt (score x) (score x')) y' (cond (int_lt (score x') (score x)) y (cond t y' y)))) (λ h. nat_lt (second.0 h) (first.0 h))
      (by_test (int_lt (score x) (score x')) (int_lt (score x') (score x)) (nat_lt x'.id x.id))))
    where
      by_test : (a b c : Bool) → MembersAgree m (cond a x' (cond b x (cond c x' x))) (cond a y' (cond b y (cond c y' y)))
      by_test true b c = second
      by_test false true c = first
      by_test false false true = second
      by_test false false false = first

  greatest_from_agrees : (x y : Member) (xs ys : Edition) → MembersAgree m x y → EditionsAgree m xs ys → MembersAgree m (greatest_from score (λ z. z.id) x xs) (greatest_from score' (λ z. z.id) y ys)
  unfolding greatest_from
  greatest_from_agrees x y [] [] first rest = first
  greatest_from_agrees x y (x' ∷ xs) (y' ∷ ys) first (second, rest) = greatest_from_agrees (better score (λ z. z.id) x x') (better score' (λ z. z.id) y y') xs ys (better_agrees x y x' y' first second) rest
  greatest_from_agrees x y [] (y' ∷ ys) first rest = absurd rest
  greatest_from_agrees x y (x' ∷ xs) [] first rest = absurd rest

  pub greatest_agrees : (xs ys : Edition) → EditionsAgree m xs ys → MembersAgree m (greatest (leaf_member m) score (λ z. z.id) xs) (greatest (leaf_member m) score' (λ z. z.id) ys)
  unfolding greatest
  greatest_agrees [] [] agree = leaf_agrees m
  greatest_agrees (x ∷ xs) (y ∷ ys) (first, rest) = greatest_from_agrees x y xs ys first rest
  greatest_agrees [] (y ∷ ys) agree = absurd agree
  greatest_agrees (x ∷ xs) [] agree = absurd agree

-- equal scores choose the same number
greatest_from_same : (score score' : ℕ → ℤ) → ((a : ℕ) → score a ≡ score' a) → (x : ℕ) (xs : List ℕ) → greatest_from score (λ a. a) x xs ≡ greatest_from score' (λ a. a) x xs
greatest_from_same score score' same x xs = λ h. greatest_from (λ a. same a h) (λ a. a) x xs

module _ (m : Model) (edition other : Edition) (w x : Weights) (agree : EditionsAgree m edition other) (weights : WeightsAgree m w x) where
  pub greatest_member_agrees : MembersAgree m (greatest_member m edition w) (greatest_member m other x)
  unfolding greatest_member
  greatest_member_agrees = greatest_agrees m (λ z. dot m w z.vector) (λ z. dot m x z.vector) (λ y z both. dot_same m w x y.vector z.vector weights both.2) edition other agree

  pub value_same : value m edition w ≡ value m other x
  unfolding value
  value_same = dot_same m w x _ _ weights greatest_member_agrees.2

  estimate_same : (a : ℕ) (seen : List ℕ) (u v : Vector) → VectorsAgree m u v → estimate m w a seen u ≡ estimate m x a seen v
  unfolding estimate
  estimate_same a seen u v vectors = dot_same m w x _ _ weights (λ s p. weighed_same m.sizes (m.moves a s) _ _ (λ next n. ap (thinned (m.sights a next) seen) (vectors next n)))

  pub link_at_agrees : (a : ℕ) (seen : List ℕ) → MembersAgree m (link_at m edition w a seen) (link_at m other x a seen)
  unfolding link_at
  link_at_agrees a seen = greatest_agrees m (λ z. estimate m w a seen z.vector) (λ z. estimate m x a seen z.vector) (λ y z both. estimate_same a seen y.vector z.vector both.2) edition other agree

  pub links_at_same : (a : ℕ) → links_at m edition w a ≡ links_at m other x a
  unfolding links_at
  links_at_same a = λ h. map (λ o. (link_at_agrees a (point_of m.sight_sizes o)).0 h) (range_with_len 0 (count_of m.sight_sizes))

  pub candidate_agrees : (a : ℕ) → VectorsAgree m (candidate m edition w a) (candidate m other x a)
  unfolding candidate
  candidate_agrees a s p = step_same m a _ _ s (λ seen next o n. (link_at_agrees a seen).2 next n)

  pub choice_same : choice m edition w ≡ choice m other x
  unfolding choice
  choice_same = λ h. greatest 0 (λ a. dot_same m w x _ _ weights (candidate_agrees a) h) (λ a. a) (range_with_len 0 m.actions)

  pub backup_same : (a : ℕ) (links : List ℕ) → IsBackup m edition w a links → IsBackup m other x a links
  backup_same a links (chosen, linked) = (chosen ∙ choice_same, linked ∙ links_at_same a)
