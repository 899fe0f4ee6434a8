-- Members at the next weights before scaling, and their estimates.
use Rattle.std.proofs.Common.{◌≡◌, ℕ, ◌+◌, ◌*◌, ◌^◌, ◌<◌, ◌≤◌, refl, sym, ap, ◌∙◌, subst, arith, List, length, get_or, Bool, true, false, not, ◌&&◌, ◌||◌, Some, None, ⊎_elim}
use Rattle.std.specs.Prelude.{ℤ, pos, neg_ℤ, ◌+ℤ◌, ◌≤ℤ◌, ◌<ℤ◌, unsigned_abs, int_lt, nat_lt, slice_get, IsTrue}
use Rattle.std.proofs.lemmas.Int.{ints}
use Rattle.std.proofs.lemmas.Nat.{mul-le}
use Rattle.std.proofs.lemmas.Option.{get_or_from_slice_get}
use Rattle.std.proofs.lemmas.List.{get_or-map, length-map}
use Rattle.std.proofs.lemmas.Bool.{cases_lt}
use Rattle.std.proofs.Math.IntN.{zero-*ℤ}
use Rattle.sp_dd.specs.Func.{Func}
use Rattle.sp_dd.specs.Operations.{state_dot}
use Rattle.sp_theory.specs.Sums.{times}
use Rattle.sp_theory.specs.Points.{IsPoint, count_of, point_of}
use Rattle.sp_theory.specs.Model as theory_model
use Rattle.sp_theory.specs.Values as theory
use Rattle.sp_theory.specs.Values.{Weights, dot, total, greatest}
use Rattle.sp_theory.specs.Backup.{estimate, link_at}
use Rattle.sp_bounds.specs.Bounds.{slack, link_window}
use Rattle.sp_theory.proofs.Whole.{times_mono, ≤ℤ_trans}
use Rattle.sp_theory.proofs.Weighing.{le_same}
use Rattle.sp_theory.proofs.Numbers.{point_of-point}
use Rattle.sp_theory.proofs.Agreement.{dot_same}
use Rattle.sp_theory.proofs.Greatest.{dot_mono, greatest_is_least}
use Rattle.sp_theory.proofs.Backups.{dot-add, dot-constant, dot_from_zero}
use Rattle.sp_bounds.proofs.Forward.{far_link, estimates_alike}
use Rattle.sp_model.specs.declared.parts.Parts.{Parts}
use Rattle.sp_model.specs.Problem.{sizes_of, shape_of, problem}
use Rattle.sp_model.specs.Links.{weights_of}
use Rattle.sp_model.specs.Weights.{AreWeights}
use Rattle.sp_model.proofs.Counts.{length-sizes_of}
use Rattle.sp_model.proofs.RowLaw.{problem_lawful}
use Rattle.sp_model.proofs.Bounds.{least_return_from, top_to}
use Rattle.sp_model.proofs.InitialLaw.{point_at}
use Rattle.sp_model.proofs.LinkLemmas.{state_dot-dot}
use Rattle.sp_model.proofs.Whole.{pos-unsigned_abs}
use Rattle.sp_belief.specs.Updates.{unscaled_after}
use Rattle.sp_belief.specs.Transfers.{HasWeights}
use Rattle.sp_belief.proofs.WeightLemmas.{has_from_zero, has_agree, has-total, weights_has}
use Rattle.sp_value.specs.declared.editions.Member.{Member}
use Rattle.sp_value.specs.Editions.{EditionParts, IsEdition, no_member, member_of, members_in}
use Rattle.sp_value.specs.Scores.{outdoes}
use Rattle.sp_value.proofs.Vectors.{member_at, vector_range}
use Rattle.sp_backup.specs.Choosing.{IsLinkAt}
use Rattle.sp_backup.specs.Ranges.{AreBetween, IsLeastId, apart}
use Rattle.sp_backup.specs.Posteriors.{IsPosterior, IsScoredMember, unscaled_weights, vector_at, id_of, estimate_of}
use Rattle.sp_backup.specs.declared.posteriors.Posterior.{Posterior}
use Rattle.sp_backup.specs.declared.linking.ScoredMember.{ScoredMember}

-- ---- comparing
pub outdoes_less : (s t : ℤ) (i j : ℕ) → s <ℤ t → outdoes s i t j ≡ false
outdoes_less s t i j less = by_test (int_lt t s) (int_lt s t) refl refl
  where
    by_test : (a b : Bool) → int_lt t s ≡ a → int_lt s t ≡ b → (a || (not b && nat_lt i j)) ≡ false
    by_test true b e f = absurd (omega (arith, ints, less, e))
    by_test false true e f = refl
    by_test false false e f = absurd (omega (arith, ints, less, f))

pub outdoes_more : (s t : ℤ) (i j : ℕ) → t <ℤ s → outdoes s i t j ≡ true
outdoes_more s t i j less = by_test (int_lt t s) refl
  where
    by_test : (a : Bool) → int_lt t s ≡ a → (a || (not (int_lt s t) && nat_lt i j)) ≡ true
    by_test true e = refl
    by_test false e = absurd (omega (arith, ints, less, e))

-- a sum at weights is within the bound of the values times the total
pub dot_within : (m : theory_model.Model) (x : Weights) (b t : ℕ) (v : theory_model.Vector) → total m x ≤ℤ pos t → ((s : List ℕ) → IsPoint m.sizes s → (neg_ℤ (pos b) ≤ℤ v s) × (v s ≤ℤ pos b)) → unsigned_abs (dot m x v) ≤ b * t
dot_within m x b t v few within = omega (arith, ints, high, low, most)
  where
    most : times b (total m x) ≤ℤ pos (b * t)
    most = times_mono b _ (pos t) few

    high : dot m x v ≤ℤ times b (total m x)
    high = ≤ℤ_trans (dot_mono m x v (λ s. pos b) (λ s p. (within s p).1)) (le_same (dot-constant m x b))

    low : pos 0 ≤ℤ (dot m x v +ℤ times b (total m x))
    low =
        ≤ℤ_trans (le_same (sym (dot-constant m x 0 ∙ zero-*ℤ (total m x))))
        (≤ℤ_trans (dot_mono m x (λ s. pos 0) (λ s. v s +ℤ pos b) (λ s p. let l = (within s p).0 in omega (arith, ints, l)))
        (le_same (dot-add m x v (λ s. pos b) ∙ ap (λ (z : ℤ). dot m x v +ℤ z) (dot-constant m x b))))

-- a member that was read
pub member_is : {xs : List Member} (members : List Member) → xs ≡ members → (k : ℕ) (x : Member) → slice_get xs k ≡ Some x → x ≡ get_or members k no_member
member_is {xs} members same k x at = sym (get_or_from_slice_get xs k x no_member at) ∙ ap (λ (l : List Member). get_or l k no_member) same

-- the next weights of a belief update
unscaled_is : (e : EditionParts) (wf : Func) (a joint : ℕ) (f : Func) → HasWeights e.task.model f (unscaled_after e.task.model wf a joint) → HasWeights e.task.model f (unscaled_weights e (weights_of e.task.model wf) a joint)
unfolding problem
unscaled_is e wf a joint f has = has

-- ---- vectors
module _ (e : EditionParts) (is : IsEdition e) where
  pub range_at : (k : ℕ) → k < length e.members → (s : List ℕ) → IsPoint (problem e.task.model).sizes s → (theory_model.least_return (problem e.task.model) ≤ℤ vector_at e k s) × (vector_at e k s ≤ℤ theory_model.top (problem e.task.model))
  unfolding problem
  range_at k less s at = vector_range e.task.model is.task.model (get_or e.members k no_member).vector (member_at e is k less).vector s at

  vector_within : (k : ℕ) → k < length e.members → (s : List ℕ) → IsPoint (problem e.task.model).sizes s → (neg_ℤ (pos (10 ^ 18)) ≤ℤ vector_at e k s) × (vector_at e k s ≤ℤ pos (10 ^ 18))
  vector_within k less s at =
      let range = range_at k less s at in
      (≤ℤ_trans (least_return_from e.task.model is.task.model) range.0, ≤ℤ_trans range.1 (top_to e.task.model is.task.model))

  -- between the least and the greatest value of all members
  module _ (low high : ℤ) (range : AreBetween e low high) where
    pub between_at : (k : ℕ) → k < length e.members → (s : List ℕ) → IsPoint (problem e.task.model).sizes s → (low ≤ℤ vector_at e k s) × (vector_at e k s ≤ℤ high)
    unfolding problem
    between_at k less s at =
        let here = point_at e.task.model is.task.model (get_or e.members k no_member).vector (member_at e is k less).vector.shape s at in
        (range.above k less _ here, range.below k less _ here)

    vectors_near : (j k : ℕ) → j < length e.members → k < length e.members → (s : List ℕ) → IsPoint (problem e.task.model).sizes s → vector_at e j s ≤ℤ (vector_at e k s +ℤ pos (apart low high))
    vectors_near j k first second s at =
        let one = (between_at j first s at).1 in
        let two = (between_at k second s at).0 in
        near _ _ low high one two
      where
        near : (u v l h : ℤ) → u ≤ℤ h → l ≤ℤ v → u ≤ℤ (v +ℤ pos (unsigned_abs (h +ℤ neg_ℤ l)))
        near u v l h one two = omega (arith, ints, one, two)

  -- the member of the least id is the greatest by a score that is the same for all members
  first_is : (score : theory.Member → ℤ) (first : ℕ) → IsLeastId e first → ((j k : ℕ) → j < length e.members → k < length e.members → score (member_of e.task.model (get_or e.members j no_member)) ≡ score (member_of e.task.model (get_or e.members k no_member)))
      → member_of e.task.model (get_or e.members first no_member) ≡ greatest (theory.leaf_member (problem e.task.model)) score (λ y. y.id) (members_in e)
  first_is score first least same =
      let law = greatest_is_least theory.Member none score (λ y. y.id) (members_in e) (let some = is.some in omega (arith, long, some)) in
      let found = law.0 in
      let less : found.0 < length e.members = (let l = found.1 in omega (arith, long, l)) in
      let its : best ≡ member_of e.task.model (get_or e.members found.0 no_member) = sym found.2 ∙ get_or-map (member_of e.task.model) e.members found.0 no_member best less in
      let old = get_or-map (member_of e.task.model) e.members first no_member none least.within in
      let low : best.id ≤ (get_or e.members first no_member).id = subst (λ (y : theory.Member). best.id ≤ y.id) old (law.2 first none (let w = least.within in omega (arith, long, w))
      (ap score old ∙ same first found.0 least.within less ∙ ap score (sym its))) in
      let high = least.least found.0 less in
      let id = ap (λ (y : theory.Member). y.id) its in
      ap (λ (n : ℕ). member_of e.task.model (get_or e.members n no_member)) (only_id first found.0 least.within less (omega (arith, low, high, id))) ∙ sym its
    where
      none : theory.Member
      none = theory.leaf_member (problem e.task.model)

      best : theory.Member
      best = greatest none score (λ y. y.id) (members_in e)

      long : length (members_in e) ≡ length e.members
      long = length-map e.members (member_of e.task.model)

      only_id : (j k : ℕ) → j < length e.members → k < length e.members → (get_or e.members j no_member).id ≡ (get_or e.members k no_member).id → j ≡ k
      only_id j k one two equal =
          ⊎_elim (λ (less : j < k). absurd (is.different j k no_member less two equal))
          (λ (more : k ≤ j). ⊎_elim (λ (less : k < j). absurd (is.different k j no_member less one (sym equal))) (λ (rest : j ≤ k). let here : j ≡ k = omega arith in here) (cases_lt k j))
          (cases_lt j k)

  -- ---- weights
  pub weights_few : (wf : Func) → wf.shape ≡ shape_of e.task.model → AreWeights wf → total (problem e.task.model) (weights_of e.task.model wf) ≤ℤ pos (2 ^ 62)
  weights_few wf scope are =
      let has = weights_has e.task.model is.task.model wf (scope ∙ sym is.task.model.scope) are in
      ≤ℤ_trans (le_same (sym (has-total e.task.model is.task.model wf (weights_of e.task.model wf) has ∙ pos-unsigned_abs (total (problem e.task.model) (weights_of e.task.model wf)) (dot_from_zero (problem e.task.model) (weights_of e.task.model wf))))) are.at_most

  -- ---- a joint observation
  module _ (wf : Func) (a joint : ℕ) where
    abbrev w : Weights
    w = weights_of e.task.model wf

    abbrev unscaled : Weights
    unscaled = unscaled_weights e w a joint

    module _ (x : Posterior) (is_posterior : IsPosterior e.task.model wf a joint x) where
      has : HasWeights e.task.model x.weights unscaled
      has = unscaled_is e wf a joint x.weights is_posterior.has

      unscaled_few : total (problem e.task.model) unscaled ≤ℤ pos (2 ^ 62)
      unscaled_few = ≤ℤ_trans (le_same (sym (has-total e.task.model is.task.model x.weights unscaled has ∙ pos-unsigned_abs (total (problem e.task.model) unscaled) (dot_from_zero (problem e.task.model) unscaled)))) is_posterior.few

      pub scored_is : (k : ℕ) (z : ℤ) → k < length e.members → z ≡ state_dot x.weights (get_or e.members k no_member).vector → IsScoredMember e w a joint (record { place = k; sum = z; estimate = None })
      scored_is k z less same =
          let sum = same ∙ state_dot-dot e.task.model is.task.model x.weights (get_or e.members k no_member).vector has.shape (member_at e is k less).vector.shape (has_from_zero e.task.model is.task.model x.weights unscaled has)
          ∙ dot_same (problem e.task.model) (weights_of e.task.model x.weights) unscaled (vector_at e k) (vector_at e k) (has_agree e.task.model is.task.model x.weights unscaled has) (λ s at. refl) in
          record {
            within = less;
            sum = sum;
            small = subst (λ (y : ℤ). unsigned_abs y ≤ 2 ^ 122) (sym sum) (let most = dot_within (problem e.task.model) unscaled (10 ^ 18) (2 ^ 62) (vector_at e k) unscaled_few (vector_within k less) in omega (arith, most));
            estimate = tt;
          }

      -- where the least return and the top have one estimate, the member of the least id is the link
      pub alike_link : (first : ℕ) → IsLeastId e first → IsTrue x.is_alike → IsLinkAt e w a (point_of (sizes_of e.task.model.sights) joint) first
      unfolding problem link_at
      alike_link first least ruled = record {
        within = least.within;
        is = first_is (λ (y : theory.Member). estimate (problem e.task.model) w a (point_of (sizes_of e.task.model.sights) joint) y.vector) first least (λ j k one two.
            estimates_alike (problem e.task.model) w a (point_of (sizes_of e.task.model.sights) joint) _ _ (vector_at e j) (vector_at e k) (range_at j one) (range_at k two) (is_posterior.alike ruled));
      }

    module _ (scope : wf.shape ≡ shape_of e.task.model) (are : AreWeights wf) (action : a < length e.task.model.actions) (inside : joint < count_of (sizes_of e.task.model.sights)) (low high : ℤ) (range : AreBetween e low high) where
      abbrev window : ℕ
      window = link_window (problem e.task.model) (2 ^ 62) (apart low high)

      far : (x y : ScoredMember) → IsScoredMember e w a joint x → IsScoredMember e w a joint y → (x.sum +ℤ pos window) <ℤ y.sum → estimate_of e w a joint x.place <ℤ estimate_of e w a joint y.place
      unfolding problem
      far x y is_x is_y less =
          far_link (problem e.task.model) (problem_lawful e.task.model is.task.model) w a action (point_of (sizes_of e.task.model.sights) joint) (point_of-point (sizes_of e.task.model.sights) joint inside) (2 ^ 62) (apart low high) (weights_few wf scope are)
          (vector_at e x.place) (vector_at e y.place) (vectors_near low high range x.place y.place is_x.within is_y.within)
          (subst (λ (z : ℤ). (z +ℤ pos window) <ℤ dot (problem e.task.model) unscaled (vector_at e y.place)) is_x.sum (subst (λ (z : ℤ). (x.sum +ℤ pos window) <ℤ z) is_y.sum less))

      pub far_less : (x y : ScoredMember) → IsScoredMember e w a joint x → IsScoredMember e w a joint y → (x.sum +ℤ pos window) <ℤ y.sum → outdoes (estimate_of e w a joint x.place) (id_of e x.place) (estimate_of e w a joint y.place) (id_of e y.place) ≡ false
      far_less x y is_x is_y less = outdoes_less _ _ _ _ (far x y is_x is_y less)

      pub far_more : (x y : ScoredMember) → IsScoredMember e w a joint x → IsScoredMember e w a joint y → (y.sum +ℤ pos window) <ℤ x.sum → outdoes (estimate_of e w a joint x.place) (id_of e x.place) (estimate_of e w a joint y.place) (id_of e y.place) ≡ true
      far_more x y is_x is_y less = outdoes_more _ _ _ _ (far y x is_y is_x less)

-- ---- the window
pub slack_is : (p : Parts) (n m states pairs : ℕ) → n ≡ length p.variables → m ≡ length p.sights → states ≡ count_of (sizes_of p.variables) → pairs ≡ states * states → (n + m) * pairs ≡ slack (problem p)
unfolding problem
slack_is p n m states pairs e f g h = ap (λ (k : ℕ). (n + m) * k) h ∙ (λ i. ((e ∙ sym (length-sizes_of p.variables)) i + (f ∙ sym (length-sizes_of p.sights)) i) * (g i * g i))

pub pairs_few : (states : ℕ) → states ≤ 2 ^ 24 → states * states ≤ 2 ^ 48
pairs_few states few = let most = mul-le states states (2 ^ 24) (2 ^ 24) few few in omega (arith, most)

pub slack_few : (n m pairs : ℕ) → n ≤ 24 → m ≤ 8 → pairs ≤ 2 ^ 48 → (n + m) * pairs ≤ 2 ^ 53
slack_few n m pairs few less small = let most = mul-le (n + m) pairs 32 (2 ^ 48) (omega (arith, few, less)) small in omega (arith, most)
