-- The member of the greatest score, as a loop over an edition's members finds it.
use Rattle.std.proofs.Common.{◌≡◌, ℕ, suc, ◌+◌, ◌<◌, ◌≤◌, sym, ap, ◌∙◌, subst, arith, List, length, get_or, drop, Bool, true, false, cond, Some}
use Rattle.std.specs.Prelude.{ℤ, slice_get}
use Rattle.std.proofs.lemmas.Option.{get_or_from_slice_get}
use Rattle.std.proofs.lemmas.List.{get_or-map, length-map}
use Rattle.sp_theory.specs.Values.{Weights, Member, greatest_from, greatest, leaf_member, dot, greatest_member, value}
use Rattle.sp_model.specs.Problem.{problem}
use Rattle.sp_value.specs.declared.editions.Member as declared
use Rattle.sp_value.specs.Scores.{outdoes}
use Rattle.sp_value.specs.Editions.{EditionParts, IsGreatestAt, members_in, member_of, no_member}
use Rattle.sp_value.proofs.Greatest.{greatest_first, greatest_next, greatest_last}

-- the member at a place has the greatest score of the first k members
pub record IsBestOf (e : EditionParts) (score : Member → ℤ) (place k : ℕ) (most : ℤ) : Type 0 where
  pub within : place < k
  pub far : k ≤ length e.members
  pub found : greatest (leaf_member (problem e.task.model)) score (λ x. x.id) (members_in e) ≡ greatest_from score (λ x. x.id) (get_or (members_in e) place (leaf_member (problem e.task.model))) (drop k (members_in e))
  pub most_is : most ≡ score (member_of e.task.model (get_or e.members place no_member))

-- the member at a place has the greatest score, and that is it
pub record IsBest (e : EditionParts) (score : Member → ℤ) (place : ℕ) (most : ℤ) : Type 0 where
  pub within : place < length e.members
  pub found : member_of e.task.model (get_or e.members place no_member) ≡ greatest (leaf_member (problem e.task.model)) score (λ x. x.id) (members_in e)
  pub most_is : most ≡ score (greatest (leaf_member (problem e.task.model)) score (λ x. x.id) (members_in e))

module _ (e : EditionParts) (score : Member → ℤ) where
  long : length (members_in e) ≡ length e.members
  long = length-map e.members (member_of e.task.model)

  member_is : (k : ℕ) → k < length e.members → get_or (members_in e) k (leaf_member (problem e.task.model)) ≡ member_of e.task.model (get_or e.members k no_member)
  member_is k less = get_or-map (member_of e.task.model) e.members k no_member (leaf_member (problem e.task.model)) less

  pub best_first : 0 < length e.members → (most : ℤ) → most ≡ score (member_of e.task.model (get_or e.members 0 no_member)) → IsBestOf e score 0 1 most
  best_first some most is = record {
    within = omega arith;
    far = some;
    found = greatest_first (leaf_member (problem e.task.model)) score (λ x. x.id) (members_in e) (omega (arith, long, some));
    most_is = is;
  }

  -- one more member is met
  pub best_next : (members : List declared.Member) → members ≡ e.members → (place k : ℕ) (most sum : ℤ) (b : Bool) (x y : declared.Member) (place' k' : ℕ) (most' : ℤ) → IsBestOf e score place k most → k < length e.members
      → sum ≡ score (member_of e.task.model (get_or e.members k no_member))
      → slice_get members k ≡ Some x → slice_get members place ≡ Some y → b ≡ outdoes sum x.id most y.id
      → place' ≡ cond b k place → most' ≡ cond b sum most → k' ≡ k + 1
      → IsBestOf e score place' k' most'
  best_next members same place k most sum b x y place' k' most' best less is here before chosen e1 e2 e3 =
      subst (λ (n : ℕ). IsBestOf e score n k' most') (sym e1) (subst (λ (n : ℕ). IsBestOf e score (cond b k place) n most') (sym (e3 ∙ (let one : k + 1 ≡ suc k = omega arith in one))) (subst (λ (z : ℤ). IsBestOf e score (cond b k place) (suc k) z) (sym e2)
      (by_test b (best.found ∙ greatest_next none score (λ x. x.id) (members_in e) place k (omega (arith, long, less)) ∙ ap (λ (c : Bool). greatest_from score (λ x. x.id) (get_or (members_in e) (cond c k place) none) (drop (suc k) (members_in e))) (sym test)))))
    where
      none : Member
      none = leaf_member (problem e.task.model)

      test : b ≡ outdoes (score (get_or (members_in e) k none)) (get_or (members_in e) k none).id (score (get_or (members_in e) place none)) (get_or (members_in e) place none).id
      test =
          let new = member_is k less in
          let old = member_is place (omega (arith, best.within, less)) in
          let its = sym (ap (λ (xs : List declared.Member). get_or xs k no_member) same) ∙ get_or_from_slice_get members k x no_member here in
          let that = sym (ap (λ (xs : List declared.Member). get_or xs place no_member) same) ∙ get_or_from_slice_get members place y no_member before in
          chosen ∙ (λ h. outdoes (is h) (sym its h).id (best.most_is h) (sym that h).id)
          ∙ (λ h. outdoes (score (sym new h)) (sym new h).id (score (sym old h)) (sym old h).id)

      by_test : (c : Bool) → greatest none score (λ x. x.id) (members_in e) ≡ greatest_from score (λ x. x.id) (get_or (members_in e) (cond c k place) none) (drop (suc k) (members_in e)) → IsBestOf e score (cond c k place) (suc k) (cond c sum most)
      by_test true e = record { within = omega arith; far = omega (arith, less); found = e; most_is = is }
      by_test false e = record { within = omega (arith, best.within); far = omega (arith, less); found = e; most_is = best.most_is }

  -- all members are met
  pub best_last : (place k : ℕ) (most : ℤ) → IsBestOf e score place k most → length e.members ≤ k → IsBest e score place most
  best_last place k most best all =
      let less : place < length e.members = omega (arith, best.within, best.far) in
      let found = best.found ∙ greatest_last (leaf_member (problem e.task.model)) score (λ x. x.id) (members_in e) place k (omega (arith, long, all)) ∙ member_is place less in
      record { within = less; found = sym found; most_is = best.most_is ∙ ap score (sym found) }

-- the member of the greatest value at weights
pub best_value : (e : EditionParts) (w : Weights) (place : ℕ) (most : ℤ) → IsBest e (λ x. dot (problem e.task.model) w x.vector) place most → IsGreatestAt e w place × (most ≡ value (problem e.task.model) (members_in e) w)
unfolding value greatest_member
best_value e w place most best = (record { within = best.within; greatest = best.found }, best.most_is)
