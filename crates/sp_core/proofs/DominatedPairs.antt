-- The dominated pairs of an edition may be pruned.
use Rattle.std.proofs.Common.{◌≡◌, subst, refl, ℕ, List, [], ◌∷◌, get_or, Bool, true, false, cond}
use Rattle.std.specs.Prelude.{nat_lt, filter, All, AllPairs}
use Rattle.std.specs.List.{flat_map}
use Rattle.std.proofs.lemmas.List.Elements.{All-nil, All-cons, All-head, All-tail, All-append, All-filter}
use Rattle.sp_theory.specs.Model.{Model}
use Rattle.sp_theory.specs.Values.{Member, Edition}
use Rattle.sp_theory.specs.Book.{IsPresent, IsUnder}
use Rattle.sp_theory.specs.OneThread.{yields, least_id, pair_of, dominated}
use Rattle.sp_theory.specs.Laws.{Apart}
use Rattle.sp_theory.proofs.Pruning.{get_or_any}
use Rattle.sp_theory.proofs.Dominated.{IsPair, tell_apart, dominated_pairs}
use Rattle.sp_model.specs.Problem.{problem}
use Rattle.sp_value.specs.Editions.{members_in}
use Rattle.sp_value.proofs.Links.{Differ-edition_of}
use Rattle.sp_core.specs.Dominated.{IsDominatedPair, AreDominatedPairs}
use Rattle.sp_core.specs.Laws.{DominatedMayBePruned}

module _ (m : Model) (edition : Edition) where
  -- both ids are of members
  abbrev AreMembers : ℕ × ℕ → Type 0
  AreMembers p = IsPresent edition p.0 × IsPresent edition p.1

  least_present : (id : ℕ) (ys : List Member) → IsPresent edition id → All (λ y. IsPresent edition y.id) ys → IsPresent edition (least_id id ys)
  unfolding least_id
  least_present id [] there all = there
  least_present id (y ∷ ys) there all = least_present (cond (nat_lt y.id id) y.id id) ys (by_test (nat_lt y.id id)) (All-tail (λ z. IsPresent edition z.id) y ys all)
    where
      by_test : (b : Bool) → IsPresent edition (cond b y.id id)
      by_test true = All-head (λ z. IsPresent edition z.id) y ys all
      by_test false = there

  members_present : All (λ y. IsPresent edition y.id) edition
  members_present k d less = (k, get_or edition k d, less, get_or_any edition k (get_or edition k d) d less, refl)

  pairs_present : (xs : List Member) → All (λ y. IsPresent edition y.id) xs → All AreMembers (flat_map (λ x. pair_of x (filter (yields m x) edition)) xs)
  pairs_present [] all = All-nil AreMembers
  pairs_present (x ∷ xs) all =
      All-append AreMembers _ _ (first (filter (yields m x) edition) (All-filter (yields m x) (λ y. IsPresent edition y.id) edition members_present))
      (pairs_present xs (All-tail (λ y. IsPresent edition y.id) x xs all))
    where
      first : (ys : List Member) → All (λ y. IsPresent edition y.id) ys → All AreMembers (pair_of x ys)
      first [] there = All-nil AreMembers
      first (y ∷ ys) there = All-cons AreMembers (x.id, least_id y.id ys) []
          (All-head (λ z. IsPresent edition z.id) x xs all, least_present y.id ys (All-head (λ z. IsPresent edition z.id) y ys there) (All-tail (λ z. IsPresent edition z.id) y ys there))
          (All-nil AreMembers)

  dominated_present : All AreMembers (dominated m edition)
  unfolding dominated
  dominated_present = pairs_present edition members_present

  -- such a pair of members, the first under each member of the second id
  pair_is : (pair : ℕ × ℕ) → AreMembers pair → IsPair m edition pair → IsDominatedPair m edition pair
  pair_is pair (one, other) (differ, under) = record {
    differ = differ;
    one = one;
    other = other;
    under = λ k d less e. let (j, r, within, is, id) = other in (j, r, within, is, (id, subst (λ (z : Member). z.id ≡ pair.1 → IsUnder m (get_or edition k d) z) is (under k d less e j r within) id));
  }

  pub all_dominated : AllPairs Apart edition → AreDominatedPairs m edition (dominated m edition)
  all_dominated apart k d less = pair_is (get_or (dominated m edition) k d) (dominated_present k d less) (dominated_pairs m edition (tell_apart edition apart) k d less)

pub dominated_may_be_pruned : DominatedMayBePruned
dominated_may_be_pruned e is = all_dominated (problem e.task.model) (members_in e) (Differ-edition_of e.task.model e.members is.different)
