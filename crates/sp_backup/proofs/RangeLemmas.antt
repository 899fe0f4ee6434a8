-- The least and the greatest value of the first members, and the least id.
use Rattle.std.proofs.Common.{◌≡◌, ℕ, ◌+◌, ◌^◌, ◌<◌, ◌≤◌, ⊎_elim, sym, ap, ◌∙◌, subst, arith, length, get_or}
use Rattle.std.specs.Prelude.{ℤ, pos, ◌≤ℤ◌, unsigned_abs}
use Rattle.std.proofs.lemmas.Bool.{cases_lt}
use Rattle.sp_dd.specs.Func.{Everywhere}
use Rattle.sp_dd.specs.Operations.{IsLeast, IsGreatest}
use Rattle.sp_theory.proofs.Whole.{≤ℤ_trans}
use Rattle.sp_value.specs.declared.editions.Member.{Member}
use Rattle.sp_value.specs.Editions.{EditionParts, IsEdition, IsVector, no_member}
use Rattle.sp_value.proofs.Vectors.{member_at, vector_small}
use Rattle.sp_bounds.specs.Bounds.{link_window, action_window}
use Rattle.sp_model.specs.declared.parts.Parts.{Parts}
use Rattle.sp_model.specs.Problem.{problem}
use Rattle.sp_backup.specs.Ranges.{AreAbove, AreBelow, AreBetween}

-- no value of the first k members is below z, which is small
pub record IsLow (e : EditionParts) (k : ℕ) (z : ℤ) : Type 0 where
  pub bound : AreAbove e k z
  pub small : unsigned_abs z ≤ 10 ^ 18

pub record IsHigh (e : EditionParts) (k : ℕ) (z : ℤ) : Type 0 where
  pub bound : AreBelow e k z
  pub small : unsigned_abs z ≤ 10 ^ 18

-- the member at a place has the least id of the first k members
pub record IsFirst (e : EditionParts) (k place : ℕ) : Type 0 where
  pub within : place < k
  pub far : k ≤ length e.members
  pub least : (j : ℕ) → j < k → (get_or e.members place no_member).id ≤ (get_or e.members j no_member).id

module _ (e : EditionParts) where
  pub low_first : (z : ℤ) → Everywhere (get_or e.members 0 no_member).vector (λ v. z ≤ℤ v) → unsigned_abs z ≤ 10 ^ 18 → IsLow e 1 z
  low_first z first small = record { bound = λ j less. subst (λ (n : ℕ). Everywhere (get_or e.members n no_member).vector (λ v. z ≤ℤ v)) (let here : 0 ≡ j = omega arith in here) first; small = small }

  pub low_next : (k n : ℕ) (low value next : ℤ) → IsLow e k low → n ≡ k + 1 → Everywhere (get_or e.members k no_member).vector (λ v. value ≤ℤ v) → next ≤ℤ low → next ≤ℤ value → unsigned_abs next ≤ 10 ^ 18 → IsLow e n next
  low_next k n low value next before more here under_low under_value small = record {
    bound = λ j less. ⊎_elim (λ (early : j < k). λ x at. ≤ℤ_trans under_low (before.bound j early x at))
        (λ (late : k ≤ j). subst (λ (i : ℕ). Everywhere (get_or e.members i no_member).vector (λ v. next ≤ℤ v)) (let same : k ≡ j = omega arith in same) (λ x at. ≤ℤ_trans under_value (here x at)))
        (cases_lt j k);
    small = small;
  }

  pub high_first : (z : ℤ) → Everywhere (get_or e.members 0 no_member).vector (λ v. v ≤ℤ z) → unsigned_abs z ≤ 10 ^ 18 → IsHigh e 1 z
  high_first z first small = record { bound = λ j less. subst (λ (n : ℕ). Everywhere (get_or e.members n no_member).vector (λ v. v ≤ℤ z)) (let here : 0 ≡ j = omega arith in here) first; small = small }

  pub high_next : (k n : ℕ) (high value next : ℤ) → IsHigh e k high → n ≡ k + 1 → Everywhere (get_or e.members k no_member).vector (λ v. v ≤ℤ value) → high ≤ℤ next → value ≤ℤ next → unsigned_abs next ≤ 10 ^ 18 → IsHigh e n next
  high_next k n high value next before more here over_high over_value small = record {
    bound = λ j less. ⊎_elim (λ (early : j < k). λ x at. ≤ℤ_trans (before.bound j early x at) over_high)
        (λ (late : k ≤ j). subst (λ (i : ℕ). Everywhere (get_or e.members i no_member).vector (λ v. v ≤ℤ next)) (let same : k ≡ j = omega arith in same) (λ x at. ≤ℤ_trans (here x at) over_value))
        (cases_lt j k);
    small = small;
  }

-- the least value of a member that was read
pub least_small : (e : EditionParts) → IsEdition e → (k : ℕ) → k < length e.members → (x : Member) → x ≡ get_or e.members k no_member → (z : ℤ) → IsLeast x.vector z → unsigned_abs z ≤ 10 ^ 18
least_small e is k less x same z low =
    subst (λ (y : ℤ). unsigned_abs y ≤ 10 ^ 18) low.reached (vector_small e.task.model is.task.model x.vector (subst (λ (y : Member). IsVector e.task.model y.vector) (sym same) (member_at e is k less).vector) low.point low.inside)

pub greatest_small : (e : EditionParts) → IsEdition e → (k : ℕ) → k < length e.members → (x : Member) → x ≡ get_or e.members k no_member → (z : ℤ) → IsGreatest x.vector z → unsigned_abs z ≤ 10 ^ 18
greatest_small e is k less x same z high =
    subst (λ (y : ℤ). unsigned_abs y ≤ 10 ^ 18) high.reached (vector_small e.task.model is.task.model x.vector (subst (λ (y : Member). IsVector e.task.model y.vector) (sym same) (member_at e is k less).vector) high.point high.inside)

-- the range, as its ends are read
pub between_read : (e : EditionParts) (low high l h : ℤ) → l ≡ low → h ≡ high → AreBetween e low high → AreBetween e l h
between_read e low high l h same_low same_high is = subst (λ (z : ℤ). AreBetween e z h) (sym same_low) (subst (λ (z : ℤ). AreBetween e low z) (sym same_high) is)

-- windows of a model that was read
pub links_read : (p o : Parts) (r : ℕ) (y z : ℤ) → p ≡ o → z ≡ y → y ≡ pos (link_window (problem p) (2 ^ 62) r) → z ≡ pos (link_window (problem o) (2 ^ 62) r)
links_read p o r y z same read is = read ∙ is ∙ ap (λ (x : Parts). pos (link_window (problem x) (2 ^ 62) r)) same

pub actions_read : (p o : Parts) (r : ℕ) (y z : ℤ) → p ≡ o → z ≡ y → y ≡ pos (action_window (problem p) (2 ^ 62) r) → z ≡ pos (action_window (problem o) (2 ^ 62) r)
actions_read p o r y z same read is = read ∙ is ∙ ap (λ (x : Parts). pos (action_window (problem x) (2 ^ 62) r)) same
