-- An edition of one member twice, under two ids.
use Rattle.std.proofs.Common.{◌≡◌, ◌≢◌, ◌∙◌, sym, ap, ℕ, zero, suc, arith, List, [], ◌∷◌, ◌++◌, subst, Some}
use Rattle.std.specs.Prelude.{All, AllPairs, slice_get}
use Rattle.std.proofs.lemmas.Option.{get_or_from_slice_get, slice_get_within}
use Rattle.sp_model.specs.declared.parts.Parts.{Parts}
use Rattle.sp_value.specs.declared.editions.Member.{Member}
use Rattle.sp_value.specs.Tasks.{TaskParts}
use Rattle.sp_value.specs.Editions.{EditionParts, IsEdition, IsMemberOf}

module _ {X : Type 0} (x y : X) where
  all_two : (P : X → Type 0) → P x → P y → All P (x ∷ y ∷ [])
  all_two P first second zero d less = first
  all_two P first second (suc zero) d less = second
  all_two P first second (suc (suc k)) d less = absurd (omega arith)

  pairs_two : (R : X → X → Type 0) → R x y → AllPairs R (x ∷ y ∷ [])
  pairs_two R related zero zero d before less = absurd (omega arith)
  pairs_two R related zero (suc zero) d before less = related
  pairs_two R related zero (suc (suc j)) d before less = absurd (omega arith)
  pairs_two R related (suc i) zero d before less = absurd (omega arith)
  pairs_two R related (suc i) (suc zero) d before less = absurd (omega arith)
  pairs_two R related (suc i) (suc (suc j)) d before less = absurd (omega arith)

renamed : (p : Parts) (x : Member) (id : ℕ) → IsMemberOf p x → IsMemberOf p (record x { id = id })
renamed p x id is = record { action = is.action; vector = is.vector }

are_twins : (e : EditionParts) → IsEdition e → (x : Member) → slice_get e.members 0 ≡ Some x → (number a b : ℕ) → a ≢ b
    → IsEdition (record { number = number; task = e.task; members = record x { id = a } ∷ record x { id = b } ∷ [] })
are_twins e known x first number a b differ =
    let is : IsMemberOf e.task.model x = subst (IsMemberOf e.task.model) (get_or_from_slice_get e.members 0 x x first) (known.members 0 x (slice_get_within e.members 0 x first)) in
    record {
      task = known.task;
      some = omega arith;
      different = pairs_two _ _ (λ y z. y.id ≢ z.id) differ;
      members = all_two _ _ (IsMemberOf e.task.model) (renamed e.task.model x a is) (renamed e.task.model x b is);
    }

-- its members pushed one after another
pub is_twins : (e : EditionParts) → IsEdition e → (xs : List Member) → xs ≡ e.members → (x : Member) → slice_get xs 0 ≡ Some x
    → (a b : ℕ) → a ≢ b → (y z : Member) → y ≡ record x { id = a } → z ≡ record x { id = b }
    → (t : TaskParts) → t ≡ e.task → (none one two : List Member) → none ≡ [] → one ≡ none ++ y ∷ [] → two ≡ one ++ z ∷ []
    → (number : ℕ) → IsEdition (record { number = number; task = t; members = two })
is_twins e known xs listed x first a b differ y z of_a of_b t of_e none one two empty pushed more number =
    let members : two ≡ record x { id = a } ∷ record x { id = b } ∷ [] =
    more ∙ ap (λ (l : List Member). l ++ z ∷ []) (pushed ∙ ap (λ (l : List Member). l ++ y ∷ []) empty) ∙ (λ i. of_a i ∷ of_b i ∷ []) in
    let made = are_twins e known x (subst (λ (l : List Member). slice_get l 0 ≡ Some x) listed first) number a b differ in
    subst IsEdition (sym (λ i. record { number = number; task = of_e i; members = members i })) made
