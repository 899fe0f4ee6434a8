-- The values of several editions.
use Rattle.std.proofs.Common.{◌≡◌, ◌∙◌, sym, ap, refl, arith, ℕ, zero, suc, ◌+◌, ◌<◌, List, [], ◌∷◌, length, get_or, map, take, ◌++◌, Some}
use Rattle.std.specs.Prelude.{ℤ, slice_get}
use Rattle.std.proofs.lemmas.List.{map_more}
use Rattle.std.proofs.lemmas.Option.{get_or_from_slice_get}
use Rattle.sp_theory.specs.Values as theory
use Rattle.sp_theory.specs.Sums.{floor}
use Rattle.sp_theory.specs.Scaling.{total_weight}
use Rattle.sp_theory.specs.Agreement.{AllAgree}
use Rattle.sp_theory.proofs.Agreement.{value_same}
use Rattle.sp_model.specs.Problem.{problem}
use Rattle.sp_value.specs.Tasks.{TaskParts, weights_at}
use Rattle.sp_value.specs.Editions.{EditionParts, members_in}
use Rattle.sp_first_values.specs.FirstValues.{value_at_first, own_value}

-- editions that agree have the same values
pub values_same : (t : TaskParts) (es ds : List theory.Edition) → AllAgree (problem t.model) es ds → map (value_at_first t) es ≡ map (value_at_first t) ds
values_same t [] [] agree = refl
values_same t (e ∷ es) (d ∷ ds) (first, rest) =
    (λ h. floor (value_same (problem t.model) e d (weights_at t 0) (weights_at t 0) first (λ s p. refl) h) (total_weight (problem t.model) (weights_at t 0)) ∷ values_same t es ds rest h)
values_same t [] (d ∷ ds) agree = absurd agree
values_same t (e ∷ es) [] agree = absurd agree

-- each edition is of the task
pub own_values : (t : TaskParts) (es : List EditionParts) → ((k : ℕ) (d : EditionParts) → k < length es → (get_or es k d).task ≡ t)
    → map own_value es ≡ map (value_at_first t) (map members_in es)
own_values t [] of = refl
own_values t (e ∷ es) of =
    (λ h. value_at_first (of zero e (omega arith) h) (members_in e) ∷ own_values t es (λ k d less. of (suc k) d (omega (arith, less))) h)

-- one more value
pub value_step : (es : List EditionParts) (i : ℕ) (e : EditionParts) (old new : List ℤ) (v : ℤ) → i < length es → slice_get es i ≡ Some e → old ≡ map own_value (take i es) → v ≡ own_value e → new ≡ old ++ v ∷ []
    → new ≡ map own_value (take (i + 1) es)
value_step es i e old new v less is so_far worth pushed =
    pushed ∙ (λ h. so_far h ++ worth h ∷ []) ∙ ap (λ (d : EditionParts). map own_value (take i es) ++ own_value d ∷ []) (sym (get_or_from_slice_get es i e e is)) ∙ sym (map_more own_value es i e less)
