-- The tiger problem is lawful: the laws' premises can be met.
use Rattle.std.proofs.Common.{◌≡◌, ℕ, zero, suc, ◌<◌, [], ◌∷◌, refl, arith}
use Rattle.std.specs.Prelude.{pos}
use Rattle.std.proofs.lemmas.List.Elements.{All-cons, All-nil}
use Rattle.sp_theory.specs.Sums.{sum_below}
use Rattle.sp_theory.specs.Points.{IsPoint}
use Rattle.sp_theory.specs.Draws.{q, AreProbabilitiesWhole}
use Rattle.sp_theory.specs.Model.{State, Factor, IsLawful, HasInitial, DependsOnOwn, sum_over_own}
use Rattle.sp_theory.specs.ExampleModels.{tiger, tiger_moves, tiger_sights}

moves_whole : (a : ℕ) (s : State) → a < 3 → IsPoint (2 ∷ []) s → AreProbabilitiesWhole (2 ∷ []) (tiger_moves a s)
unfolding sum_below q
moves_whole zero (zero ∷ []) known at = (refl, λ x less. tt)
moves_whole zero (suc zero ∷ []) known at = (refl, λ x less. tt)
moves_whole (suc zero) (x ∷ []) known at = (refl, λ x less. tt)
moves_whole (suc (suc zero)) (x ∷ []) known at = (refl, λ x less. tt)
moves_whole (suc (suc (suc a))) (x ∷ []) known at = absurd (omega arith)
moves_whole zero (suc (suc x) ∷ []) known at = absurd (let less = at.0 in omega arith)
moves_whole a [] known at = absurd at
moves_whole a (x ∷ y ∷ s) known at = absurd at.1

sights_whole : (a : ℕ) (next : State) → a < 3 → IsPoint (2 ∷ []) next → AreProbabilitiesWhole (2 ∷ []) (tiger_sights 850000000 150000000 a next)
unfolding sum_below q
sights_whole zero (zero ∷ []) known at = (refl, λ x less. tt)
sights_whole zero (suc zero ∷ []) known at = (refl, λ x less. tt)
sights_whole (suc zero) (x ∷ []) known at = (refl, λ x less. tt)
sights_whole (suc (suc zero)) (x ∷ []) known at = (refl, λ x less. tt)
sights_whole (suc (suc (suc a))) (x ∷ []) known at = absurd (omega arith)
sights_whole zero (suc (suc x) ∷ []) known at = absurd (let less = at.0 in omega arith)
sights_whole a [] known at = absurd at
sights_whole a (x ∷ y ∷ s) known at = absurd at.1

tiger_lawful : IsLawful tiger
unfolding tiger q
tiger_lawful = record { moves_whole = moves_whole; sights_whole = sights_whole; some_action = omega arith; discounts = omega arith }

-- the one factor gives each door one half
abbrev halves : Factor
halves = record { own = 0 ∷ []; share = λ s. 500000000 }

tiger_initial : HasInitial tiger
unfolding tiger q sum_over_own sum_below
tiger_initial = record {
  whole = All-cons (λ f. (s : State) → IsPoint (2 ∷ []) s → sum_over_own (2 ∷ []) f.own (λ t. pos (f.share t)) s ≡ pos q) halves [] (λ s at. refl) (All-nil _);
  owned = All-cons (DependsOnOwn (2 ∷ [])) halves [] (λ s t at there same. refl) (All-nil _);
  apart = λ i j d before less. absurd (omega (arith, before, less));
  within = All-cons (λ i. i < 1) 0 [] (omega arith) (All-nil _);
  every = λ i less. (0, omega arith, zero_only i less);
}
  where
    zero_only : (i : ℕ) → i < 1 → 0 ≡ i
    zero_only i less = omega (arith, less)
