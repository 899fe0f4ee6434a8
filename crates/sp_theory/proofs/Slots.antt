-- Slots weighed out one at a time are their draws weighed out, and rows that sum to one make draws that do.
use Rattle.std.proofs.Common.{◌≡◌, List, [], ◌∷◌, refl, ap}
use Rattle.std.specs.Prelude.{ℤ}
use Rattle.sp_theory.specs.Sums.{times, floor}
use Rattle.sp_theory.specs.Draws.{q, AreProbabilitiesWhole, floored_expectation}
use Rattle.sp_theory.specs.Slots.{Slot, sizes_of, draws_of, point_with, slots_weighed, AreRows}
use Rattle.sp_theory.proofs.Whole.{sum_below_same}

pub slots_weighed-draws_of : {P : Type 0} (vs : List (Slot P)) (f : P → ℤ) (p : P) → slots_weighed vs f p ≡ floored_expectation (sizes_of vs) (draws_of vs p) (λ xs. f (point_with vs p xs))
unfolding slots_weighed floored_expectation draws_of point_with
slots_weighed-draws_of [] f p = refl
slots_weighed-draws_of (v ∷ vs) f p = ap (λ (z : ℤ). floor z q) (sum_below_same v.size _ _ (λ x less. ap (times (v.chance (v.put p x))) (slots_weighed-draws_of vs f (v.put p x))))

pub AreRows-whole : {P : Type 0} (Q : P → Type 0) (vs : List (Slot P)) (p : P) → AreRows Q vs → Q p → AreProbabilitiesWhole (sizes_of vs) (draws_of vs p)
unfolding draws_of
AreRows-whole Q [] p rows holds = tt
AreRows-whole Q (v ∷ vs) p (sums, kept, rest) holds = (sums p holds, λ x less. AreRows-whole Q vs (v.put p x) rest (kept p x holds less))

-- a function that agrees where the property holds is weighed out to the same
pub slots_weighed_same : {P : Type 0} (Q : P → Type 0) (vs : List (Slot P)) (f g : P → ℤ) → AreRows Q vs → ((p : P) → Q p → f p ≡ g p) → (p : P) → Q p → slots_weighed vs f p ≡ slots_weighed vs g p
unfolding slots_weighed
slots_weighed_same Q [] f g rows same p holds = same p holds
slots_weighed_same Q (v ∷ vs) f g (sums, kept, rest) same p holds = ap (λ (z : ℤ). floor z q) (sum_below_same v.size _ _ (λ x less. ap (times (v.chance (v.put p x))) (slots_weighed_same Q vs f g rest same (v.put p x) (kept p x holds less))))
