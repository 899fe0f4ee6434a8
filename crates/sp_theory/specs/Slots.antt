-- Draws by a list of slots: how the probabilities of a model's tables, given as functions of points, are draws.
use Rattle.std.proofs.Common.{◌≡◌, ℕ, ◌<◌, List, [], ◌∷◌, map}
use Rattle.std.specs.Prelude.{ℤ, pos}
use Rattle.sp_theory.specs.Sums.{sum_below}
use Rattle.sp_theory.specs.Draws.{q, Draws, weigh_out}

-- a slot of points of any form: how many values it has, the point with a value there, and the probability of the value at such a point
pub record Slot (P : Type 0) : Type 0 where
  pub size : ℕ
  pub put : P → ℕ → P
  pub chance : P → ℕ

-- the sizes of the slots
abbrev pub sizes_of : {P : Type 0} → List (Slot P) → List ℕ
sizes_of slots = map (λ v. v.size) slots

-- the draws of the slots' values one after another, from a point on
unfoldable pub draws_of : {P : Type 0} → List (Slot P) → P → Draws
draws_of [] p before x = 0
draws_of (v ∷ vs) p [] x = v.chance (v.put p x)
draws_of (v ∷ vs) p (y ∷ before) x = draws_of vs (v.put p y) before x

-- the point with these values in the slots
unfoldable pub point_with : {P : Type 0} → List (Slot P) → P → List ℕ → P
point_with [] p xs = p
point_with (v ∷ vs) p [] = p
point_with (v ∷ vs) p (x ∷ xs) = point_with vs (v.put p x) xs

-- f with one slot weighed out
abbrev pub slot_weighed : {P : Type 0} → Slot P → (P → ℤ) → P → ℤ
slot_weighed v f p = weigh_out v.size (λ x. v.chance (v.put p x)) (λ x. f (v.put p x))

-- f with all slots weighed out, the last one first
unfoldable pub slots_weighed : {P : Type 0} → List (Slot P) → (P → ℤ) → P → ℤ
slots_weighed [] f p = f p
slots_weighed (v ∷ vs) f p = slot_weighed v (slots_weighed vs f) p

-- each slot's probabilities sum to one at each point that keeps a property, and so does each point with a value there
abbrev pub AreRows : {P : Type 0} → (P → Type 0) → List (Slot P) → Type 0
AreRows {P} Q [] = Unit {0}
AreRows {P} Q (v ∷ vs) =
    ((p : P) → Q p → sum_below v.size (λ x. pos (v.chance (v.put p x))) ≡ pos q)
    × ((p : P) (x : ℕ) → Q p → x < v.size → Q (v.put p x))
    × AreRows Q vs
