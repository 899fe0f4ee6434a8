-- Values of vectors at a belief's weights, and the greatest member of an edition.
use Rattle.std.proofs.Common.{ℕ, List, [], ◌∷◌, cond}
use Rattle.std.specs.Prelude.{ℤ, pos, ◌≤ℤ◌, int_lt, nat_lt, Any}
use Rattle.sp_theory.specs.Sums.{times}
use Rattle.sp_theory.specs.Points.{sum_over}
use Rattle.sp_theory.specs.Model.{Model, State, Vector, least_return}

-- the one of the greater score, at a tie that of the lesser number
abbrev pub better : {X : Type 0} → (X → ℤ) → (X → ℕ) → X → X → X
better score id x y = cond (int_lt (score x) (score y)) y (cond (int_lt (score y) (score x)) x (cond (nat_lt (id y) (id x)) y x))

-- the better one of an element and of each in the list, in turn
unfoldable pub greatest_from : {X : Type 0} → (X → ℤ) → (X → ℕ) → X → List X → X
greatest_from score id x [] = x
greatest_from score id x (y ∷ ys) = greatest_from score id (better score id x y) ys

-- the element of the greatest score, of the least number among those; of no elements, the first argument
unfoldable pub greatest : {X : Type 0} → X → (X → ℤ) → (X → ℕ) → List X → X
greatest none score id [] = none
greatest none score id (x ∷ xs) = greatest_from score id x xs

-- a belief: a weight for each state. It stands for each weight over their total
abbrev pub Weights : Type 0
Weights = State → ℕ

-- a member of an edition: the number of its record, that record's action, and its vector
pub record Member : Type 0 where
  pub id : ℕ
  pub action : ℕ
  pub vector : Vector

-- the member of record 0
unfoldable pub leaf_member : Model → Member
leaf_member m = record { id = 0; action = 0; vector = λ s. least_return m }

-- an edition: a value function as a list of members in order of entry
abbrev pub Edition : Type 0
Edition = List Member

-- the weighted sum of a vector; the value at the weights that it stands for is this over their total
unfoldable pub dot : Model → Weights → Vector → ℤ
dot m w v = sum_over m.sizes (λ s. times (w s) (v s))

-- the total of the weights
abbrev pub total : Model → Weights → ℤ
total m w = dot m w (λ s. pos 1)

-- the member of the greatest value at the weights, of the least id among those
unfoldable pub greatest_member : Model → Edition → Weights → Member
greatest_member m edition w = greatest (leaf_member m) (λ x. dot m w x.vector) (λ x. x.id) edition

-- the value of an edition at weights: that of its greatest member
unfoldable pub value : Model → Edition → Weights → ℤ
value m edition w = dot m w (greatest_member m edition w).vector

-- some member is worth at least z at the weights
abbrev pub Reaches : Model → Edition → Weights → ℤ → Type 0
Reaches m edition w z = Any (λ x. z ≤ℤ dot m w x.vector) edition
