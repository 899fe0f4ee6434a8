-- The first point at which one part is above another.
use Rattle.std.specs.Prelude.{◌≡◌, ℕ, ◌<◌, ◌≤◌, List, length, get_or, slice_index_or, ℤ, ◌≤ℤ◌, ◌<ℤ◌}
use Rattle.sp_dd.specs.declared.part.Part.{Part}
use Rattle.sp_dd.specs.declared.part.Part.TheVariants.{Leaf, At}
use Rattle.sp_dd.specs.declared.memo.State.{State}
use Rattle.sp_dd.specs.NodeLists.{Node, node_value}
use Rattle.sp_ddops.specs.Cofactors.{leaf_of}
use Rattle.sp_ddops.specs.PairNumbers.{pair_of_keys, PairHasNumber}
use Rattle.sp_ddops.specs.declared.pair_table.PairNumber.{PairNumber}

-- a value below its size for each slot
abbrev pub IsAssignment : List ℕ → (ℕ → ℕ) → Type 0
IsAssignment sizes π = (i : ℕ) → i < length sizes → π i < get_or sizes i 0

-- the first part is above the second nowhere
unfoldable pub AreBelow : List ℕ → List Node → List Node → State → Type 0
AreBelow sizes f g q = (π : ℕ → ℕ) → IsAssignment sizes π → node_value π f q.left ≤ℤ node_value π g q.right

-- the first choice of values of the slots from `lo` on, in slot order, at which the first part is above the second; each slot
-- before has its first value
pub record IsFirstFrom (sizes : List ℕ) (f g : List Node) (q : State) (lo : ℕ) (π : ℕ → ℕ) : Type 0 where
  pub inside : IsAssignment sizes π
  pub outside : (i : ℕ) → length sizes ≤ i → π i ≡ 0
  pub low : (i : ℕ) → i < lo → π i ≡ 0
  pub above : node_value π g q.right <ℤ node_value π f q.left
  pub before : (ρ : ℕ → ℕ) → IsAssignment sizes ρ → (j : ℕ) → lo ≤ j → j < length sizes → ((i : ℕ) → lo ≤ i → i < j → ρ i ≡ π i) → ρ j < π j → node_value ρ f q.left ≤ℤ node_value ρ g q.right

-- the values of slots in a list
abbrev pub values_in : List ℕ → ℕ → ℕ
values_in point i = slice_index_or point i 0

-- the leaf of a pair with one
abbrev pub leaf_number : Part → Part → ℤ
leaf_number (Leaf x) b = x
leaf_number (At i) b = leaf_of b

-- each pair that is remembered is above nowhere
abbrev pub AreNowhere : List ℕ → List Node → List Node → List PairNumber → Type 0
AreNowhere sizes f g entries = (l r : ℕ) (z : ℤ) → PairHasNumber entries l r z → AreBelow sizes f g (pair_of_keys z l r)
