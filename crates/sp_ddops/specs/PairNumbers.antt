-- What is remembered of pairs of parts.
use Rattle.std.specs.Prelude.{◌≡◌, ℕ, zero, suc, ◌<◌, List, length, slice_index_or, ℤ}
use Rattle.sp_dd.specs.declared.part.Part.{Part}
use Rattle.sp_dd.specs.declared.part.Part.TheVariants.{Leaf, At}
use Rattle.sp_dd.specs.declared.memo.State.{State}
use Rattle.sp_dd.specs.declared.memo.Choice.TheVariants.{Open}
use Rattle.sp_ddops.specs.declared.pair_table.PairNumber.{PairNumber}

abbrev pub made_number : ℕ → ℕ → ℤ → PairNumber
made_number l r z = record { left = l; right = r; number = z }

-- a pair of keys has that number
pub record PairHasNumber (entries : List PairNumber) (l r : ℕ) (z : ℤ) : Type 0 where
  pub place : ℕ
  pub within : place < length entries
  pub is : slice_index_or entries place (made_number l r z) ≡ made_number l r z

-- the part of a key: 0 for a leaf with that value, one more than a node's place
abbrev pub part_of_key : ℤ → ℕ → Part
part_of_key z zero = Leaf z
part_of_key z (suc i) = At i

-- a part's key
abbrev pub key_of : Part → ℕ
key_of (Leaf z) = 0
key_of (At i) = suc i

-- the pair of two keys
abbrev pub pair_of_keys : ℤ → ℕ → ℕ → State
pair_of_keys z l r = record { left = part_of_key z l; right = part_of_key z r; choice = Open }
