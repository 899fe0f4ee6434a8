-- The values and the ids of an edition's members.
use Rattle.std.specs.Prelude.{ℕ, ◌+◌, ◌^◌, ◌<◌, ◌≤◌, ℤ, neg_ℤ, ◌+ℤ◌, ◌≤ℤ◌, length, slice_index_or, unsigned_abs}
use Rattle.sp_dd.specs.Func.{Everywhere}
use Rattle.sp_value.specs.Editions.{EditionParts, no_member}

-- no value of the first k members is below z, or above it
abbrev pub AreAbove : EditionParts → ℕ → ℤ → Type 0
AreAbove e k z = (j : ℕ) → j < k → Everywhere (slice_index_or e.members j no_member).vector (λ v. z ≤ℤ v)

abbrev pub AreBelow : EditionParts → ℕ → ℤ → Type 0
AreBelow e k z = (j : ℕ) → j < k → Everywhere (slice_index_or e.members j no_member).vector (λ v. v ≤ℤ z)

-- all values of the members lie between these
pub record AreBetween (e : EditionParts) (low high : ℤ) : Type 0 where
  pub small_low : unsigned_abs low ≤ 10 ^ 18
  pub small_high : unsigned_abs high ≤ 10 ^ 18
  pub above : AreAbove e (length e.members) low
  pub below : AreBelow e (length e.members) high

-- how far apart two such values can be, and how far from 0 one can be
abbrev pub apart : ℤ → ℤ → ℕ
apart low high = unsigned_abs (high +ℤ neg_ℤ low)

abbrev pub farthest : ℤ → ℤ → ℕ
farthest low high = unsigned_abs low + unsigned_abs high

-- no member has a lesser id
pub record IsLeastId (e : EditionParts) (place : ℕ) : Type 0 where
  pub within : place < length e.members
  pub least : (k : ℕ) → k < length e.members → (slice_index_or e.members place no_member).id ≤ (slice_index_or e.members k no_member).id
