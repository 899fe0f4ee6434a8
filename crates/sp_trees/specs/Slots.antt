-- Sets of slots, one bit for each.
use Rattle.std.specs.Prelude.{ℕ, ◌^◌, ◌==◌, not, Bool, bit_or, bit_and}
use Rattle.std.specs.Int.{bit_at}
use Rattle.sp_trees.specs.declared.slots.Slots.{Slots}

abbrev pub none : Slots
none = record { bits = 0 }

abbrev pub one : ℕ → Slots
one slot = record { bits = 2 ^ slot }

abbrev pub union : Slots → Slots → Slots
union a b = record { bits = bit_or a.bits b.bits }

-- the set has that slot
abbrev pub has : Slots → ℕ → Bool
has a slot = bit_at a.bits slot == 1

-- each of these is one of those
abbrev pub is_among : Slots → Slots → Bool
is_among a b = bit_and a.bits b.bits == a.bits

-- some slot is in both
abbrev pub meets : Slots → Slots → Bool
meets a b = not (bit_and a.bits b.bits == 0)
