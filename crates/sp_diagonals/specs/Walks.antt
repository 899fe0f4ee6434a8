-- A walk through a list of nodes where slots have the values of others.
use Rattle.std.specs.Prelude.{◌≡◌, ℕ, suc, ◌+◌, ◌-◌, ◌%◌, ◌<◌, ◌≤◌, List, length, get_or, ℤ, cond, nat_lt}
use Rattle.sp_dd.specs.declared.part.Part.{Part}
use Rattle.sp_dd.specs.NodeLists.{Node, node_value}
use Rattle.sp_dd.specs.Ordered.{IsBefore, IsOrdered}
use Rattle.sp_ddops.specs.Cofactors.{slot_or}

-- the slot that is read for a slot: from low on and before high one of the two of its variable
abbrev pub slot_read : ℕ → ℕ → ℕ → ℕ → ℕ
slot_read offset low high t = cond (nat_lt t low) t (cond (nat_lt t high) (t - t % 2 + offset) t)

-- the value of a part where each slot has the value of the slot that is read for it
unfoldable pub joined_part : ℕ → ℕ → ℕ → List Node → Part → (ℕ → ℕ) → ℤ
joined_part offset low high ns a π = node_value (λ t. π (slot_read offset low high t)) ns a

-- the slot on which a part then branches, or the number of slots
abbrev pub joined_slot : List ℕ → ℕ → ℕ → ℕ → List Node → Part → ℕ
joined_slot sizes offset low high ns a = slot_read offset low high (slot_or ns a (length sizes))

-- the slots from low on and before high are pairs of the same size
pub record IsRange (sizes : List ℕ) (offset low high : ℕ) : Type 0 where
  pub small : offset ≤ 1
  pub low_even : low % 2 ≡ 0
  pub high_even : high % 2 ≡ 0
  pub within : high ≤ length sizes
  pub same : (t : ℕ) → low ≤ t → t < high → t % 2 ≡ 0 → get_or sizes (t + 1) 0 ≡ get_or sizes t 0

-- a part of nodes, and such a range of slots
pub record IsJoinedPart (sizes : List ℕ) (offset low high : ℕ) (ns : List Node) (a : Part) : Type 0 where
  pub range : IsRange sizes offset low high
  pub ordered : IsOrdered sizes ns
  pub before : IsBefore (length ns) a
