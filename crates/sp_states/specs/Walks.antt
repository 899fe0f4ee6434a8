-- Parts of a list of nodes on the way through the slots.
use Rattle.std.specs.Prelude.{◌≡◌, ℕ, ◌+◌, ◌^◌, ◌≤◌, List, length, drop, ℤ, pos, ◌≤ℤ◌, unsigned_abs, cond, nat_eq}
use Rattle.sp_dd.specs.declared.part.Part.{Part}
use Rattle.sp_dd.specs.declared.part.Part.TheVariants.{Leaf, At}
use Rattle.sp_dd.specs.Points.{product}
use Rattle.sp_dd.specs.Func.{Shape, IsScope}
use Rattle.sp_dd.specs.NodeLists.{Node, node_value}
use Rattle.sp_dd.specs.Ordered.{node_at, part_at, IsBefore, IsFrom, IsOrdered}
use Rattle.sp_states.specs.declared.support.Block.{Block}
use Rattle.sp_states.specs.States.{widths_of}

-- the value of a part at each point
abbrev pub value_of_part : List Node → Part → (ℕ → ℕ) → ℤ
value_of_part ns a π = node_value π ns a

-- a part that speaks of no slot before `slot`, with the count of states of the slots from there on
pub record IsPartFrom (s : Shape) (ns : List Node) (a : Part) (slot count : ℕ) : Type 0 where
  pub scope : IsScope s
  pub ordered : IsOrdered s.sizes ns
  pub before : IsBefore (length ns) a
  pub from : IsFrom slot ns a
  pub within : slot ≤ length s.sizes
  pub states : count ≡ product (drop slot (widths_of s))

-- a part where a slot has a value
abbrev pub cofactor_of : List Node → ℕ → ℕ → Part → Part
cofactor_of ns s v (Leaf z) = Leaf z
cofactor_of ns s v (At i) = cond (nat_eq (node_at ns i).slot s) (part_at ns i v) (At i)

-- states whose numbers are small
abbrev pub IsBlock : Block → Type 0
IsBlock b = b.first + b.count ≤ 65536

-- a weight of a state
pub record IsWeight (z : ℤ) : Type 0 where
  pub not_negative : pos 0 ≤ℤ z
  pub small : unsigned_abs z ≤ 2 ^ 62
