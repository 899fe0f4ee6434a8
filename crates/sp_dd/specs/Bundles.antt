-- Bundles of parts, and what is remembered of them.
use Rattle.std.specs.Prelude.{◌≡◌, ℕ, ◌<◌, List, length, slice_index_or, ℤ, pos}
use Rattle.sp_dd.specs.declared.part.Part.{Part}
use Rattle.sp_dd.specs.declared.part.Part.TheVariants.{Leaf}
use Rattle.sp_dd.specs.NodeLists.{Node}
use Rattle.sp_dd.specs.Ordered.{node_at}
use Rattle.sp_dd.specs.Walks.{whole, IsFromSlot}

-- a bundle is remembered with a part
pub record HasBundle (bundles : List Node) (parts : List Part) (b : Node) (part : Part) : Type 0 where
  pub place : ℕ
  pub within : place < length bundles
  pub is : node_at bundles place ≡ b
  pub has : slice_index_or parts place (Leaf (pos 0)) ≡ part

-- what is remembered of a bundle is its function's part of the list
pub record AreBundlesKnown (sizes : List ℕ) (meaning : Node → (ℕ → ℕ) → ℤ) (bundles : List Node) (parts : List Part) (ns : List Node) : Type 0 where
  pub even : length bundles ≡ length parts
  pub each : (k : ℕ) → k < length bundles → whole sizes (meaning (node_at bundles k)) ns ≡ (ns, slice_index_or parts k (Leaf (pos 0)))

-- the bundle that comes next where the slot of a bundle has a value
pub record IsNextBundle (sizes : List ℕ) (meaning : Node → (ℕ → ℕ) → ℤ) (IsBundle : Node → Type 0) (b : Node) (value : ℕ) (c : Node) : Type 0 where
  pub bundle : IsBundle c
  pub within : c.slot < length sizes
  pub later : b.slot < c.slot
  pub from : IsFromSlot c.slot (meaning c)
  pub same : (π : ℕ → ℕ) → π b.slot ≡ value → meaning b π ≡ meaning c π
