-- The slots that a table mentions: a width for each slot, 1 or the number of its values.
use Rattle.std.specs.Prelude.{◌≡◌, ℕ, ◌<◌, ◌^◌, ◌⊎◌, List, [], ◌∷◌, zero, suc, pos, ◌+◌, ◌*◌, length, slice_index, slice_index_or, slice_set, ◌≢◌, ◌-◌}
use Rattle.sp_dd.specs.Points.{product, place, point_at}
use Rattle.sp_dd.specs.Func.{Shape, Func, IsFunc, IsScope, IsPointOf, value_of, size_of}
use Rattle.sp_dd.specs.Operations.{everywhere}

-- each width is 1 or the size
abbrev pub AreWidthsOf : List ℕ → List ℕ → Type 0
AreWidthsOf [] [] = Unit {0}
AreWidthsOf [] (s ∷ ss) = ⊥
AreWidthsOf (w ∷ ws) [] = ⊥
AreWidthsOf (w ∷ ws) (s ∷ ss) = (w ≡ 1 ⊎ w ≡ s) × AreWidthsOf ws ss

-- widths of a scope, with fewer than 2^63 points
pub record AreWidths (s : Shape) (widths : List ℕ) : Type 0 where
  pub scope : IsScope s
  pub mentions : AreWidthsOf widths s.sizes
  pub fits : product widths < 2 ^ 63

-- the value at a point is that where each slot that isn't mentioned has its first value
abbrev pub IgnoresUnmentioned : List ℕ → Func → Type 0
IgnoresUnmentioned widths f = (x : List ℕ) → IsPointOf f x → value_of f (point_at widths (place widths x)) ≡ value_of f x

-- widths of a function's scope that mention all slots on which it depends
pub record IsFrame (f : Func) (widths : List ℕ) : Type 0 where
  pub scope : IsScope f.shape
  pub mentions : AreWidthsOf widths f.shape.sizes
  pub reads : IgnoresUnmentioned widths f

-- more widths, which mention also the slots on which a function depends
pub record IsJoin (f : Func) (old new : List ℕ) : Type 0 where
  pub frame : IsFrame f new
  pub grown : AreWidthsOf old new

-- widths of a function's scope that mention all slots on which it depends once one slot has a value
pub record IsSlotFrame (f : Func) (slot : ℕ) (widths : List ℕ) : Type 0 where
  pub scope : IsScope f.shape
  pub mentions : AreWidthsOf widths f.shape.sizes
  pub reads : (x : List ℕ) → IsPointOf f x → (v : ℕ) → v < size_of f.shape slot → value_of f (slice_set (point_at widths (place widths x)) slot v) ≡ value_of f (slice_set x slot v)

-- widths with 1 for the slots 2i + first of that many state variables
abbrev pub without_each : ℕ → ℕ → List ℕ → List ℕ
without_each first zero ws = ws
without_each first (suc i) ws = slice_set (without_each first i ws) (2 * i + first) 1

-- two neighbours exchanged
abbrev pub exchange_at : ℕ → List ℕ → List ℕ
exchange_at j ws = slice_set (slice_set ws j (slice_index ws (j + 1))) (j + 1) (slice_index ws j)

-- the two slots of each of that many state variables exchanged, one after another
abbrev pub exchange_each : ℕ → List ℕ → List ℕ
exchange_each zero ws = ws
exchange_each (suc i) ws = exchange_at (2 * i) (exchange_each i ws)

-- the part of a value, or the function 0 behind the last
abbrev pub part_of : Shape → List Func → ℕ → Func
part_of s parts j = slice_index_or parts j (everywhere s (pos 0))

-- widths that mention a slot in full, and all slots on which a part depends
pub record IsPartFrame (s : Shape) (slot : ℕ) (parts : List Func) (widths : List ℕ) : Type 0 where
  pub scope : IsScope s
  pub mentions : AreWidthsOf widths s.sizes
  pub full : slice_index widths slot ≡ size_of s slot
  pub reads : (j : ℕ) → j < length parts → IgnoresUnmentioned widths (part_of s parts j)

-- widths of a scope, with fewer than 2^63 points, that mention a slot in full; there is a part of that scope for each value of the slot
pub record ArePartWidths (s : Shape) (slot : ℕ) (parts : List Func) (widths : List ℕ) : Type 0 where
  pub widths_of : AreWidths s widths
  pub within : slot < length widths
  pub full : slice_index widths slot ≡ length parts
  pub scopes : (j : ℕ) → j < length parts → (part_of s parts j).shape ≡ s

-- at each point one function is what the other is where the slots that some widths don't mention have their first values
pub record Agrees (f g : Func) : Type 0 where
  pub scope : IsScope f.shape
  pub determined : IsFunc f
  pub widths : List ℕ
  pub mentions : AreWidthsOf widths f.shape.sizes
  pub some : 0 < product widths
  pub same : (x : List ℕ) → IsPointOf f x → value_of g (point_at widths (place widths x)) ≡ value_of f x

-- two functions have different values at some point
pub record Differs (f g : Func) : Type 0 where
  pub point : List ℕ
  pub inside : IsPointOf f point
  pub apart : value_of f point ≢ value_of g point

-- widths of all slots but a primed one, which mention the unprimed slot before it in full
pub record IsDiagonalFrame (f : Func) (primed : ℕ) (widths : List ℕ) : Type 0 where
  pub frame : IsSlotFrame f primed widths
  pub full : slice_index widths (primed - 1) ≡ size_of f.shape (primed - 1)
  pub within : primed < length f.shape.sizes
  pub sizes : size_of f.shape (primed - 1) ≡ size_of f.shape primed
