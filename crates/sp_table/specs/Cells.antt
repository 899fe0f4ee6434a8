-- The cells of a table: one for each point of the slots that it mentions, in slot order.
use Rattle.std.specs.Prelude.{◌≡◌, ℕ, ◌<◌, ◌≤ℤ◌, ◌^◌, ℤ, pos, List, length, slice_index_or}
use Rattle.sp_dd.specs.Points.{product, place}
use Rattle.sp_dd.specs.Func.{Shape, Func, IsScope, function_of}
use Rattle.sp_table.specs.Widths.{AreWidthsOf}

-- the cell of a point
abbrev pub cell_at : List ℕ → List ℤ → List ℕ → ℤ
cell_at widths cells x = slice_index_or cells (place widths x) (pos 0)

-- what the cells mean
abbrev pub meaning : Shape → List ℕ → List ℤ → Func
meaning shape widths cells = function_of shape (cell_at widths cells)

-- the cells fit the scope
pub record IsTable (shape : Shape) (widths : List ℕ) (cells : List ℤ) : Type 0 where
  pub scope : IsScope shape
  pub mentions : AreWidthsOf widths shape.sizes
  pub whole : length cells ≡ product widths
  pub fits : product widths < 2 ^ 63

-- the least of the first n cells, which is one of all of them
pub record IsLeastCell (cells : List ℤ) (n : ℕ) (v : ℤ) : Type 0 where
  pub at : ℕ
  pub inside : at < length cells
  pub reached : slice_index_or cells at (pos 0) ≡ v
  pub bound : (j : ℕ) → j < n → v ≤ℤ slice_index_or cells j (pos 0)

-- the greatest of the first n cells, which is one of all of them
pub record IsGreatestOf (cells : List ℤ) (n : ℕ) (v : ℤ) : Type 0 where
  pub at : ℕ
  pub inside : at < length cells
  pub reached : slice_index_or cells at (pos 0) ≡ v
  pub bound : (j : ℕ) → j < n → slice_index_or cells j (pos 0) ≤ℤ v
