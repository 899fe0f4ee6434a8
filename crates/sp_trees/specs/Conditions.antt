-- Conditions on the values of a function.
use Rattle.std.specs.Prelude.{ℕ, ◌*ℤ◌, ℤ, pos, neg_ℤ, ◌≤ℤ◌, int_le, ◌&&◌, Bool, true, false, List}
use Rattle.std.specs.List.{list_all}
use Rattle.std.specs.Ordering.{int_eq}
use Rattle.sp_dd.specs.Floors.{ticks, floor_div}
use Rattle.sp_dd.specs.Func.{Func, IsPointOf, value_of, leaves_of, function_of}

-- one in ticks
abbrev pub one : ℤ
one = pos ticks

-- the value at each point, in slot order
abbrev pub values_of : Func → List ℤ
values_of f = leaves_of f.shape.sizes (value_of f)

-- each value passes the test
abbrev pub all_values : (ℤ → Bool) → Func → Bool
all_values test f = list_all test (values_of f)

-- each value lies between two numbers
abbrev pub lies_between : ℤ → ℤ → Func → Bool
lies_between low high f = all_values (λ v. int_le low v && int_le v high) f

-- a magnitude with its sign
abbrev pub signed_magnitude : Bool → ℕ → ℤ
signed_magnitude true magnitude = neg_ℤ (pos magnitude)
signed_magnitude false magnitude = pos magnitude

-- no value exceeds the bound in magnitude
abbrev pub is_within : ℕ → Func → Bool
is_within most f = lies_between (neg_ℤ (pos most)) (pos most) f

-- some value lies outside of two numbers
pub record HasOutside (low high : ℤ) (f : Func) : Type 0 where
  pub point : List ℕ
  pub inside : IsPointOf f point
  pub outside : ¬ ((low ≤ℤ value_of f point) × (value_of f point ≤ℤ high))

-- a whole number of ticks
abbrev pub is_whole : ℤ → Bool
is_whole z = int_eq (floor_div z ticks *ℤ pos ticks) z

-- each product is a whole number of ticks
abbrev pub is_product_whole : Func → Func → Bool
is_product_whole f g = all_values is_whole (function_of f.shape (λ x. value_of f x *ℤ value_of g x))
