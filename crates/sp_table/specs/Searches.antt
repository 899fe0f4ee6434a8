-- The first number below a bound at which something holds.
use Rattle.std.specs.Prelude.{ℕ, ◌<◌, Option, None, Some}

-- the first number at which a fact holds, where another holds before
pub record IsFirstNumber (count : ℕ) (Good Bad : ℕ → Type 0) (k : ℕ) : Type 0 where
  pub within : k < count
  pub bad : Bad k
  pub before : (j : ℕ) → j < k → Good j

-- that number, or none where the other fact holds throughout
abbrev pub FirstOf : ℕ → (ℕ → Type 0) → (ℕ → Type 0) → Option ℕ → Type 0
FirstOf count Good Bad None = (k : ℕ) → k < count → Good k
FirstOf count Good Bad (Some k) = IsFirstNumber count Good Bad k
