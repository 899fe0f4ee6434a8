-- Sizes of variables.
use Rattle.std.specs.Prelude.{ℕ, ◌<◌, List, [], ◌∷◌}

-- each variable has a value
abbrev pub AllSome : List ℕ → Type 0
AllSome [] = Unit {0}
AllSome (k ∷ ks) = (0 < k) × AllSome ks
