-- Declared dds, by name.
use Rattle.std.specs.Prelude.{ℕ, List, map, Option, option_map, find}
use Rattle.std.specs.Borrow.{Bor}
use Rattle.std.specs.Str.{bytes_eq}
use Rattle.sp_trees.specs.declared.env.Dd.{Dd}

-- the entries of an index, with their names' bytes
abbrev pub dds_by_name : List (Bor (List ℕ) × Dd) → List (List ℕ × Dd)
dds_by_name es = map (λ e. (e.0.now, e.1)) es

-- the dd of a name
abbrev pub dd_of_name : List ℕ → List (List ℕ × Dd) → Option Dd
dd_of_name name ds = option_map (λ d. d.1) (find (λ d. bytes_eq name d.0) ds)
