-- What a store holds.
use Rattle.std.specs.Prelude.{◌≡◌, ℕ, ◌≤◌, List, Option, None}

-- the content of each name, where the store tells it, and how often a read of each name has failed
pub record Folder : Type 0 where
  pub content : List ℕ → Option (List ℕ)
  pub faults : List ℕ → ℕ

-- no content has changed, and no count has fallen
pub record IsLaterFolder (before now : Folder) : Type 0 where
  pub content : (name : List ℕ) → now.content name ≡ before.content name
  pub faults : (name : List ℕ) → before.faults name ≤ now.faults name

-- no content is told, and one number is the count of every name
abbrev pub untold_folder : ℕ → Folder
untold_folder count = record { content = λ name. None; faults = λ name. count }
