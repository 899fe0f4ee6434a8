-- Which pairs of ids apply to members, and which members they leave.
use Rattle.std.specs.Prelude.{◌==◌, ◌&&◌, ℕ, List, [], ◌∷◌, Bool, not, cond, filter}
use Rattle.std.specs.List.{list_any}
use Rattle.sp_value.specs.declared.editions.Member.{Member}

-- the id is among these
abbrev pub has_id : List ℕ → ℕ → Bool
has_id ids id = list_any (λ z. z == id) ids

-- the ids without one
abbrev pub without_id : List ℕ → ℕ → List ℕ
without_id ids id = filter (λ z. not (z == id)) ids

-- the pairs that apply, in order: both ids are among those that the pairs before have left
abbrev pub applying_ids : List ℕ → List (ℕ × ℕ) → List (ℕ × ℕ)
applying_ids ids [] = []
applying_ids ids ((x, y) ∷ pairs) = cond (has_id ids x && has_id ids y) ((x, y) ∷ applying_ids (without_id ids x) pairs) (applying_ids ids pairs)

-- some pair has the id first
abbrev pub goes : List (ℕ × ℕ) → ℕ → Bool
goes pairs id = list_any (λ p. id == p.0) pairs

-- the members that are first in no pair
abbrev pub left_by : List (ℕ × ℕ) → List Member → List Member
left_by pairs members = filter (λ x. not (goes pairs x.id)) members
