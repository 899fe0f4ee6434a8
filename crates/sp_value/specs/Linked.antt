-- The vectors that links lead to.
use Rattle.std.specs.Prelude.{ℕ, List, ◌==◌, unwrap_or}
use Rattle.std.specs.List.{find}
use Rattle.sp_theory.specs.Model.{Model}
use Rattle.sp_theory.specs.Step.{LinkedVectors}
use Rattle.sp_theory.specs.Plan.{link_of}
use Rattle.sp_theory.specs.Values.{Member, Edition, leaf_member}

-- the first member of that id; where there is none, that of record 0
abbrev pub member_with : Model → Edition → ℕ → Member
member_with m edition id = unwrap_or (find (λ x. x.id == id) edition) (leaf_member m)

-- the vector of the member that a joint observation leads to, by ids in the order of the observations' numbers
abbrev pub linked_vectors : Model → Edition → List ℕ → LinkedVectors
linked_vectors m edition links seen = (member_with m edition (link_of m links seen)).vector
