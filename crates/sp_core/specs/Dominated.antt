-- The pairs of members that a prune may take.
use Rattle.std.specs.Prelude.{◌≢◌, ℕ, List, All}
use Rattle.sp_theory.specs.Model.{Model}
use Rattle.sp_theory.specs.Values.{Edition}
use Rattle.sp_theory.specs.Book.{IsPresent, AreUnder}

-- the pair names two different members of the edition, the first nowhere above the second
pub record IsDominatedPair (m : Model) (edition : Edition) (pair : ℕ × ℕ) : Type 0 where
  pub differ : pair.0 ≢ pair.1
  pub one : IsPresent edition pair.0
  pub other : IsPresent edition pair.1
  pub under : AreUnder m edition pair.0 pair.1

-- each of these pairs does
abbrev pub AreDominatedPairs : Model → Edition → List (ℕ × ℕ) → Type 0
AreDominatedPairs m edition pairs = All (IsDominatedPair m edition) pairs
