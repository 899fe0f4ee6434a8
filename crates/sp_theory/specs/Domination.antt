-- Which members of an edition are dominated, apart from the pass that finds them.
use Rattle.std.proofs.Common.{◌≡◌, ◌≢◌, ◌⊎◌, ℕ, ◌<◌, ◌≤◌, List, [], ◌∷◌}
use Rattle.sp_theory.specs.Model.{Model}
use Rattle.sp_theory.specs.Values.{Member, Edition}
use Rattle.sp_theory.specs.Book.{IsUnder}
use Rattle.sp_theory.specs.OneThread.{dominated}

-- the member is one of these
abbrev pub IsIn : List Member → Member → Type 0
IsIn [] y = ⊥
IsIn (x ∷ xs) y = (x ≡ y) ⊎ IsIn xs y

-- x may go for y: another member, above which it is nowhere; of two equal ones the later goes, which has the greater id
abbrev pub MayGoFor : Model → Member → Member → Type 0
MayGoFor m x y = (x.id ≢ y.id) × IsUnder m x y × ((¬ IsUnder m y x) ⊎ (y.id < x.id))

-- the least id of a member for which x may go
pub record IsLeastFor (m : Model) (edition : Edition) (x : Member) (id : ℕ) : Type 0 where
  pub member : Member
  pub among : IsIn edition member
  pub goes : MayGoFor m x member
  pub is : id ≡ member.id
  pub least : (y : Member) → IsIn edition y → MayGoFor m x y → id ≤ y.id

-- the pairs of those of some members of the edition that may go, in order: each with the least id for which it may
abbrev pub AreDominated : Model → Edition → List Member → List (ℕ × ℕ) → Type 0
AreDominated m edition [] pairs = pairs ≡ []
AreDominated m edition (x ∷ xs) pairs =
    (((y : Member) → IsIn edition y → ¬ MayGoFor m x y) × AreDominated m edition xs pairs)
    ⊎ ((id : ℕ) × (rest : List (ℕ × ℕ)) × IsLeastFor m edition x id × (pairs ≡ (x.id, id) ∷ rest) × AreDominated m edition xs rest)

-- the dominated members of an edition are those that may go, all of them
abbrev pub DominatedAreThose : Type 0
DominatedAreThose = (m : Model) (edition : Edition) → AreDominated m edition edition (dominated m edition)
