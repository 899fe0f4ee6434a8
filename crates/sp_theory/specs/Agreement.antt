-- Vectors, weights and editions that agree at all states: no value, backup or choice tells them apart.
use Rattle.std.proofs.Common.{◌≡◌, List, [], ◌∷◌, Option, Some, None}
use Rattle.sp_theory.specs.Points.{IsPoint}
use Rattle.sp_theory.specs.Model.{Model, State, Vector}
use Rattle.sp_theory.specs.Values.{Weights, Member, Edition}

-- the same number at each state
abbrev pub VectorsAgree : Model → Vector → Vector → Type 0
VectorsAgree m u v = (s : State) → IsPoint m.sizes s → u s ≡ v s

-- the same weight at each state
abbrev pub WeightsAgree : Model → Weights → Weights → Type 0
WeightsAgree m w x = (s : State) → IsPoint m.sizes s → w s ≡ x s

-- no weights, or weights that agree
abbrev pub NextAgree : Model → Option Weights → Option Weights → Type 0
NextAgree m None None = Unit {0}
NextAgree m (Some w) (Some x) = WeightsAgree m w x
NextAgree m None (Some x) = ⊥
NextAgree m (Some w) None = ⊥

-- the same id and action, and vectors that agree
abbrev pub MembersAgree : Model → Member → Member → Type 0
MembersAgree m x y = (x.id ≡ y.id) × (x.action ≡ y.action) × VectorsAgree m x.vector y.vector

-- members that agree, one after another
abbrev pub EditionsAgree : Model → Edition → Edition → Type 0
EditionsAgree m [] [] = Unit {0}
EditionsAgree m (x ∷ xs) (y ∷ ys) = MembersAgree m x y × EditionsAgree m xs ys
EditionsAgree m [] (y ∷ ys) = ⊥
EditionsAgree m (x ∷ xs) [] = ⊥

-- editions that agree, one after another
abbrev pub AllAgree : Model → List Edition → List Edition → Type 0
AllAgree m [] [] = Unit {0}
AllAgree m (x ∷ xs) (y ∷ ys) = EditionsAgree m x y × AllAgree m xs ys
AllAgree m [] (y ∷ ys) = ⊥
AllAgree m (x ∷ xs) [] = ⊥
