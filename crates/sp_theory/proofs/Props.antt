-- Facts that ghost fields may hold have one proof at most.
use Rattle.std.proofs.Common.{ℕ, List, [], ◌∷◌}
use Rattle.sp_theory.specs.Draws.{Draws, after, AreProbabilitiesWhole}
use Rattle.std.proofs.Props.{props}

pub IsWhole-prop : (ks : List ℕ) (d : Draws) → IsProp (AreProbabilitiesWhole ks d)
IsWhole-prop [] d = hlevel props
IsWhole-prop (k ∷ ks) d = let rest = (λ (x : ℕ). IsWhole-prop ks (after x d)) in hlevel (props, rest)
