-- Coordinates that are a point.
use Rattle.std.proofs.Common.{◌≡◌, ℕ, suc, arith, ◌<◌, List, [], ◌∷◌, length, get_or}
use Rattle.sp_dd.specs.Points.{IsPoint}

-- coordinates below their sizes one by one are a point
pub below_each : (ws xs : List ℕ) → length xs ≡ length ws → ((k : ℕ) → k < length xs → get_or xs k 0 < get_or ws k 0) → IsPoint ws xs
below_each [] [] e h = tt
below_each [] (x ∷ xs) e h = absurd (omega arith)
below_each (w ∷ ws) [] e h = absurd (omega arith)
below_each (w ∷ ws) (x ∷ xs) e h = (h 0 (omega arith), below_each ws xs (omega arith) (λ k less. h (suc k) (omega arith)))
