use Rattle.std.proofs.Common.{◌≡◌, ℕ, zero, suc, ◌<◌, ◌≤◌, ap, arith, length, get_or}
use Rattle.std.specs.Prelude.{ℤ, pos, ◌≤ℤ◌, slice_set, unsigned_abs}
use Rattle.std.proofs.lemmas.Int.{ints, by_lt_z}
use Rattle.std.proofs.lemmas.List.{set-get_or}
use Rattle.sp_dd.specs.Floors.{sum_to, ticks}
use Rattle.sp_dd.specs.Func.{Func, Everywhere, size_of, value_of}
use Rattle.sp_dd.specs.Operations.{IsRow}
use Rattle.sp_dd.proofs.IndependenceLemmas.{point-below}

-- a sum of numbers that aren't negative, and each of its terms
row-pos : (n : ℕ) (w : ℕ → ℤ) → ((v : ℕ) → v < n → pos 0 ≤ℤ w v) → pos 0 ≤ℤ sum_to n w
row-pos zero w h = omega (arith, ints)
row-pos (suc n) w h = omega (arith, ints, row-pos n w (λ v less. h v (omega arith)), h n (omega arith))

row-term : (n k : ℕ) (w : ℕ → ℤ) → ((v : ℕ) → v < n → pos 0 ≤ℤ w v) → k < n → w k ≤ℤ sum_to n w
row-term zero k w h less = absurd (omega arith)
row-term (suc n) k w h less =
    by_lt_z (pos k) (pos n)
    (λ before. omega (arith, ints, row-term n k w (λ v m. h v (omega arith)) (omega (arith, ints)), h n (omega arith)))
    (λ last. let e : k ≡ n = omega (arith, ints) in omega (arith, ints, row-pos n w (λ v m. h v (omega arith)), ap w e))

-- no weight of a row is more than one
pub row_small : (p : Func) (slot : ℕ) → slot < length p.shape.sizes → IsRow p slot → Everywhere p (λ v. unsigned_abs v ≤ ticks)
row_small p slot within row x inside =
    let below : get_or x slot 0 < size_of p.shape slot = point-below p.shape.sizes x slot inside within in
    let most = row-term (size_of p.shape slot) (get_or x slot 0) (λ v. value_of p (slice_set x slot v)) (row.weights x inside) below in
    let same : value_of p (slice_set x slot (get_or x slot 0)) ≡ value_of p x = ap (value_of p) (set-get_or x slot 0) in
    omega (arith, ints, most, same, row.whole x inside, row.weights x inside (get_or x slot 0) below)
