use Rattle.std.proofs.Common.{◌≡◌, ℕ, zero, suc, ◌<◌, ◌≤◌, ◌*◌, ◌+◌, ◌/◌, ◌^◌, ◌∙◌, ap, arith, List, [], ◌∷◌, ◌++◌, length, take, get_or}
use Rattle.std.specs.Prelude.{ℤ, pos, ◌*ℤ◌, ◌≤ℤ◌, unsigned_abs}
use Rattle.std.proofs.lemmas.Int.{ints, unsigned_abs-mul}
use Rattle.std.proofs.lemmas.List.{take_more}
use Rattle.std.proofs.lemmas.Nat.{mul-le}
use Rattle.std.proofs.Math.Nat.{mul-div-le}
use Rattle.sp_dd.specs.Floors.{sum_to}
use Rattle.sp_dd.specs.Points.{product}
use Rattle.sp_dd.specs.Func.{Func, Shape, IsScope, value_of, state_at, state_count}
use Rattle.sp_dd.specs.Operations.{IsLeast, IsGreatest}
use Rattle.sp_table.proofs.FrameLemmas.{point_within}
use Rattle.sp_table.proofs.TotalLemmas.{Mentions-state_widths}
use Rattle.sp_yardstick.specs.Guards.{AreGuardedWeights}

-- one more factor
product-last : (xs : List ℕ) (w : ℕ) → product (xs ++ w ∷ []) ≡ product xs * w
product-last [] w = omega arith
product-last (x ∷ xs) w = let rest = ap (λ n. x * n) (product-last xs w) in omega (arith, rest)

pub product_more : (ws : List ℕ) (i each old new w : ℕ) → i < length ws → old ≡ each * product (take i ws) → new ≡ old * w → w ≡ get_or ws i 0 → new ≡ each * product (take (i + 1) ws)
product_more ws i each old new w less before after is =
    let grown : product (take (i + 1) ws) ≡ product (take i ws) * get_or ws i 0 = ap product (take_more ws i 0 less) ∙ product-last (take i ws) (get_or ws i 0) in
    let front : old * w ≡ (each * product (take i ws)) * get_or ws i 0 = ap (λ n. n * w) before ∙ ap (λ n. (each * product (take i ws)) * n) is in
    let back : each * product (take (i + 1) ws) ≡ each * (product (take i ws) * get_or ws i 0) = ap (λ n. each * n) grown in
    omega (arith, after, front, back)

-- a sum of numbers that are at most m is at most n times m
sum-most : (n m : ℕ) (f : ℕ → ℤ) → ((k : ℕ) → f k ≤ℤ pos m) → sum_to n f ≤ℤ pos (n * m)
sum-most zero m f h = omega (arith, ints)
sum-most (suc n) m f h = omega (arith, ints, sum-most n m f h, h n)

-- weights that the greatest one bounds
pub weights_are : (w : Func) (low high : ℤ) (s : Shape) (each : ℕ) → IsScope w.shape → s ≡ w.shape → IsLeast w low → IsGreatest w high → pos 0 ≤ℤ low → each ≡ unsigned_abs high → each * state_count s ≤ 2 ^ 62 → AreGuardedWeights w
weights_are w low high s each scope same least greatest positive is small =
    let reached : low ≤ℤ high = (let at = least.bound greatest.point greatest.inside in omega (arith, ints, at, greatest.reached)) in
    let sum : sum_to (state_count w.shape) (λ k. value_of w (state_at w.shape k)) ≤ℤ pos (state_count w.shape * each) = sum-most (state_count w.shape) each (λ k. value_of w (state_at w.shape k)) (λ k.
    (let most = greatest.bound (state_at w.shape k) (point_within w.shape _ k scope (Mentions-state_widths w.shape.variables w.shape.sizes)) in
    omega (arith, ints, most, reached, positive, is))) in
    let count = ap (λ (t : Shape). each * state_count t) same in
    record {
      not_negative = λ x inside. (let at = least.bound x inside in omega (arith, ints, at, positive));
      total = omega (arith, ints, sum, count, small);
    }

-- multiplied, what is at most a quotient is at most the dividend
pub times_small : (k v : ℤ) (a most : ℕ) → unsigned_abs k ≤ a → unsigned_abs v ≤ most / a → unsigned_abs (k *ℤ v) ≤ most
times_small k v a most h small =
    let product = mul-le _ _ _ _ h small in
    omega (arith, product, mul-div-le most a, unsigned_abs-mul k v)
