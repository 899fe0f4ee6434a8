use Rattle.std.proofs.Common.{◌≡◌, ℕ, ◌<◌, ◌≤◌, ◌^◌, ap, arith, List, subst, sym}
use Rattle.std.specs.Prelude.{ℤ, ◌*ℤ◌, unsigned_abs}
use Rattle.std.proofs.lemmas.Int.{ints}
use Rattle.sp_dd.specs.Floors.{floor_div, ticks}
use Rattle.sp_dd.specs.Points.{product, place, point_at}
use Rattle.sp_dd.specs.Func.{Func, value_of}
use Rattle.sp_dd.specs.Operations.{IsWholeTick, IsProductWhole, HasPartialTick}
use Rattle.sp_dd.proofs.FloorLemmas.{floor-low, floor-high}
use Rattle.sp_dd.proofs.FuncLemmas.{scope_some}
use Rattle.sp_dd.proofs.PointLemmas.{place-below}
use Rattle.sp_table.specs.Widths.{IsFrame}
use Rattle.sp_table.specs.Searches.{IsFirstNumber}
use Rattle.sp_table.proofs.PlaceLemmas.{Mentions-pos}
use Rattle.sp_table.proofs.FrameLemmas.{op_same, point_within, point_too}

-- the floor of a small number of ticks is small
pub floor_small : (z f : ℤ) → f ≡ floor_div z ticks → unsigned_abs z ≤ 2 ^ 124 → unsigned_abs f ≤ 2 ^ 95
floor_small z f e small =
    let low = floor-low z ticks (omega arith) in
    let high = floor-high z ticks (omega arith) in
    let P : ℤ → Type 0 = λ t. unsigned_abs t ≤ 2 ^ 95 in
    let is : unsigned_abs (floor_div z ticks) ≤ 2 ^ 95 = omega (arith, ints, low, high, small) in
    subst P (sym e) is

-- whole products at each point of a frame are whole products
pub whole_is : (f g : Func) (us to : List ℕ) (n : ℕ) → f.shape ≡ g.shape → IsFrame f us → IsFrame g us → to ≡ us → n ≡ product to → ((k : ℕ) → k < n → IsWholeTick (value_of f (point_at to k) *ℤ value_of g (point_at to k))) → IsProductWhole f g
whole_is f g us to n shapes left right d n_is all x p =
    let P : List ℕ → Type 0 = λ l. (k : ℕ) → k < n → IsWholeTick (value_of f (point_at l k) *ℤ value_of g (point_at l k)) in
    let some = Mentions-pos us f.shape.sizes left.mentions (scope_some f.shape left.scope) in
    let Q : ℤ → Type 0 = λ z. IsWholeTick z in
    subst Q (op_same (λ a b. a *ℤ b) _ _ _ _ (left.reads x p) (right.reads x (point_too f g x shapes p))) ((subst P d all) (place us x) (omega (arith, place-below us x some, n_is, ap product d)))

-- a product that isn't whole
pub partial_is : (f g : Func) (us to : List ℕ) (n k : ℕ) → IsFrame f us → to ≡ us → IsFirstNumber n (λ k. IsWholeTick (value_of f (point_at to k) *ℤ value_of g (point_at to k))) (λ k. ¬ IsWholeTick (value_of f (point_at to k) *ℤ value_of g (point_at to k))) k → HasPartialTick f g
partial_is f g us to n k frame d first =
    let P : List ℕ → Type 0 = λ l. ¬ IsWholeTick (value_of f (point_at l k) *ℤ value_of g (point_at l k)) in
    record { point = point_at us k; inside = point_within f.shape us k frame.scope frame.mentions; partial = subst P d first.bad }
