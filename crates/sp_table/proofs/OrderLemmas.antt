use Rattle.std.proofs.Common.{◌≡◌, ℕ, ◌<◌, ◌+◌, sym, ◌∙◌, ap, arith, List, length, get_or, below_more, subst}
use Rattle.std.specs.Prelude.{ℤ, pos, ◌≤ℤ◌}
use Rattle.std.specs.Int.{int_min, int_max}
use Rattle.std.proofs.lemmas.Int.{ints, by_lt_z, int_min_is, int_max_is}
use Rattle.std.proofs.Math.Nat.{mod-eq_of_lt}
use Rattle.sp_dd.specs.Points.{place, point_at}
use Rattle.sp_dd.specs.Func.{Shape, Func, value_of, IsPointOf}
use Rattle.sp_dd.specs.Operations.{IsLeast, IsGreatest}
use Rattle.sp_dd.proofs.PointLemmas.{place-below, place-point_at}
use Rattle.sp_table.specs.Cells.{meaning, IsTable, IsLeastCell, IsGreatestOf}
use Rattle.sp_table.proofs.FrameLemmas.{Holds, holds, point_within}

-- one more cell is met
pub least_more : (cells : List ℤ) (i : ℕ) (old new : ℤ) → i < length cells → IsLeastCell cells i old → new ≡ int_min old (get_or cells i (pos 0)) → IsLeastCell cells (i + 1) new
least_more cells i old new less before e =
    let is = int_min_is old (get_or cells i (pos 0)) in
    let low : int_min old (get_or cells i (pos 0)) ≤ℤ old = omega (arith, ints, is) in
    let here : int_min old (get_or cells i (pos 0)) ≤ℤ get_or cells i (pos 0) = omega (arith, ints, is) in
    let all : (j : ℕ) → j < i + 1 → new ≤ℤ get_or cells j (pos 0) = below_more _ _ (λ j b. let was = before.bound j b in omega (arith, ints, was, low, e)) (omega (arith, ints, here, e)) in
    by_lt_z (get_or cells i (pos 0)) old
    (λ h. record { at = i; inside = less; reached = (let same : get_or cells i (pos 0) ≡ int_min old (get_or cells i (pos 0)) = omega (arith, ints, is, h) in same ∙ sym e); bound = all })
    (λ h. record { at = before.at; inside = before.inside; reached = (let same : old ≡ int_min old (get_or cells i (pos 0)) = omega (arith, ints, is, h) in before.reached ∙ same ∙ sym e); bound = all })

pub greatest_more : (cells : List ℤ) (i : ℕ) (old new : ℤ) → i < length cells → IsGreatestOf cells i old → new ≡ int_max old (get_or cells i (pos 0)) → IsGreatestOf cells (i + 1) new
greatest_more cells i old new less before e =
    let is = int_max_is old (get_or cells i (pos 0)) in
    let high : old ≤ℤ int_max old (get_or cells i (pos 0)) = omega (arith, ints, is) in
    let here : get_or cells i (pos 0) ≤ℤ int_max old (get_or cells i (pos 0)) = omega (arith, ints, is) in
    let all : (j : ℕ) → j < i + 1 → get_or cells j (pos 0) ≤ℤ new = below_more _ _ (λ j b. let was = before.bound j b in omega (arith, ints, was, high, e)) (omega (arith, ints, here, e)) in
    by_lt_z old (get_or cells i (pos 0))
    (λ h. record { at = i; inside = less; reached = (let same : get_or cells i (pos 0) ≡ int_max old (get_or cells i (pos 0)) = omega (arith, ints, is, h) in same ∙ sym e); bound = all })
    (λ h. record { at = before.at; inside = before.inside; reached = (let same : old ≡ int_max old (get_or cells i (pos 0)) = omega (arith, ints, is, h) in before.reached ∙ same ∙ sym e); bound = all })

-- a cell is the value at a point
cell_point : (ws : List ℕ) (cs : List ℤ) (f : Func) (k : ℕ) → Holds ws cs f → k < length cs → IsPointOf f (point_at ws k) × (value_of f (point_at ws k) ≡ get_or cs k (pos 0))
cell_point ws cs f k h less =
    let point = point_within f.shape ws k h.table.scope h.table.mentions in
    let here : place ws (point_at ws k) ≡ k = place-point_at ws k h.some ∙ mod-eq_of_lt (omega (arith, less, h.table.whole)) in
    (point, sym (h.value _ point) ∙ ap (λ n. get_or cs n (pos 0)) here)

-- the least cell is the least value
pub least_is : (s : Shape) (ws : List ℕ) (cs ds : List ℤ) (f : Func) (v : ℤ) → IsTable s ws cs → meaning s ws cs ≡ f → ds ≡ cs → IsLeastCell ds (length ds) v → IsLeast f v
least_is s ws cs ds f v table is e least =
    let held = holds s ws cs f table is in
    let P : List ℤ → Type 0 = λ l. IsLeastCell l (length l) v in
    let all : IsLeastCell cs (length cs) v = subst P e least in
    let here = cell_point ws cs f all.at held all.inside in
    let Q : ℤ → Type 0 = λ z. v ≤ℤ z in
    record {
      point = point_at ws all.at;
      inside = here.0;
      reached = here.1 ∙ all.reached;
      bound = λ x p. subst Q (held.value x p) (all.bound (place ws x) (omega (arith, place-below ws x held.some, held.table.whole)));
    }

pub greatest_is : (s : Shape) (ws : List ℕ) (cs ds : List ℤ) (f : Func) (v : ℤ) → IsTable s ws cs → meaning s ws cs ≡ f → ds ≡ cs → IsGreatestOf ds (length ds) v → IsGreatest f v
greatest_is s ws cs ds f v table is e greatest =
    let held = holds s ws cs f table is in
    let P : List ℤ → Type 0 = λ l. IsGreatestOf l (length l) v in
    let all : IsGreatestOf cs (length cs) v = subst P e greatest in
    let here = cell_point ws cs f all.at held all.inside in
    let Q : ℤ → Type 0 = λ z. z ≤ℤ v in
    record {
      point = point_at ws all.at;
      inside = here.0;
      reached = here.1 ∙ all.reached;
      bound = λ x p. subst Q (held.value x p) (all.bound (place ws x) (omega (arith, place-below ws x held.some, held.table.whole)));
    }
