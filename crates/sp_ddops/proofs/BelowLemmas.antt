-- Where one function is above another, by their roots.
use Rattle.std.proofs.Common.{◌≡◌, ℕ, ◌<◌, ◌≤◌, ⊎_elim, List, length, get_or, take, replicate, pos, ◌≤ℤ◌, ◌<ℤ◌, sym, ◌∙◌, ap, subst, subst₂, arith}
use Rattle.std.proofs.lemmas.Bool.{cases_lt}
use Rattle.std.proofs.lemmas.List.{get_or-take, get_or_past, get_or-replicate, length-replicate, length-take-le}
use Rattle.sp_dd.specs.Points.{IsPoint}
use Rattle.sp_dd.specs.Func.{Shape, Func, IsScope, IsPointOf, value_of}
use Rattle.sp_dd.specs.Operations.{IsAtMost, IsFirstAbove}
use Rattle.sp_dd.specs.NodeLists.{node_value}
use Rattle.sp_dd.specs.Ordered.{at}
use Rattle.sp_dd.specs.Diagrams.{node_list, root_part}
use Rattle.sp_dd.proofs.Diagramming.{func_made, within_at}
use Rattle.sp_dd.proofs.FuncLemmas.{scope_some}
use Rattle.sp_ddops.specs.declared.pairs.Op.TheVariants.{Raise}
use Rattle.sp_ddops.specs.Pairs.{IsPair}
use Rattle.sp_ddops.specs.StateSums.{pair_of}
use Rattle.sp_ddops.specs.Firsts.{IsAssignment, AreBelow, IsFirstFrom, values_in}
use Rattle.sp_ddops.proofs.CofactorLemmas.{value_from}
use Rattle.sp_ddops.proofs.PairLemmas.{fit_root}
use Rattle.sp_ddops.proofs.SearchLemmas.{IsLessAt, first_difference, point_from}

pub roots_pair : (f g : Func) → f.shape ≡ g.shape → IsScope f.shape → IsPair f.shape.sizes (node_list f) (node_list g) (pair_of (root_part f) (root_part g))
roots_pair f g e c = (fit_root (Raise (pos 0)) f g e c (λ p i. tt)).pair

pub origin_blank : (n i : ℕ) → get_or (replicate {A = ℕ} n 0) i 0 ≡ 0
origin_blank n i =
    let none : ℕ = 0 in
    ⊎_elim
    (λ (l : i < n). get_or-replicate n i none none l)
    (λ (l : n ≤ i). get_or_past (replicate n none) i none (omega (arith, length-replicate n none, l)))
    (cases_lt i n)

pub origin_long : (n : ℕ) → length (replicate {A = ℕ} n 0) ≡ n
origin_long n = (let none : ℕ = 0 in length-replicate n none)

point_inside : (sizes p : List ℕ) → IsPoint sizes p → IsAssignment sizes (at p)
point_inside sizes p w i l = within_at sizes p w i l

left_value : (f : Func) (x : List ℕ) → IsPointOf f x → node_value (at x) (node_list f) (root_part f) ≡ value_of f x
left_value f x w = (func_made f).value x w

pub below_everywhere : (f g : Func) → f.shape ≡ g.shape → AreBelow f.shape.sizes (node_list f) (node_list g) (pair_of (root_part f) (root_part g)) → IsAtMost f g
unfolding AreBelow
below_everywhere f g e h x w =
    subst₂ (λ a b. a ≤ℤ b) (left_value f x w) (left_value g x (subst (λ (s : Shape). IsPoint s.sizes x) e w)) (h (at x) (point_inside f.shape.sizes x w))

pub first_is : (f g : Func) (point x : List ℕ) (n : ℕ) → f.shape ≡ g.shape → IsScope f.shape → n ≡ length f.shape.sizes → n ≤ length point → x ≡ take n point → IsFirstFrom f.shape.sizes (node_list f) (node_list g) (pair_of (root_part f) (root_part g)) 0 (values_in point) → IsFirstAbove f g x
first_is f g point x n e c m l d h =
    let sizes : List ℕ = f.shape.sizes in
    let π : ℕ → ℕ = values_in point in
    let p : IsPair sizes (node_list f) (node_list g) (pair_of (root_part f) (root_part g)) = roots_pair f g e c in
    let count : length x ≡ n = ap length d ∙ length-take-le n point l in
    let same : (i : ℕ) → at x i ≡ π i =
    λ i. ⊎_elim
    (λ (a : i < n). ap (λ t. get_or t i 0) d ∙ get_or-take n point i 0 a)
    (λ (a : n ≤ i). get_or_past x i 0 (omega (arith, count, a)) ∙ sym (h.outside i (omega (arith, m, a))))
    (cases_lt i n) in
    let inside : IsPointOf f x = point_from sizes x (count ∙ m) (λ i a. omega (arith, same i, h.inside i a)) in
    let there : (y : List ℕ) → IsPointOf f y → IsPointOf g y = λ y w. subst (λ (s : Shape). IsPoint s.sizes y) e w in
    let left : node_value π (node_list f) (root_part f) ≡ value_of f x = value_from sizes (node_list f) p.left (root_part f) p.left_before (length sizes) 0 (omega arith) π (at x) (λ t a. sym (same t)) ∙ left_value f x inside in
    let right : node_value π (node_list g) (root_part g) ≡ value_of g x = value_from sizes (node_list g) p.right (root_part g) p.right_before (length sizes) 0 (omega arith) π (at x) (λ t a. sym (same t)) ∙ left_value g x (there x inside) in
    record {
      inside = inside;
      above = subst₂ (λ a b. a <ℤ b) right left h.above;
      before = λ y w k.
          (let o : IsLessAt x y = first_difference sizes x y (scope_some f.shape c) inside w k in
          let agree : (i : ℕ) → 0 ≤ i → i < o.place_of → at y i ≡ π i =
          λ i a b. sym (get_or-take o.place_of y i 0 b) ∙ ap (λ t. get_or t i 0) o.same ∙ get_or-take o.place_of x i 0 b ∙ same i in
          subst₂ (λ a b. a ≤ℤ b) (left_value f y w) (left_value g y (there y w))
          (h.before (at y) (point_inside sizes y w) o.place_of (omega arith) (omega (arith, o.within, count, m)) agree (omega (arith, o.less, same o.place_of))));
    }
