use Rattle.std.proofs.Common.{◌≡◌, ◌≢◌, ℕ, zero, suc, ◌<◌, ◌≤◌, ◌+◌, ◌*◌, ◌/◌, ◌%◌, ◌⊎◌, inl, inr, refl, sym, ◌∙◌, ap, arith, List, [], ◌∷◌, length, get_or, set, subst, Bool, true, false, IsTrue, ◌↔◌}
use Rattle.std.specs.Prelude.{ℤ, ◌≤ℤ◌, ◌<ℤ◌}
use Rattle.std.specs.Bool.{OnTrue, OnFalse}
use Rattle.std.proofs.lemmas.Bool.{cases_lt}
use Rattle.std.proofs.lemmas.Grind.{same_number_lists}
use Rattle.std.proofs.lemmas.List.{set-get_or}
use Rattle.std.proofs.lemmas.Nat.{mod_below, div-add-mod'}
use Rattle.std.proofs.Math.Nat.{mod-eq_of_lt, mul-le-mul_right}
use Rattle.sp_dd.specs.Points.{product, place, point_at, IsPoint, AllSizes}
use Rattle.sp_dd.specs.Func.{Shape, Func, IsScope, value_of, IsPointOf, Everywhere, size_of, DependsOn, IsIndependentOf}
use Rattle.sp_dd.specs.Operations.{IsAtMost, IsFirstAbove, IsFirstApart}
use Rattle.sp_dd.proofs.FuncLemmas.{scope_some, same_everywhere, IsPoint-with}
use Rattle.sp_dd.proofs.PointLemmas.{parts_pos, place-below, point_at-turn}
use Rattle.sp_table.specs.Widths.{AreWidthsOf, IsFrame, Agrees, Differs}
use Rattle.sp_table.specs.Searches.{IsFirstNumber}
use Rattle.sp_table.proofs.PlaceLemmas.{Mentions-length, Mentions-pos, Mentions-refl, IsPoint-length, length-point_at, place-kept, MentionsBut, MentionsBut-set}
use Rattle.sp_table.proofs.FrameLemmas.{Holds, reads_own, reads_set, point_within, point_too}
use Rattle.sp_table.proofs.BranchLemmas.{get_or-kept}

-- what holds of a quotient and a remainder
digit_at_most : (d r e c p : ℕ) → c < p → d * p + r ≤ e * p + c → d ≤ e
digit_at_most d r e c p less h =
    elim (cases_lt e d) [
      | inl more ↦ (let times : (e + 1) * p ≤ d * p = mul-le-mul_right p (omega arith) in absurd (omega (arith, times)))
      | inr most ↦ most
    ]

digit_below : (k p w : ℕ) → k < w * p → k / p < w
digit_below k p w h =
    elim (cases_lt (k / p) w) [
      | inl less ↦ less
      | inr most ↦ (let times : w * p ≤ k / p * p = mul-le-mul_right p most in absurd (omega (arith, times, div-add-mod' k p)))
    ]

mod-le : (y w : ℕ) → 0 < w → y % w ≤ y
mod-le y w h = omega (arith, div-add-mod' y w)

size_more : (w s d : ℕ) → w ≡ 1 ⊎ w ≡ s → 0 < s → d < w → d < s
size_more w s d (inl e) h less = omega arith
size_more w s d (inr e) h less = omega arith

-- a point of some widths comes in slot order no later than each point that names its place, or a later one
pub place-first : (ws ss y : List ℕ) (k : ℕ) → AreWidthsOf ws ss → IsPoint ss y → 0 < product ss → 0 < product ws → k < product ws → k ≤ place ws y → place ss (point_at ws k) ≤ place ss y
place-first [] [] [] k m p h some less most = omega arith
place-first [] [] (y ∷ ys) k m p h some less most = absurd p
place-first [] (s ∷ ss) y k m p h some less most = absurd m
place-first (w ∷ ws) [] y k m p h some less most = absurd m
place-first (w ∷ ws) (s ∷ ss) [] k m p h some less most = absurd p
place-first (w ∷ ws) (s ∷ ss) (y ∷ ys) k m p h some less most =
    let parts = parts_pos s (product ss) h in
    let ours = parts_pos w (product ws) some in
    let split = div-add-mod' k (product ws) in
    let behind = place-below ws ys ours.1 in
    let rest_less = mod_below k (product ws) ours.1 in
    let digit = digit_below k (product ws) w less in
    let digit_s = size_more w s (k / product ws) m.0 parts.0 digit in
    let head : k / product ws % w % s ≡ k / product ws = ap (λ d. d % s) (mod-eq_of_lt digit) ∙ mod-eq_of_lt digit_s in
    let at_most : k / product ws ≤ y % w = digit_at_most (k / product ws) (k % product ws) (y % w) (place ws ys) (product ws) behind (omega (arith, split, most)) in
    let low = mod-le y w ours.0 in
    let turned : point_at ws k ≡ point_at ws (k % product ws) = ap (point_at ws) (sym split) ∙ point_at-turn ws (k / product ws) (k % product ws) ours.1 in
    let inner = place-below ss (point_at ws k) parts.1 in
    let left = ap (λ d. d * product ss) head in
    let right = ap (λ d. d * product ss) (mod-eq_of_lt p.0) in
    elim (cases_lt (k / product ws) y) [
      | inl before ↦ (let times : (k / product ws + 1) * product ss ≤ y * product ss = mul-le-mul_right (product ss) (omega (arith, before)) in omega (arith, times, left, right, inner))
      | inr same ↦
          (let is : k / product ws ≡ y = omega (arith, same, at_most, low) in
          let digits : y % w ≡ y = omega (arith, is, at_most, low) in
          let ours_same = ap (λ d. d * product ws) is in
          let theirs_same = ap (λ d. d * product ws) digits in
          let rest : k % product ws ≤ place ws ys = omega (arith, split, most, ours_same, theirs_same) in
          let deeper = place-first ws ss ys (k % product ws) m.1 p.1 parts.1 ours.1 rest_less rest in
          let moved = ap (place ss) turned in
          let product_same = ap (λ d. d * product ss) is in
          omega (arith, left, right, deeper, moved, product_same))
    ]

-- the place of an earlier point is before
pub earlier : (s : Shape) (us y : List ℕ) (k : ℕ) → IsScope s → AreWidthsOf us s.sizes → IsPoint s.sizes y → k < product us → place s.sizes y < place s.sizes (point_at us k) → place us y < k
earlier s us y k h m p less before =
    let some = Mentions-pos us s.sizes m (scope_some s h) in
    elim (cases_lt (place us y) k) [
      | inl is ↦ is
      | inr not ↦ absurd (omega (arith, before, place-first us s.sizes y k m p (scope_some s h) some less not))
    ]

-- the first place at which f is above g is the first such point
pub first_above_is : (f g : Func) (us to pt : List ℕ) (n k : ℕ) → f.shape ≡ g.shape → IsFrame f us → IsFrame g us → to ≡ us → n ≡ product to → IsFirstNumber n (λ k. value_of f (point_at to k) ≤ℤ value_of g (point_at to k)) (λ k. value_of g (point_at to k) <ℤ value_of f (point_at to k)) k → pt ≡ point_at to k → IsFirstAbove f g pt
first_above_is f g us to pt n k shapes left right d n_is first is =
    let P : List ℕ → Type 0 = λ l. IsFirstNumber n (λ k. value_of f (point_at l k) ≤ℤ value_of g (point_at l k)) (λ k. value_of g (point_at l k) <ℤ value_of f (point_at l k)) k in
    let here = subst P d first in
    let Q : List ℕ → Type 0 = λ x. IsFirstAbove f g x in
    let less : k < product us = omega (arith, here.within, n_is, ap product d) in
    subst Q (sym (is ∙ ap (λ l. point_at l k) d))
    (record {
      inside = point_within f.shape us k left.scope left.mentions;
      above = here.bad;
      before = λ y p b.
          (let good = here.before (place us y) (earlier f.shape us y k left.scope left.mentions p less b) in
          let A : ℤ → Type 0 = λ z. z ≤ℤ value_of g (point_at us (place us y)) in
          let B : ℤ → Type 0 = λ z. value_of f y ≤ℤ z in
          subst B (right.reads y (point_too f g y shapes p)) (subst A (left.reads y p) good));
    })

pub none_above_is : (f g : Func) (us to : List ℕ) (n : ℕ) → f.shape ≡ g.shape → IsFrame f us → IsFrame g us → to ≡ us → n ≡ product to → ((k : ℕ) → k < n → value_of f (point_at to k) ≤ℤ value_of g (point_at to k)) → IsAtMost f g
none_above_is f g us to n shapes left right d n_is all x p =
    let P : List ℕ → Type 0 = λ l. (k : ℕ) → k < n → value_of f (point_at l k) ≤ℤ value_of g (point_at l k) in
    let some = Mentions-pos us f.shape.sizes left.mentions (scope_some f.shape left.scope) in
    let good = (subst P d all) (place us x) (omega (arith, place-below us x some, n_is, ap product d)) in
    let A : ℤ → Type 0 = λ z. z ≤ℤ value_of g (point_at us (place us x)) in
    let B : ℤ → Type 0 = λ z. value_of f x ≤ℤ z in
    subst B (right.reads x (point_too f g x shapes p)) (subst A (left.reads x p) good)

pub first_apart_is : (f : Func) (v : ℤ) (us to pt : List ℕ) (n k : ℕ) → IsFrame f us → to ≡ us → n ≡ product to → IsFirstNumber n (λ k. value_of f (point_at to k) ≡ v) (λ k. value_of f (point_at to k) ≢ v) k → pt ≡ point_at to k → IsFirstApart f v pt
first_apart_is f v us to pt n k frame d n_is first is =
    let P : List ℕ → Type 0 = λ l. IsFirstNumber n (λ k. value_of f (point_at l k) ≡ v) (λ k. value_of f (point_at l k) ≢ v) k in
    let here = subst P d first in
    let Q : List ℕ → Type 0 = λ x. IsFirstApart f v x in
    let less : k < product us = omega (arith, here.within, n_is, ap product d) in
    subst Q (sym (is ∙ ap (λ l. point_at l k) d))
    (record {
      inside = point_within f.shape us k frame.scope frame.mentions;
      apart = here.bad;
      before = λ y p b. sym (frame.reads y p) ∙ here.before (place us y) (earlier f.shape us y k frame.scope frame.mentions p less b);
    })

pub none_apart_is : (f : Func) (v : ℤ) (us to : List ℕ) (n : ℕ) → IsFrame f us → to ≡ us → n ≡ product to → ((k : ℕ) → k < n → value_of f (point_at to k) ≡ v) → Everywhere f (λ u. u ≡ v)
none_apart_is f v us to n frame d n_is all x p =
    let P : List ℕ → Type 0 = λ l. (k : ℕ) → k < n → value_of f (point_at l k) ≡ v in
    let some = Mentions-pos us f.shape.sizes frame.mentions (scope_some f.shape frame.scope) in
    sym (frame.reads x p) ∙ (subst P d all) (place us x) (omega (arith, place-below us x some, n_is, ap product d))

-- functions that are equal at each point of the first one's widths
pub agrees_is : (f g : Func) (ws to : List ℕ) (cs : List ℤ) (n : ℕ) → Holds ws cs f → to ≡ ws → n ≡ length cs → ((k : ℕ) → k < n → value_of f (point_at to k) ≡ value_of g (point_at to k)) → Agrees f g
agrees_is f g ws to cs n held d n_is all =
    let P : List ℕ → Type 0 = λ l. (k : ℕ) → k < n → value_of f (point_at l k) ≡ value_of g (point_at l k) in
    record {
      scope = held.table.scope;
      determined = held.determined;
      widths = ws;
      mentions = held.table.mentions;
      some = held.some;
      same = λ x p. sym ((subst P d all) (place ws x) (omega (arith, place-below ws x held.some, held.table.whole, n_is))) ∙ reads_own ws cs f held x p;
    }

pub differs_is : (f g : Func) (ws to : List ℕ) (cs : List ℤ) (n k : ℕ) → Holds ws cs f → to ≡ ws → IsFirstNumber n (λ k. value_of f (point_at to k) ≡ value_of g (point_at to k)) (λ k. value_of f (point_at to k) ≢ value_of g (point_at to k)) k → Differs f g
differs_is f g ws to cs n k held d first =
    let P : List ℕ → Type 0 = λ l. value_of f (point_at l k) ≢ value_of g (point_at l k) in
    record { point = point_at ws k; inside = point_within f.shape ws k held.table.scope held.table.mentions; apart = subst P d first.bad }

-- remainders by widths of one scope can be taken in either order
swap_mod : (a b s x : ℕ) → 0 < s → a ≡ 1 ⊎ a ≡ s → b ≡ 1 ⊎ b ≡ s → x % a % b ≡ x % b % a
swap_mod a b s x h (inl e) (inl d) = ap (λ w. x % a % w) (d ∙ sym e) ∙ ap (λ w. x % w % a) (e ∙ sym d)
swap_mod a b s x h (inl e) (inr d) =
    let left : x % a ≡ 0 = ap (λ w. x % w) e ∙ (let z : x % 1 ≡ 0 = omega (arith, mod_below x 1 (omega arith)) in z) in
    let right : x % b % a ≡ 0 = ap (λ w. x % b % w) e ∙ (let z : x % b % 1 ≡ 0 = omega (arith, mod_below (x % b) 1 (omega arith)) in z) in
    ap (λ w. w % b) left ∙ mod-eq_of_lt (omega (arith, d, h)) ∙ sym right
swap_mod a b s x h (inr e) (inl d) =
    let left : x % b ≡ 0 = ap (λ w. x % w) d ∙ (let z : x % 1 ≡ 0 = omega (arith, mod_below x 1 (omega arith)) in z) in
    let right : x % a % b ≡ 0 = ap (λ w. x % a % w) d ∙ (let z : x % a % 1 ≡ 0 = omega (arith, mod_below (x % a) 1 (omega arith)) in z) in
    right ∙ sym (ap (λ w. w % a) left ∙ mod-eq_of_lt (omega (arith, e, h)))
swap_mod a b s x h (inr e) (inr d) = ap (λ w. x % a % w) (d ∙ sym e) ∙ ap (λ w. x % w % a) (e ∙ sym d)

Mentions-at : (us ss : List ℕ) (i : ℕ) → AreWidthsOf us ss → i < length us → get_or us i 0 ≡ 1 ⊎ get_or us i 0 ≡ get_or ss i 0
Mentions-at [] ss i m h = absurd (omega arith)
Mentions-at (u ∷ us) [] i m h = absurd m
Mentions-at (u ∷ us) (s ∷ ss) zero m h = m.0
Mentions-at (u ∷ us) (s ∷ ss) (suc i) m h = Mentions-at us ss i m.1 (omega arith)

size_low : (ws : List ℕ) (i : ℕ) → AllSizes ws → i < length ws → 0 < get_or ws i 0
size_low [] i h less = absurd (omega arith)
size_low (w ∷ ws) zero h less = h.0
size_low (w ∷ ws) (suc i) h less = size_low ws i h.2 (omega arith)

-- each slot has a value
pub size_some : (s : Shape) (slot : ℕ) → IsScope s → slot < length s.sizes → 0 < size_of s slot
size_some s slot h less = size_low s.sizes slot h.each less

-- the slots that neither of two widths mentions, taken in either order
kept_swap : (s : Shape) (us vs x : List ℕ) → IsScope s → AreWidthsOf us s.sizes → AreWidthsOf vs s.sizes → 0 < product us → 0 < product vs → IsPoint s.sizes x → point_at vs (place vs (point_at us (place us x))) ≡ point_at us (place us (point_at vs (place vs x)))
kept_swap s us vs x h m n a b p =
    let long_u = Mentions-length us s.sizes m in
    let long_v = Mentions-length vs s.sizes n in
    let long_x = IsPoint-length s.sizes x p in
    let first = length-point_at us (place us x) in
    let second = length-point_at vs (place vs x) in
    same_number_lists _ _ (length-point_at vs _ ∙ long_v ∙ sym long_u ∙ sym (length-point_at us _))
    (λ i less.
    (let within : i < length vs = omega (arith, less, length-point_at vs (place vs (point_at us (place us x)))) in
    get_or-kept vs (point_at us (place us x)) i b (omega (arith, first, long_u, long_v)) within
    ∙ ap (λ d. d % get_or vs i 0) (get_or-kept us x i a (long_u ∙ long_x) (omega (arith, within, long_u, long_v)))
    ∙ swap_mod (get_or us i 0) (get_or vs i 0) (get_or s.sizes i 0) (get_or x i 0) (size_low s.sizes i h.each (omega (arith, within, long_v))) (Mentions-at us s.sizes i m (omega (arith, within, long_u, long_v))) (Mentions-at vs s.sizes i n within)
    ∙ sym (get_or-kept us (point_at vs (place vs x)) i a (omega (arith, second, long_u, long_v)) (omega (arith, within, long_u, long_v)) ∙ ap (λ d. d % get_or us i 0) (get_or-kept vs x i b (long_v ∙ long_x) within))))

kept_twice : (s : Shape) (us x : List ℕ) → AreWidthsOf us s.sizes → 0 < product us → IsPoint s.sizes x → point_at us (place us (point_at us (place us x))) ≡ point_at us (place us x)
kept_twice s us x m some p = ap (point_at us) (place-kept us us x (Mentions-refl us) some (Mentions-length us s.sizes m ∙ IsPoint-length s.sizes x p))

-- functions that agree both ways are one
pub same_is : (f g : Func) → f.shape ≡ g.shape → Agrees f g → Agrees g f → f ≡ g
same_is f g shapes one two =
    let P : Shape → Type 0 = λ s. AreWidthsOf two.widths s.sizes in
    let m : AreWidthsOf two.widths f.shape.sizes = subst P (sym shapes) two.mentions in
    same_everywhere f g one.scope one.determined two.determined shapes (λ x p.
    (let xa = point_within f.shape one.widths (place one.widths x) one.scope one.mentions in
    let xb = point_within f.shape two.widths (place two.widths x) one.scope m in
    let xab = point_within f.shape two.widths (place two.widths (point_at one.widths (place one.widths x))) one.scope m in
    let swap = kept_swap f.shape one.widths two.widths x one.scope one.mentions m one.some two.some p in
    let again = kept_twice f.shape one.widths (point_at two.widths (place two.widths x)) one.mentions one.some xb in
    sym (one.same x p)
    ∙ sym (two.same _ (point_too f g _ shapes xa))
    ∙ sym (one.same _ xab)
    ∙ ap (λ z. value_of g (point_at one.widths (place one.widths z))) swap
    ∙ ap (value_of g) again
    ∙ one.same _ xb
    ∙ two.same x (point_too f g x shapes p)))

pub iff_same : (r : Bool) (f g : Func) → f.shape ≡ g.shape → Agrees f g → OnTrue r (Agrees g f) → OnFalse r (Differs g f) → IsTrue r ↔ (f ≡ g)
iff_same true f g shapes one two apart = (λ t. same_is f g shapes one two, λ e. refl)
iff_same false f g shapes one two apart = (λ t. absurd (let never : ⊥ = cc t in never), λ e. absurd (apart.apart (ap (λ h. value_of h apart.point) (sym e))))

set_again : (x : List ℕ) (i v w : ℕ) → set (set x i v) i w ≡ set x i w
set_again [] i v w = refl
set_again (a ∷ x) zero v w = refl
set_again (a ∷ x) (suc i) v w = ap (λ l. a ∷ l) (set_again x i v w)

-- a slot that changes no value at the points of a function's own widths changes none at all
pub stays_is : (f : Func) (ws to : List ℕ) (cs : List ℤ) (n slot : ℕ) → Holds ws cs f → slot < length f.shape.sizes → to ≡ ws → n ≡ length cs → ((k : ℕ) → k < n → value_of f (set (point_at to k) slot 0) ≡ value_of f (point_at to k)) → IsIndependentOf f slot
stays_is f ws to cs n slot held within d n_is all x v p less =
    let P : List ℕ → Type 0 = λ l. (k : ℕ) → k < n → value_of f (set (point_at l k) slot 0) ≡ value_of f (point_at l k) in
    let M : List ℕ → Type 0 = λ l. MentionsBut slot ws l in
    let but : MentionsBut slot ws ws = subst M (set-get_or ws slot 0) (MentionsBut-set ws ws slot (get_or ws slot 0) (Mentions-refl ws)) in
    let some = size_some f.shape slot held.table.scope within in
    let reads = reads_own ws cs f held in
    let first : (y : List ℕ) → IsPointOf f y → value_of f (set y slot 0) ≡ value_of f y = λ y q.
    sym (reads_set f ws ws slot 0 y held.table.scope reads but held.table.mentions q some)
    ∙ (subst P d all) (place ws y) (omega (arith, place-below ws y held.some, held.table.whole, n_is))
    ∙ reads y q
    in
    sym (first (set x slot v) (IsPoint-with f.shape.sizes x slot v p less)) ∙ ap (value_of f) (set_again x slot v 0) ∙ first x p

pub moves_is : (f : Func) (ws to : List ℕ) (cs : List ℤ) (n k slot : ℕ) → Holds ws cs f → slot < length f.shape.sizes → to ≡ ws → IsFirstNumber n (λ k. value_of f (set (point_at to k) slot 0) ≡ value_of f (point_at to k)) (λ k. value_of f (set (point_at to k) slot 0) ≢ value_of f (point_at to k)) k → DependsOn f slot
moves_is f ws to cs n k slot held within d first =
    let P : List ℕ → Type 0 = λ l. value_of f (set (point_at l k) slot 0) ≢ value_of f (point_at l k) in
    record {
      point = point_at ws k;
      other = 0;
      inside = point_within f.shape ws k held.table.scope held.table.mentions;
      within = size_some f.shape slot held.table.scope within;
      apart = subst P d first.bad;
    }
