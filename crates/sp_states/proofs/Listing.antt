-- The values at all states, in the order of their numbers.
use Rattle.std.proofs.Common.{◌≡◌, ℕ, zero, suc, ◌+◌, ◌-◌, ◌*◌, ◌/◌, ◌%◌, ◌<◌, ◌≤◌, ⊎_elim, List, [], ◌∷◌, ◌++◌, length, get_or, drop, replicate, ℤ, pos, sym, ◌∙◌, ap, ap₂, refl, subst, arith, All}
use Rattle.std.proofs.lemmas.Bool.{cases_lt}
use Rattle.std.proofs.lemmas.Nat.{div-add-mod', mod_below, mul-add-lt}
use Rattle.std.proofs.lemmas.List.{length-append, get_or_append_left, get_or-append_right, replicate-append-replicate}
use Rattle.std.proofs.Math.Nat.{mod-eq_of_lt, div-lt_iff_lt-mul}
use Rattle.std.proofs.Math.Seq.{drop-cons}
use Rattle.sp_dd.specs.Points.{product, point_at, IsPoint}
use Rattle.sp_dd.specs.Walks.{IsFromSlot}
use Rattle.sp_dd.proofs.PointLemmas.{parts_pos, point_at-turn}
use Rattle.sp_states.specs.States.{joined_to, values_at_points, point_from, values_over}

-- ---- lists one after another

joined_same : (n : ℕ) (g h : ℕ → List ℤ) → ((v : ℕ) → v < n → g v ≡ h v) → joined_to n g ≡ joined_to n h
joined_same zero g h e = refl
joined_same (suc n) g h e = ap₂ (λ x y. x ++ y) (joined_same n g h (λ v l. e v (omega arith))) (e n (omega arith))

pub joined_length : (n p : ℕ) (g : ℕ → List ℤ) → ((v : ℕ) → length (g v) ≡ p) → length (joined_to n g) ≡ n * p
joined_length zero p g e = omega arith
joined_length (suc n) p g e = omega (arith, length-append (joined_to n g) (g n), joined_length n p g e, e n)

joined_get : (n p v j : ℕ) (g : ℕ → List ℤ) → ((v : ℕ) → length (g v) ≡ p) → v < n → j < p → get_or (joined_to n g) (v * p + j) (pos 0) ≡ get_or (g v) j (pos 0)
joined_get zero p v j g e l m = absurd (omega arith)
joined_get (suc n) p v j g e l m =
    let long : length (joined_to n g) ≡ n * p = joined_length n p g e in
    ⊎_elim
    (λ (low : v < n).
    (let below : v * p + j < length (joined_to n g) = omega (arith, long, mul-add-lt v p j n low m) in
    get_or_append_left (joined_to n g) (g n) (pos 0) (v * p + j) below ∙ joined_get n p v j g e low m))
    (λ (high : n ≤ v).
    (let is : v ≡ n = omega arith in
    let at : v * p + j ≡ n * p + j = ap (λ u. u * p + j) is in
    let rest : v * p + j - n * p ≡ j = omega (arith, at) in
    get_or-append_right (joined_to n g) (g n) (n * p) (v * p + j) (pos 0) long (omega (arith, at))
    ∙ ap (λ k. get_or (g n) k (pos 0)) rest
    ∙ ap (λ u. get_or (g u) j (pos 0)) (sym is)))
    (cases_lt v n)

-- ---- facts of each element

pub All-left : {X : Type 0} (P : X → Type 0) (xs ys : List X) → All P (xs ++ ys) → All P xs
All-left P xs ys h k d l = subst P (get_or_append_left xs ys d k l) (h k d (omega (arith, l, length-append xs ys)))

pub All-right : {X : Type 0} (P : X → Type 0) (xs ys : List X) → All P (xs ++ ys) → All P ys
All-right P xs ys h k d l =
    let at : length xs + k - length xs ≡ k = omega arith in
    subst P (get_or-append_right xs ys (length xs) (length xs + k) d refl (omega arith) ∙ ap (λ i. get_or ys i d) at) (h (length xs + k) d (omega (arith, l, length-append xs ys)))

pub All-joined : (P : ℤ → Type 0) (n v : ℕ) (g : ℕ → List ℤ) → v < n → All P (joined_to n g) → All P (g v)
All-joined P zero v g l h = absurd (omega arith)
All-joined P (suc n) v g l h =
    ⊎_elim
    (λ (low : v < n). All-joined P n v g low (All-left P (joined_to n g) (g n) h))
    (λ (high : n ≤ v). (let is : n ≡ v = omega arith in subst (λ u. All P (g u)) is (All-right P (joined_to n g) (g n) h)))
    (cases_lt v n)

-- ---- values at points

pub values_same : (ws : List ℕ) (φ ψ : List ℕ → ℤ) → ((p : List ℕ) → IsPoint ws p → φ p ≡ ψ p) → values_at_points ws φ ≡ values_at_points ws ψ
unfolding values_at_points
values_same [] φ ψ e = ap (λ z. z ∷ []) (e [] tt)
values_same (w ∷ ws) φ ψ e = joined_same w _ _ (λ v l. values_same ws (λ p. φ (v ∷ p)) (λ p. ψ (v ∷ p)) (λ p i. e (v ∷ p) (l, i)))

pub length-values : (ws : List ℕ) (φ : List ℕ → ℤ) → length (values_at_points ws φ) ≡ product ws
unfolding values_at_points
length-values [] φ = refl
length-values (w ∷ ws) φ = joined_length w (product ws) _ (λ v. length-values ws (λ p. φ (v ∷ p)))

pub values-get : (ws : List ℕ) (φ : List ℕ → ℤ) (k : ℕ) → k < product ws → get_or (values_at_points ws φ) k (pos 0) ≡ φ (point_at ws k)
unfolding values_at_points
values-get [] φ zero l = refl
values-get [] φ (suc k) l = absurd (omega arith)
values-get (w ∷ ws) φ k l =
    let parts = parts_pos w (product ws) (omega arith) in
    let p : ℕ = product ws in
    let v : ℕ = k / p in
    let j : ℕ = k % p in
    let is : v * p + j ≡ k = omega (arith, div-add-mod' k p) in
    let less : j < p = mod_below k p parts.1 in
    let low : v < w = (div-lt_iff_lt-mul parts.1).1 l in
    let head : v ≡ v % w = sym (mod-eq_of_lt low) in
    let rest : point_at ws j ≡ point_at ws k = sym (point_at-turn ws v j parts.1) ∙ ap (point_at ws) is in
    ap (λ i. get_or (joined_to w (λ u. values_at_points ws (λ q. φ (u ∷ q)))) i (pos 0)) (sym is)
    ∙ joined_get w p v j (λ u. values_at_points ws (λ q. φ (u ∷ q))) (λ u. length-values ws (λ q. φ (u ∷ q))) low less
    ∙ values-get ws (λ q. φ (v ∷ q)) j less
    ∙ ap₂ (λ x y. φ (x ∷ y)) head rest

values_constant : (ws : List ℕ) (z : ℤ) → values_at_points ws (λ p. z) ≡ replicate (product ws) z
unfolding values_at_points
values_constant [] z = refl
values_constant (w ∷ ws) z = joined_same w _ (λ v. replicate (product ws) z) (λ v l. values_constant ws z) ∙ joined_constant w (product ws) z
  where
    joined_constant : (n p : ℕ) (z : ℤ) → joined_to n (λ v. replicate p z) ≡ replicate (n * p) z
    joined_constant zero p z = (let e : 0 * p ≡ 0 = omega arith in ap (λ k. replicate k z) (sym e))
    joined_constant (suc n) p z =
        let e : n * p + p ≡ suc n * p = omega arith in
        ap (λ l. l ++ replicate p z) (joined_constant n p z) ∙ replicate-append-replicate (n * p) p z ∙ ap (λ k. replicate k z) e

-- ---- values over the slots from one on

from_cons : (lo v : ℕ) (p : List ℕ) (t : ℕ) → suc lo ≤ t → point_from lo (v ∷ p) t ≡ point_from (suc lo) p t
from_cons lo v p t l = (let e : t - lo ≡ suc (t - suc lo) = omega arith in ap (λ k. get_or (v ∷ p) k 0) e)

from_head : (lo v : ℕ) (p : List ℕ) → point_from lo (v ∷ p) lo ≡ v
from_head lo v p = (let e : lo - lo ≡ 0 = omega arith in ap (λ k. get_or (v ∷ p) k 0) e)

pub over_constant : (ws : List ℕ) (lo count : ℕ) (ψ : (ℕ → ℕ) → ℤ) (z : ℤ) → ((π : ℕ → ℕ) → ψ π ≡ z) → count ≡ product (drop lo ws) → values_over ws lo ψ ≡ replicate count z
unfolding values_over
over_constant ws lo count ψ z e c = values_same (drop lo ws) _ (λ p. z) (λ p i. e (point_from lo p)) ∙ values_constant (drop lo ws) z ∙ ap (λ k. replicate k z) (sym c)

pub over_branch : (ws : List ℕ) (lo : ℕ) (ψ : (ℕ → ℕ) → ℤ) (parts : ℕ → (ℕ → ℕ) → ℤ) → lo < length ws → ((v : ℕ) → IsFromSlot (suc lo) (parts v)) → ((v : ℕ) (π : ℕ → ℕ) → π lo ≡ v → ψ π ≡ parts v π) → values_over ws lo ψ ≡ joined_to (get_or ws lo 0) (λ v. values_over ws (suc lo) (parts v))
unfolding values_over values_at_points
over_branch ws lo ψ parts l f e =
    ap (λ k. values_at_points k (λ p. ψ (point_from lo p))) (drop-cons ws lo 0 l)
    ∙ joined_same (get_or ws lo 0) _ _ (λ v m.
    values_same (drop (suc lo) ws) _ _ (λ p i.
    e v (point_from lo (v ∷ p)) (from_head lo v p) ∙ f v (point_from lo (v ∷ p)) (point_from (suc lo) p) (λ t k. from_cons lo v p t k)))

pub length-over : (ws : List ℕ) (lo : ℕ) (ψ : (ℕ → ℕ) → ℤ) → length (values_over ws lo ψ) ≡ product (drop lo ws)
unfolding values_over
length-over ws lo ψ = length-values (drop lo ws) _

from_none : (p : List ℕ) (t : ℕ) → point_from 0 p t ≡ get_or p t 0
from_none p t = (let e : t - 0 ≡ t = omega arith in ap (λ k. get_or p k 0) e)

-- the value of each state
pub over-get : (ws : List ℕ) (ψ : (ℕ → ℕ) → ℤ) (k : ℕ) → IsFromSlot 0 ψ → k < product ws → get_or (values_over ws 0 ψ) k (pos 0) ≡ ψ (λ t. get_or (point_at ws k) t 0)
unfolding values_over
over-get ws ψ k f l = values-get ws (λ p. ψ (point_from 0 p)) k l ∙ f _ _ (λ t m. from_none (point_at ws k) t)
