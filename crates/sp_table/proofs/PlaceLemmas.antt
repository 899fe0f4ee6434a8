use Rattle.std.proofs.lemmas.Nat.{div-mul-add}
use Rattle.std.proofs.Math.Nat.{mod-eq_of_lt}
use Rattle.sp_dd.proofs.PointLemmas.{point_at-turn}
use Rattle.sp_dd.specs.Points.{IsPoint}
use Rattle.sp_table.specs.Widths.{AreWidthsOf}
use Rattle.std.proofs.Common.{◌≡◌, ℕ, zero, suc, ◌<◌, ◌≤◌, ◌+◌, ◌*◌, ◌/◌, ◌%◌, sym, ◌∙◌, ap, arith, List, [], ◌∷◌, length, drop, get_or, refl, ◌⊎◌, inl, inr, mul_comm, add_comm, add-one, ◌≢◌, slice_set, get_or-set_same, get_or-set_other, Fits, w64, ◌^◌}
use Rattle.std.proofs.lemmas.Bool.{cases_eq}
use Rattle.std.proofs.lemmas.List.{drop_more}
use Rattle.std.proofs.lemmas.Nat.{mul-add-lt, mod_below}
use Rattle.std.proofs.Math.Nat.{mul-le-mul_right, div-div-eq-div-mul}
use Rattle.sp_dd.specs.Points.{product, place, point_at}
use Rattle.sp_dd.proofs.PointLemmas.{parts_pos, place-below}

-- the product of the last widths is above 0 and at most that of all
pub product-drop : (ws : List ℕ) (i : ℕ) → 0 < product ws → (0 < product (drop i ws)) × (product (drop i ws) ≤ product ws)
product-drop ws zero h = (h, omega arith)
product-drop [] (suc i) h = (h, omega arith)
product-drop (w ∷ ws) (suc i) h =
    let parts = parts_pos w (product ws) h in
    let rest = product-drop ws i parts.1 in
    let times : 1 * product ws ≤ w * product ws = mul-le-mul_right (product ws) parts.0 in
    (rest.0, omega arith)

-- the product from a width on
pub product-step : (ws : List ℕ) (i : ℕ) → i < length ws → product (drop i ws) ≡ get_or ws i 0 * product (drop (i + 1) ws)
product-step ws i h = ap product (drop_more ws i 0 h)

-- one width before the i-th: it is above 0, and its product with the stride is at most that of all
pub width_before : (ws : List ℕ) (i j : ℕ) → i ≡ j + 1 → j < length ws → 0 < product ws → (0 < get_or ws j 0) × (get_or ws j 0 * product (drop i ws) ≤ product ws) × (0 < product (drop i ws))
width_before ws i j e within h =
    let whole = product-drop ws j h in
    let step : product (drop j ws) ≡ get_or ws j 0 * product (drop i ws) = product-step ws j within ∙ ap (λ n. get_or ws j 0 * product (drop n ws)) (sym e) in
    let parts = parts_pos (get_or ws j 0) (product (drop i ws)) (omega arith) in
    (parts.0, omega arith, parts.1)

-- a coordinate's part of a place fits, alone and with the parts behind it
pub part_fits : (x w s p at b m : ℕ) → s ≡ p → at ≡ b → 0 < w → b < p → w * p ≤ m → m < 2 ^ 63 → Fits w64 (x % w * s) × Fits w64 (at + x % w * s)
part_fits x w s p at b m e d some less most fits =
    let all = mul-add-lt (x % w) p b w (mod_below x w some) less in
    let part = ap (λ n. x % w * n) e in
    (omega (arith, all, part), omega (arith, all, part))

-- so does the stride times the width
pub stride_fits : (w s p m : ℕ) → s ≡ p → w * p ≤ m → m < 2 ^ 63 → Fits w64 (s * w)
stride_fits w s p m e most fits = let part = ap (λ n. n * w) e in omega (arith, part)

-- one step of a walk from the last width to the first
pub place_back : (ws fs : List ℕ) (k i j at rest stride : ℕ) → i ≡ j + 1 → j < length ws → length ws ≡ length fs → at ≡ place (drop i ws) (point_at (drop i fs) k) → rest ≡ k / product (drop i fs) → stride ≡ product (drop i ws) → (at + rest % get_or fs j 0 % get_or ws j 0 * stride ≡ place (drop j ws) (point_at (drop j fs) k)) × (rest / get_or fs j 0 ≡ k / product (drop j fs)) × (stride * get_or ws j 0 ≡ product (drop j ws))
place_back ws fs k i j at rest stride e within same at_is rest_is stride_is =
    let ours = drop_more ws j 0 within in
    let theirs = drop_more fs j 0 (omega arith) in
    let place_is : place (drop j ws) (point_at (drop j fs) k) ≡ k / product (drop (j + 1) fs) % get_or fs j 0 % get_or ws j 0 * product (drop (j + 1) ws) + place (drop (j + 1) ws) (point_at (drop (j + 1) fs) k) = rw (ours, theirs) in
    let divides : k / product (drop j fs) ≡ k / (get_or fs j 0 * product (drop (j + 1) fs)) = ap (λ l. k / product l) theirs in
    let spread : product (drop j ws) ≡ get_or ws j 0 * product (drop (j + 1) ws) = ap product ours in
    let turned = ap (λ n. k / n) (mul_comm (get_or fs j 0) (product (drop (j + 1) fs))) in (
      rw (at_is, rest_is, stride_is, e, place_is) (add_comm _ _),
      rw (rest_is, e, divides, turned) (div-div-eq-div-mul k _ _),
      rw (stride_is, e, spread) (mul_comm _ _),
    )

-- as many widths as sizes
pub Mentions-length : (ws ss : List ℕ) → AreWidthsOf ws ss → length ws ≡ length ss
Mentions-length [] [] m = refl
Mentions-length [] (s ∷ ss) m = absurd m
Mentions-length (w ∷ ws) [] m = absurd m
Mentions-length (w ∷ ws) (s ∷ ss) m = ap suc (Mentions-length ws ss m.1)

-- as many coordinates as sizes
pub IsPoint-length : (ws xs : List ℕ) → IsPoint ws xs → length ws ≡ length xs
IsPoint-length [] [] p = refl
IsPoint-length [] (x ∷ xs) p = absurd p
IsPoint-length (w ∷ ws) [] p = absurd p
IsPoint-length (w ∷ ws) (x ∷ xs) p = ap suc (IsPoint-length ws xs p.1)

width_pos : (w s : ℕ) → w ≡ 1 ⊎ w ≡ s → 0 < s → 0 < w
width_pos w s (inl e) h = omega arith
width_pos w s (inr e) h = omega arith

-- a table has a cell
pub Mentions-pos : (ws ss : List ℕ) → AreWidthsOf ws ss → 0 < product ss → 0 < product ws
Mentions-pos [] [] m h = h
Mentions-pos [] (s ∷ ss) m h = absurd m
Mentions-pos (w ∷ ws) [] m h = absurd m
Mentions-pos (w ∷ ws) (s ∷ ss) m h =
    let parts = parts_pos s (product ss) h in
    let head = width_pos w s m.0 parts.0 in
    let rest = Mentions-pos ws ss m.1 parts.1 in
    let times : 1 * product ws ≤ w * product ws = mul-le-mul_right (product ws) head in
    omega arith

-- a coordinate below a width is below the size
coordinate_within : (w s x : ℕ) → w ≡ 1 ⊎ w ≡ s → 0 < s → x < w → x < s
coordinate_within w s x (inl e) h b = omega arith
coordinate_within w s x (inr e) h b = omega arith

pub IsPoint-within : (ws ss xs : List ℕ) → AreWidthsOf ws ss → 0 < product ss → IsPoint ws xs → IsPoint ss xs
IsPoint-within [] [] [] m h p = tt
IsPoint-within [] [] (x ∷ xs) m h p = absurd p
IsPoint-within [] (s ∷ ss) xs m h p = absurd m
IsPoint-within (w ∷ ws) [] xs m h p = absurd m
IsPoint-within (w ∷ ws) (s ∷ ss) [] m h p = absurd p
IsPoint-within (w ∷ ws) (s ∷ ss) (x ∷ xs) m h p =
    let parts = parts_pos s (product ss) h in
    (coordinate_within w s x m.0 parts.0 p.0, IsPoint-within ws ss xs m.1 parts.1 p.1)

-- a coordinate modulo a width that is kept
coordinate_kept : (f w x : ℕ) → f ≡ 1 ⊎ f ≡ w → 0 < w → x % w % f ≡ x % f
coordinate_kept f w x (inl e) h = rw (e) (omega (arith, mod_below (x % w) 1 (omega arith), mod_below x 1 (omega arith)))
coordinate_kept f w x (inr e) h = rw (e) (mod-eq_of_lt (mod_below x w h))

-- the place among fewer slots is that of the point that the other place names
pub place-kept : (fs ws xs : List ℕ) → AreWidthsOf fs ws → 0 < product ws → length ws ≡ length xs → place fs (point_at ws (place ws xs)) ≡ place fs xs
place-kept [] [] xs m h e = refl
place-kept [] (w ∷ ws) xs m h e = absurd m
place-kept (f ∷ fs) [] xs m h e = absurd m
place-kept (f ∷ fs) (w ∷ ws) [] m h e = absurd (omega arith)
place-kept (f ∷ fs) (w ∷ ws) (x ∷ xs) m h e =
    let parts = parts_pos w (product ws) h in
    let less = place-below ws xs parts.1 in
    let head : (x % w * product ws + place ws xs) / product ws % w ≡ x % w = ap (λ n. n % w) (div-mul-add (x % w) (product ws) (place ws xs) less) ∙ mod-eq_of_lt (mod_below x w parts.0) in
    let rest : place fs (point_at ws (x % w * product ws + place ws xs)) ≡ place fs xs = ap (place fs) (point_at-turn ws (x % w) (place ws xs) parts.1) ∙ place-kept fs ws xs m.1 parts.1 (omega arith) in
    rw (head, rest, coordinate_kept f w x m.0 parts.0)

-- the digits of the last slots
pub drop-point_at : (fs : List ℕ) (j k : ℕ) → drop j (point_at fs k) ≡ point_at (drop j fs) k
drop-point_at fs zero k = refl
drop-point_at [] (suc j) k = refl
drop-point_at (f ∷ fs) (suc j) k = drop-point_at fs j k

pub length-point_at : (fs : List ℕ) (k : ℕ) → length (point_at fs k) ≡ length fs
length-point_at [] k = refl
length-point_at (f ∷ fs) k = ap suc (length-point_at fs k)

pub get_or-point_at : (fs : List ℕ) (j k : ℕ) → j < length fs → get_or (point_at fs k) j 0 ≡ k / product (drop (j + 1) fs) % get_or fs j 0
get_or-point_at [] j k h = absurd (omega arith)
get_or-point_at (f ∷ fs) zero k h = refl
get_or-point_at (f ∷ fs) (suc j) k h = rw (add-one) (get_or-point_at fs j k (omega arith) ∙ rw (add-one) refl)

-- one step of a walk over the coordinates of a point
pub point_back : (ws xs : List ℕ) (i j at d stride : ℕ) → i ≡ j + 1 → j < length ws → length ws ≡ length xs → d ≡ get_or xs j 0 → at ≡ place (drop i ws) (drop i xs) → stride ≡ product (drop i ws) → at + d % get_or ws j 0 * stride ≡ place (drop j ws) (drop j xs)
point_back ws xs i j at d stride e within same d_is at_is stride_is =
    let ours = drop_more ws j 0 within in
    let theirs = drop_more xs j 0 (omega arith) in
    rw (at_is, stride_is, e, d_is, ours, theirs) (add_comm _ _)

-- the digit with another value in one slot
pub digit_set : (fs : List ℕ) (i j k s v rest d : ℕ) → i ≡ j + 1 → j < length fs → rest ≡ k / product (drop i fs) → (j ≡ s → d ≡ v) → (j ≢ s → d ≡ rest % get_or fs j 0) → d ≡ get_or (slice_set (point_at fs k) s v) j 0
digit_set fs i j k s v rest d e within rest_is same other =
    elim (cases_eq j s) [
      | inl here ↦
          let long : s < length (point_at fs k) = omega (arith, length-point_at fs k) in
          same here ∙ sym (get_or-set_same (point_at fs k) s v 0 long) ∙ ap (λ n. get_or (slice_set (point_at fs k) s v) n 0) (sym here)
      | inr there ↦
          let digit = get_or-point_at fs j k within in
          let turned : rest % get_or fs j 0 ≡ get_or (point_at fs k) j 0 = rw (rest_is, e) (sym digit) in
          other there ∙ turned ∙ sym (get_or-set_other (point_at fs k) s j v 0 there)
    ]

-- each width but one slot's is 1 or the other
abbrev pub MentionsBut : ℕ → List ℕ → List ℕ → Type 0
MentionsBut s [] [] = Unit {0}
MentionsBut s [] (u ∷ us) = ⊥
MentionsBut s (f ∷ fs) [] = ⊥
MentionsBut zero (f ∷ fs) (u ∷ us) = AreWidthsOf fs us
MentionsBut (suc s) (f ∷ fs) (u ∷ us) = (f ≡ 1 ⊎ f ≡ u) × MentionsBut s fs us

pub MentionsBut-set : (fs us : List ℕ) (s v : ℕ) → AreWidthsOf fs us → MentionsBut s fs (slice_set us s v)
MentionsBut-set [] [] s v m = tt
MentionsBut-set [] (u ∷ us) s v m = absurd m
MentionsBut-set (f ∷ fs) [] s v m = absurd m
MentionsBut-set (f ∷ fs) (u ∷ us) zero v m = m.1
MentionsBut-set (f ∷ fs) (u ∷ us) (suc s) v m = (m.0, MentionsBut-set fs us s v m.1)

-- a slot that isn't mentioned any more
pub Mentions-set : (us ss : List ℕ) (s : ℕ) → AreWidthsOf us ss → AreWidthsOf (slice_set us s 1) ss
Mentions-set [] [] s m = tt
Mentions-set [] (t ∷ ss) s m = absurd m
Mentions-set (u ∷ us) [] s m = absurd m
Mentions-set (u ∷ us) (t ∷ ss) zero m = (inl refl, m.1)
Mentions-set (u ∷ us) (t ∷ ss) (suc s) m = (m.0, Mentions-set us ss s m.1)

-- the place among fewer slots, with another value in one slot
pub place-kept_but : (fs us xs : List ℕ) (s v : ℕ) → MentionsBut s fs us → 0 < product us → length us ≡ length xs → place fs (slice_set (point_at us (place us xs)) s v) ≡ place fs (slice_set xs s v)
place-kept_but [] us xs s v m h e = refl
place-kept_but (f ∷ fs) [] xs s v m h e = absurd m
place-kept_but (f ∷ fs) (w ∷ ws) [] s v m h e = absurd (omega arith)
place-kept_but (f ∷ fs) (w ∷ ws) (x ∷ xs) zero v m h e =
    let parts = parts_pos w (product ws) h in
    let rest : place fs (point_at ws (x % w * product ws + place ws xs)) ≡ place fs xs = ap (place fs) (point_at-turn ws (x % w) (place ws xs) parts.1) ∙ place-kept fs ws xs m parts.1 (omega arith) in
    rw (rest)
place-kept_but (f ∷ fs) (w ∷ ws) (x ∷ xs) (suc s) v m h e =
    let parts = parts_pos w (product ws) h in
    let less = place-below ws xs parts.1 in
    let head : (x % w * product ws + place ws xs) / product ws % w ≡ x % w = ap (λ n. n % w) (div-mul-add (x % w) (product ws) (place ws xs) less) ∙ mod-eq_of_lt (mod_below x w parts.0) in
    let rest : place fs (slice_set (point_at ws (x % w * product ws + place ws xs)) s v) ≡ place fs (slice_set xs s v) = ap (λ ys. place fs (slice_set ys s v)) (point_at-turn ws (x % w) (place ws xs) parts.1) ∙ place-kept_but fs ws xs s v m.1 parts.1 (omega arith) in
    rw (head, rest, coordinate_kept f w x m.0 parts.0)

-- widths mention themselves
pub Mentions-refl : (ws : List ℕ) → AreWidthsOf ws ws
Mentions-refl [] = tt
Mentions-refl (w ∷ ws) = (inr refl, Mentions-refl ws)
