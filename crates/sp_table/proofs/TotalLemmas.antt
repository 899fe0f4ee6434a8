use Rattle.std.proofs.Common.{◌≡◌, ℕ, zero, suc, ◌<◌, ◌≤◌, ◌+◌, ◌*◌, ◌/◌, ◌%◌, ◌^◌, inl, inr, refl, sym, ◌∙◌, ap, arith, List, [], ◌∷◌, ◌++◌, length, take, get_or, subst, ◌-◌}
use Rattle.std.specs.Prelude.{ℤ, pos, ◌≤ℤ◌, unsigned_abs, ◌≢◌}
use Rattle.std.proofs.lemmas.Int.{ints}
use Rattle.std.proofs.lemmas.Nat.{mul-le, div-add-mod', mod_below}
use Rattle.std.proofs.lemmas.List.{take_more}
use Rattle.sp_dd.specs.Floors.{sum_to}
use Rattle.sp_dd.specs.Points.{product, state_widths, ones, point_at}
use Rattle.sp_dd.specs.Func.{Func, Shape, IsScope, value_of, Everywhere, state_count, state_at}
use Rattle.sp_table.proofs.FrameLemmas.{point_within}
use Rattle.sp_table.specs.Widths.{AreWidthsOf, AreWidths}

-- a sum of numbers that aren't negative, and its parts
pub total-pos : (n : ℕ) (w : ℕ → ℤ) → ((k : ℕ) → pos 0 ≤ℤ w k) → pos 0 ≤ℤ sum_to n w
total-pos zero w h = omega (arith, ints)
total-pos (suc n) w h = omega (arith, ints, total-pos n w h, h n)

pub total-part : (more k : ℕ) (w : ℕ → ℤ) → ((k : ℕ) → pos 0 ≤ℤ w k) → sum_to k w ≤ℤ sum_to (more + k) w
total-part zero k w h = let e : 0 + k ≡ k = omega arith in let same = ap (λ n. sum_to n w) e in omega (arith, ints, same)
total-part (suc more) k w h =
    let e : suc more + k ≡ suc (more + k) = omega arith in
    let same = ap (λ n. sum_to n w) e in
    omega (arith, ints, same, total-part more k w h, h (more + k))

-- parts of a small total are small
pub part_small : (n k : ℕ) (w : ℕ → ℤ) (most : ℕ) → ((k : ℕ) → pos 0 ≤ℤ w k) → k ≤ n → sum_to n w ≤ℤ pos most → unsigned_abs (sum_to k w) ≤ most
part_small n k w most h less total =
    let e : (n - k) + k ≡ n = omega arith in
    let same = ap (λ m. sum_to m w) e in
    omega (arith, ints, total-pos k w h, total-part (n - k) k w h, same, total)

-- so is each term
pub term_small : (n k : ℕ) (w : ℕ → ℤ) (most : ℕ) → ((k : ℕ) → pos 0 ≤ℤ w k) → k < n → sum_to n w ≤ℤ pos most → unsigned_abs (w k) ≤ most
term_small n k w most h less total =
    let next : unsigned_abs (sum_to (suc k) w) ≤ most = part_small n (suc k) w most h (omega arith) total in
    omega (arith, ints, total-pos k w h, h k, next)

-- one more term of such a sum
pub total-more : (k : ℕ) (w : ℕ → ℤ) → ((k : ℕ) → pos 0 ≤ℤ w k) → unsigned_abs (sum_to (k + 1) w) ≡ unsigned_abs (sum_to k w) + unsigned_abs (w k)
total-more k w h =
    let e : k + 1 ≡ suc k = omega arith in
    let same = ap (λ m. sum_to m w) e in
    omega (arith, ints, total-pos k w h, h k, same)

-- one more product keeps the bound of a sum of products
pub product-more : (new old product weight value : ℤ) (s t : ℕ) → unsigned_abs new ≤ unsigned_abs old + unsigned_abs product → unsigned_abs product ≤ unsigned_abs weight * unsigned_abs value → unsigned_abs value ≤ 2 ^ 62 → unsigned_abs old ≤ s * 2 ^ 62 → t ≡ s + unsigned_abs weight → unsigned_abs new ≤ t * 2 ^ 62
product-more new old product weight value s t a b c d e =
    let most : unsigned_abs weight * unsigned_abs value ≤ unsigned_abs weight * 2 ^ 62 = mul-le _ _ _ _ (omega arith) c in
    omega (arith, a, b, most, d, e)

-- the widths of a state's slots, one by one
pub length-ones : (ws : List ℕ) → length (ones ws) ≡ length ws
length-ones [] = refl
length-ones (w ∷ ws) = ap suc (length-ones ws)

pub length-state_widths : (n : ℕ) (ws : List ℕ) → length (state_widths n ws) ≡ length ws
length-state_widths zero ws = length-ones ws
length-state_widths (suc n) [] = refl
length-state_widths (suc n) (w ∷ []) = refl
length-state_widths (suc n) (w ∷ v ∷ ws) = ap (λ k. suc (suc k)) (length-state_widths n ws)

one_each : (ws : List ℕ) (i : ℕ) → i < length ws → get_or (ones ws) i 0 ≡ 1
one_each [] i h = absurd (omega arith)
one_each (w ∷ ws) zero h = refl
one_each (w ∷ ws) (suc i) h = one_each ws i (omega arith)

pub width_unprimed : (n i : ℕ) (ws : List ℕ) → i < n → get_or (state_widths n ws) (2 * i) 0 ≡ get_or ws (2 * i) 0
width_unprimed zero i ws h = absurd (omega arith)
width_unprimed (suc n) i [] h = refl
width_unprimed (suc n) i (w ∷ []) h = refl
width_unprimed (suc n) zero (w ∷ v ∷ ws) h = refl
width_unprimed (suc n) (suc i) (w ∷ v ∷ ws) h =
    let twice : 2 * suc i ≡ suc (suc (2 * i)) = omega arith in
    ap (λ j. get_or (w ∷ 1 ∷ state_widths n ws) j 0) twice ∙ width_unprimed n i ws (omega arith) ∙ sym (ap (λ j. get_or (w ∷ v ∷ ws) j 0) twice)

pub width_primed : (n i : ℕ) (ws : List ℕ) → i < n → 2 * n ≤ length ws → get_or (state_widths n ws) (2 * i + 1) 0 ≡ 1
width_primed zero i ws h l = absurd (omega arith)
width_primed (suc n) i [] h l = absurd (omega arith)
width_primed (suc n) i (w ∷ []) h l = absurd (omega arith)
width_primed (suc n) zero (w ∷ v ∷ ws) h l = refl
width_primed (suc n) (suc i) (w ∷ v ∷ ws) h l =
    let twice : 2 * suc i + 1 ≡ suc (suc (2 * i + 1)) = omega arith in
    ap (λ j. get_or (w ∷ 1 ∷ state_widths n ws) j 0) twice ∙ width_primed n i ws (omega arith) (omega arith)

pub width_other : (n j : ℕ) (ws : List ℕ) → 2 * n ≤ j → j < length ws → get_or (state_widths n ws) j 0 ≡ 1
width_other zero j ws h l = one_each ws j l
width_other (suc n) j [] h l = absurd (omega arith)
width_other (suc n) j (w ∷ []) h l = absurd (omega arith)
width_other (suc n) zero (w ∷ v ∷ ws) h l = absurd (omega arith)
width_other (suc n) (suc zero) (w ∷ v ∷ ws) h l = absurd (omega arith)
width_other (suc n) (suc (suc j)) (w ∷ v ∷ ws) h l = width_other n j ws (omega arith) (omega arith)

-- a slot that isn't an unprimed state slot has width 1
pub width_past : (n slot : ℕ) (ws : List ℕ) → slot < length ws → n ≤ slot / 2 → get_or (state_widths n ws) slot 0 ≡ 1
width_past n slot ws within h = width_other n slot ws (omega (arith, div-add-mod' slot 2, h)) within

pub width_odd : (n slot : ℕ) (ws : List ℕ) → 2 * n ≤ length ws → slot / 2 < n → slot % 2 ≡ 1 → get_or (state_widths n ws) slot 0 ≡ 1
width_odd n slot ws paired less odd =
    let is : 2 * (slot / 2) + 1 ≡ slot = omega (arith, div-add-mod' slot 2, odd) in
    sym (ap (λ j. get_or (state_widths n ws) j 0) is) ∙ width_primed n (slot / 2) ws less paired

pub width_size : (n slot : ℕ) (ws : List ℕ) → slot / 2 < n → slot % 2 ≢ 1 → get_or (state_widths n ws) slot 0 ≡ get_or ws slot 0
width_size n slot ws less even =
    let is : 2 * (slot / 2) ≡ slot = omega (arith, div-add-mod' slot 2, mod_below slot 2 (omega arith), even) in
    sym (ap (λ j. get_or (state_widths n ws) j 0) is) ∙ width_unprimed n (slot / 2) ws less ∙ ap (λ j. get_or ws j 0) is

-- one more width
pub width_more : (ws old new : List ℕ) (i w : ℕ) → i < length ws → old ≡ take i ws → new ≡ old ++ w ∷ [] → w ≡ get_or ws i 0 → new ≡ take (i + 1) ws
width_more ws old new i w less before after is = after ∙ ap (λ l. l ++ w ∷ []) before ∙ ap (λ v. take i ws ++ v ∷ []) is ∙ sym (take_more ws i 0 less)

-- the widths of a state's slots are widths of the scope
Mentions-ones-of : (ws : List ℕ) → AreWidthsOf (ones ws) ws
Mentions-ones-of [] = tt
Mentions-ones-of (w ∷ ws) = (inl refl, Mentions-ones-of ws)

pub Mentions-state_widths : (n : ℕ) (ws : List ℕ) → AreWidthsOf (state_widths n ws) ws
Mentions-state_widths zero ws = Mentions-ones-of ws
Mentions-state_widths (suc n) [] = tt
Mentions-state_widths (suc n) (w ∷ []) = (inr refl, tt)
Mentions-state_widths (suc n) (w ∷ v ∷ ws) = (inr refl, (inl refl, Mentions-state_widths n ws))

pub state_frame : (s : Shape) (us to : List ℕ) (n : ℕ) → IsScope s → us ≡ state_widths s.variables s.sizes → to ≡ us → n ≡ product to → n < 2 ^ 63 → AreWidths s to
state_frame s us to n h e d n_is fits =
    let P : List ℕ → Type 0 = λ l. AreWidths s l in
    subst P (sym (d ∙ e)) (record { scope = h; mentions = Mentions-state_widths s.variables s.sizes; fits = omega (arith, fits, n_is, ap product (d ∙ e)) })

-- the weight of a state
pub weights_at : (w : Func) (us : List ℕ) → AreWidths w.shape us → Everywhere w (λ v. pos 0 ≤ℤ v) → (k : ℕ) → pos 0 ≤ℤ value_of w (point_at us k)
weights_at w us h positive k = positive _ (point_within w.shape us k h.scope h.mentions)

pub weight_small : (w : Func) (us : List ℕ) (k n : ℕ) (v : ℤ) → AreWidths w.shape us → Everywhere w (λ v. pos 0 ≤ℤ v) → sum_to n (λ k. value_of w (point_at us k)) ≤ℤ pos (2 ^ 62) → k < n → v ≡ value_of w (point_at us k) → unsigned_abs v ≤ 2 ^ 62
weight_small w us k n v h positive total less e =
    let P : ℤ → Type 0 = λ z. unsigned_abs z ≤ 2 ^ 62 in
    subst P (sym e) (term_small n k (λ k. value_of w (point_at us k)) (2 ^ 62) (weights_at w us h positive) less total)

-- a sum at each point of a state's slots is the sum over all states
pub state_sum : (g : List ℕ → ℤ) (s : Shape) (us to : List ℕ) (n : ℕ) → to ≡ us → us ≡ state_widths s.variables s.sizes → n ≡ product to → sum_to n (λ k. g (point_at to k)) ≡ sum_to (state_count s) (λ k. g (state_at s k))
state_sum g s us to n d e n_is = ap (λ m. sum_to m (λ k. g (point_at to k))) n_is ∙ ap (λ l. sum_to (product l) (λ k. g (point_at l k))) (d ∙ e)
