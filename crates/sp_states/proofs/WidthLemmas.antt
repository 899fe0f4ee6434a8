-- How many values states give to slots.
use Rattle.std.proofs.Common.{◌≡◌, ◌≢◌, ℕ, zero, suc, ◌-◌, ◌*◌, ◌%◌, ◌<◌, ◌≤◌, List, [], ◌∷◌, length, get_or, drop, sym, ◌∙◌, ap, ap₂, refl, arith}
use Rattle.std.proofs.lemmas.Nat.{div-add-mod', mod_below}
use Rattle.std.proofs.Math.Nat.{mul-le-mul_right}
use Rattle.std.proofs.Math.Seq.{drop-cons}
use Rattle.sp_dd.specs.Points.{product, IsPoint, AllSizes, ones, state_widths}
use Rattle.sp_dd.specs.Func.{Shape, IsScope, state_count}
use Rattle.sp_dd.proofs.FuncLemmas.{product_pos}
use Rattle.sp_states.specs.States.{widths_of}

ones_at : (ws : List ℕ) (s : ℕ) → s < length ws → get_or (ones ws) s 0 ≡ 1
ones_at [] s l = absurd (omega arith)
ones_at (w ∷ ws) zero l = refl
ones_at (w ∷ ws) (suc s) l = ones_at ws s (omega arith)

two_even : (s : ℕ) → suc (suc s) % 2 ≡ s % 2
two_even s = omega (arith, div-add-mod' (suc (suc s)) 2, mod_below (suc (suc s)) 2 (omega arith), div-add-mod' s 2, mod_below s 2 (omega arith))

pub width_behind : (n s : ℕ) (ws : List ℕ) → 2 * n ≤ length ws → s < length ws → 2 * n ≤ s → get_or (state_widths n ws) s 0 ≡ 1
width_behind zero s ws m l h = ones_at ws s l
width_behind (suc n) s [] m l h = absurd (omega arith)
width_behind (suc n) s (w ∷ []) m l h = absurd (omega arith)
width_behind (suc n) zero (w ∷ v ∷ ws) m l h = absurd (omega arith)
width_behind (suc n) (suc zero) (w ∷ v ∷ ws) m l h = refl
width_behind (suc n) (suc (suc s)) (w ∷ v ∷ ws) m l h = width_behind n s ws (omega arith) (omega arith) (omega arith)

pub width_primed : (n s : ℕ) (ws : List ℕ) → 2 * n ≤ length ws → s < length ws → s % 2 ≡ 1 → get_or (state_widths n ws) s 0 ≡ 1
width_primed zero s ws m l h = ones_at ws s l
width_primed (suc n) s [] m l h = absurd (omega arith)
width_primed (suc n) s (w ∷ []) m l h = absurd (omega arith)
width_primed (suc n) zero (w ∷ v ∷ ws) m l h = absurd (omega (arith, h))
width_primed (suc n) (suc zero) (w ∷ v ∷ ws) m l h = refl
width_primed (suc n) (suc (suc s)) (w ∷ v ∷ ws) m l h = width_primed n s ws (omega arith) (omega arith) (sym (two_even s) ∙ h)

pub width_state : (n s : ℕ) (ws : List ℕ) → 2 * n ≤ length ws → s < 2 * n → s % 2 ≢ 1 → get_or (state_widths n ws) s 0 ≡ get_or ws s 0
width_state zero s ws m l h = absurd (omega arith)
width_state (suc n) s [] m l h = absurd (omega arith)
width_state (suc n) s (w ∷ []) m l h = absurd (omega arith)
width_state (suc n) zero (w ∷ v ∷ ws) m l h = refl
width_state (suc n) (suc zero) (w ∷ v ∷ ws) m l h = absurd (h refl)
width_state (suc n) (suc (suc s)) (w ∷ v ∷ ws) m l h = width_state n s ws (omega arith) (omega arith) (λ e. h (two_even s ∙ e))

length-ones : (ws : List ℕ) → length (ones ws) ≡ length ws
length-ones [] = refl
length-ones (w ∷ ws) = ap suc (length-ones ws)

length-widths : (n : ℕ) (ws : List ℕ) → length (state_widths n ws) ≡ length ws
length-widths zero ws = length-ones ws
length-widths (suc n) [] = refl
length-widths (suc n) (w ∷ []) = refl
length-widths (suc n) (w ∷ v ∷ ws) = ap (λ k. suc (suc k)) (length-widths n ws)

pub as_long : (s : Shape) → length (widths_of s) ≡ length s.sizes
as_long s = length-widths s.variables s.sizes

ones_sizes : (ws : List ℕ) → AllSizes (ones ws)
ones_sizes [] = tt
ones_sizes (w ∷ ws) = (omega arith, omega arith, ones_sizes ws)

all_widths : (n : ℕ) (ws : List ℕ) → AllSizes ws → AllSizes (state_widths n ws)
all_widths zero ws h = ones_sizes ws
all_widths (suc n) [] h = tt
all_widths (suc n) (w ∷ []) h = h
all_widths (suc n) (w ∷ v ∷ ws) h = (h.0, h.1, (omega arith, omega arith, all_widths n ws h.2.2))

pub widths_sizes : (s : Shape) → IsScope s → AllSizes (widths_of s)
widths_sizes s c = all_widths s.variables s.sizes c.each

pub states_some : (s : Shape) → IsScope s → 0 < state_count s
states_some s c = product_pos (widths_of s) (widths_sizes s c)

-- each slot has a width from 1 to 64
pub record IsWidth (w : ℕ) : Type 0 where
  pub some : 0 < w
  pub few : w ≤ 64

size_at : (ws : List ℕ) (i : ℕ) → AllSizes ws → i < length ws → IsWidth (get_or ws i 0)
size_at [] i h l = absurd (omega arith)
size_at (w ∷ ws) zero h l = record { some = h.0; few = h.1 }
size_at (w ∷ ws) (suc i) h l = size_at ws i h.2 (omega arith)

pub width_at : (s : Shape) (i : ℕ) → IsScope s → i < length s.sizes → IsWidth (get_or (widths_of s) i 0)
width_at s i c l = size_at (widths_of s) i (widths_sizes s c) (omega (arith, as_long s))

-- ---- how many states the slots from one on have

pub product_drop : (ws : List ℕ) (i : ℕ) → i < length ws → product (drop i ws) ≡ get_or ws i 0 * product (drop (suc i) ws)
product_drop ws i l = ap product (drop-cons ws i 0 l)

pub product_none : (ws : List ℕ) (i : ℕ) → i ≡ length ws → product (drop i ws) ≡ 1
product_none [] zero e = refl
product_none [] (suc i) e = absurd (omega arith)
product_none (w ∷ ws) zero e = absurd (omega arith)
product_none (w ∷ ws) (suc i) e = product_none ws i (omega arith)

-- they have at most all states
pub product_less : (ws : List ℕ) (i : ℕ) → AllSizes ws → product (drop i ws) ≤ product ws
product_less [] zero h = omega arith
product_less [] (suc i) h = omega arith
product_less (w ∷ ws) zero h = omega arith
product_less (w ∷ ws) (suc i) h =
    let more : 1 * product ws ≤ w * product ws = mul-le-mul_right (product ws) h.0 in
    omega (arith, product_less ws i h.2)

ones_point : (sizes p : List ℕ) → AllSizes sizes → IsPoint (ones sizes) p → IsPoint sizes p
ones_point [] [] h i = tt
ones_point [] (x ∷ p) h i = absurd i
ones_point (w ∷ ws) [] h i = absurd i
ones_point (w ∷ ws) (x ∷ p) h i = (omega (arith, i.0, h.0), ones_point ws p h.2 i.1)

-- a state's point is a point
pub state_point : (n : ℕ) (sizes p : List ℕ) → AllSizes sizes → IsPoint (state_widths n sizes) p → IsPoint sizes p
state_point zero sizes p h i = ones_point sizes p h i
state_point (suc n) [] p h i = i
state_point (suc n) (w ∷ []) p h i = i
state_point (suc n) (w ∷ v ∷ ws) [] h i = absurd i
state_point (suc n) (w ∷ v ∷ ws) (x ∷ []) h i = absurd i.1
state_point (suc n) (w ∷ v ∷ ws) (x ∷ y ∷ p) h i = (i.0, (omega (arith, i.1.0, h.2.0), state_point n ws p h.2.2 i.1.1))

-- ---- a width is at most its slot's size

ones_most : (ws : List ℕ) (i : ℕ) → AllSizes ws → i < length ws → get_or (ones ws) i 0 ≤ get_or ws i 0
ones_most [] i h l = absurd (omega arith)
ones_most (w ∷ ws) zero h l = h.0
ones_most (w ∷ ws) (suc i) h l = ones_most ws i h.2 (omega arith)

widths_most : (n : ℕ) (ws : List ℕ) (i : ℕ) → AllSizes ws → i < length ws → get_or (state_widths n ws) i 0 ≤ get_or ws i 0
widths_most zero ws i h l = ones_most ws i h l
widths_most (suc n) [] i h l = absurd (omega arith)
widths_most (suc n) (w ∷ []) i h l = omega arith
widths_most (suc n) (w ∷ v ∷ ws) zero h l = omega arith
widths_most (suc n) (w ∷ v ∷ ws) (suc zero) h l = h.2.0
widths_most (suc n) (w ∷ v ∷ ws) (suc (suc i)) h l = widths_most n ws i h.2.2 (omega arith)

pub width_most : (s : Shape) (i : ℕ) → IsScope s → i < length s.sizes → get_or (widths_of s) i 0 ≤ get_or s.sizes i 0
width_most s i c l = widths_most s.variables s.sizes i c.each l

-- ---- the count of states, slot by slot from the last one

pub product_back : (ws : List ℕ) (slot count width : ℕ) → 0 < slot → slot ≤ length ws → count ≡ product (drop slot ws) → width ≡ get_or ws (slot - 1) 0 → count * width ≡ product (drop (slot - 1) ws)
product_back ws slot count width some l c w =
    let up : suc (slot - 1) ≡ slot = omega arith in
    let turn : count * width ≡ width * count = omega arith in
    turn ∙ ap₂ (λ x y. x * y) w (c ∙ ap (λ i. product (drop i ws)) (sym up)) ∙ sym (product_drop ws (slot - 1) (omega arith))

-- the slots from one on have a state
pub product_some : (ws : List ℕ) (i : ℕ) → AllSizes ws → 0 < product (drop i ws)
product_some ws zero h = product_pos ws h
product_some [] (suc i) h = omega arith
product_some (w ∷ ws) (suc i) h = product_some ws i h.2
