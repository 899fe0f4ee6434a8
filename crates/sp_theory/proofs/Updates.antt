-- The belief update against the exact one.
use Rattle.std.proofs.Common.{◌≡◌, ℕ, zero, suc, ◌+◌, ◌*◌, ◌^◌, ◌<◌, ◌≤◌, List, [], ◌∷◌, length, get_or, take, map, refl, sym, ap, ◌∙◌, arith, add-one, subst}
use Rattle.std.specs.Prelude.{ℤ, pos, negsuc, ◌+ℤ◌, ◌≤ℤ◌, unsigned_abs}
use Rattle.std.specs.List.{range_with_len}
use Rattle.std.proofs.lemmas.Int.{ints}
use Rattle.std.proofs.lemmas.List.FromFn.{length-map-range_with_len}
use Rattle.std.proofs.Math.Nat.{mul-le-mul_right, mul-le-mul_left}
use Rattle.std.proofs.lemmas.Nat.{pow-add}
use Rattle.sp_theory.specs.Sums.{times, sum_below}
use Rattle.sp_theory.specs.Points.{IsPoint, count_of, sum_over}
use Rattle.sp_theory.specs.Draws.{q, Draws, after, AreProbabilitiesWhole, chance, thinned}
use Rattle.sp_theory.specs.Model.{Model, State, IsLawful}
use Rattle.sp_theory.specs.Values.{Weights}
use Rattle.sp_theory.specs.Beliefs.{Transfer, table_of, tables_of, summed_out, all_summed_out, moved, first_state, unscaled_next, exact_next}
use Rattle.sp_theory.specs.BeliefLaws.{UpdateIsClose}
use Rattle.sp_theory.proofs.Whole.{times-add, times-times, times-zero, times_mono, floor_most, ≤ℤ_trans}
use Rattle.sp_theory.proofs.Weighing.{q_pos, le_same, times-swap, sum_over_same}
use Rattle.sp_theory.proofs.Numbers.{number-below}
use Rattle.sp_theory.proofs.Backups.{sum_below-sum_over, chance_part, chance_most, thinned_low, thinned_high, length-point}
use Rattle.sp_theory.proofs.Carried.{count_among, Every, product, exactly_carried, AreChances, exactly_is, carried_low, carried_high, carried_from_zero}

-- ---- all variables
range-map : (a n : ℕ) → range_with_len (suc a) n ≡ map suc (range_with_len a n)
range-map a zero = refl
range-map a (suc n) = ap (λ (is : List ℕ). suc a ∷ is) (ap (λ (b : ℕ). range_with_len b n) (add-one (suc a)) ∙ range-map (suc a) n ∙ ap (λ (b : ℕ). map suc (range_with_len b n)) (sym (add-one a)))

range_from_one : (n : ℕ) → range_with_len (0 + 1) n ≡ map suc (range_with_len 0 n)
range_from_one n = range-map 0 n

-- the variables behind the first
all-behind : (size : ℕ) (sizes is : List ℕ) (f : Transfer) (x : ℕ) (s t : State) → all_summed_out (size ∷ sizes) (map suc is) f (x ∷ s) t ≡ all_summed_out sizes is (λ s t. f (x ∷ s) t) s t
unfolding all_summed_out
all-behind size sizes [] f x s t = refl
all-behind size sizes (i ∷ is) f x s t = all-behind size sizes is (summed_out (size ∷ sizes) (suc i) f) x s t

-- all variables summed out is a sum over all states
pub all-over : (sizes : List ℕ) (f : Transfer) (s t : State) → length s ≡ length sizes → all_summed_out sizes (range_with_len 0 (length sizes)) f s t ≡ sum_over sizes (λ s. f s t)
unfolding all_summed_out sum_over
all-over [] f [] t same = refl
all-over (size ∷ sizes) f (x ∷ s) t same =
    ap (λ (is : List ℕ). all_summed_out (size ∷ sizes) is (summed_out (size ∷ sizes) 0 f) (x ∷ s) t) (range_from_one (length sizes))
    ∙ all-behind size sizes (range_with_len 0 (length sizes)) (summed_out (size ∷ sizes) 0 f) x s t
    ∙ all-over sizes (λ s t. sum_below size (λ y. f (y ∷ s) t)) s t (omega arith)
    ∙ sym (sum_below-sum_over size sizes (λ y s. f (y ∷ s) t))
all-over [] f (x ∷ s) t same = absurd (omega arith)
all-over (size ∷ sizes) f [] t same = absurd (omega arith)

count-behind : (size : ℕ) (sizes is : List ℕ) → count_among (size ∷ sizes) (map suc is) ≡ count_among sizes is
count-behind size sizes [] = refl
count-behind size sizes (i ∷ is) = ap (λ (n : ℕ). get_or sizes i 0 * n) (count-behind size sizes is)

pub count-over : (sizes : List ℕ) → count_among sizes (range_with_len 0 (length sizes)) ≡ count_of sizes
count-over [] = refl
count-over (size ∷ sizes) = ap (λ (is : List ℕ). size * count_among (size ∷ sizes) is) (range_from_one (length sizes)) ∙ ap (λ (n : ℕ). size * n) (count-behind size sizes (range_with_len 0 (length sizes)) ∙ count-over sizes)

-- ---- the tables of an action
-- the product of the probabilities of some values of a point
abbrev among : Draws → List ℕ → List ℕ → ℕ
among draws next [] = 1
among draws next (i ∷ is) = draws (take i next) (get_or next i 0) * among draws next is

among-behind : (draws : Draws) (x : ℕ) (next is : List ℕ) → among draws (x ∷ next) (map suc is) ≡ among (after x draws) next is
among-behind draws x next [] = refl
among-behind draws x next (i ∷ is) = ap (λ (n : ℕ). draws (x ∷ take i next) (get_or next i 0) * n) (among-behind draws x next is)

among-over : (draws : Draws) (next : List ℕ) → among draws next (range_with_len 0 (length next)) ≡ chance draws next
unfolding chance
among-over draws [] = refl
among-over draws (x ∷ next) = ap (λ (is : List ℕ). draws [] x * among draws (x ∷ next) is) (range_from_one (length next)) ∙ ap (λ (n : ℕ). draws [] x * n) (among-behind draws x next (range_with_len 0 (length next)) ∙ among-over (after x draws) next)

product-among : (m : Model) (a : ℕ) (is : List ℕ) (s next : State) → product (map (table_of m a) is) s next ≡ among (m.moves a s) next is
product-among m a [] s next = refl
product-among m a (i ∷ is) s next = ap (λ (n : ℕ). table_of m a i s next * n) (product-among m a is s next)

pub product-chance : (m : Model) (a : ℕ) (s next : State) → length next ≡ length m.sizes → product (tables_of m a) s next ≡ chance (m.moves a s) next
product-chance m a s next same = product-among m a (range_with_len 0 (length m.sizes)) s next ∙ ap (λ (n : ℕ). among (m.moves a s) next (range_with_len 0 n)) (sym same) ∙ among-over (m.moves a s) next

-- a probability is at most one
pub chance_at_most : (sizes : List ℕ) (draws : Draws) (next : List ℕ) → AreProbabilitiesWhole sizes draws → IsPoint sizes next → (i : ℕ) → i < length sizes → draws (take i next) (get_or next i 0) ≤ q
chance_at_most [] draws next whole p i less = absurd (omega arith)
chance_at_most (size ∷ sizes) draws (x ∷ next) whole (low, p) zero less = let part = chance_part size (draws []) x low in let same = whole.0 in omega (arith, ints, part, same)
chance_at_most (size ∷ sizes) draws (x ∷ next) whole (low, p) (suc i) less = chance_at_most sizes (after x draws) next (whole.1 x low) p i (omega arith)
chance_at_most (size ∷ sizes) draws [] whole p i less = absurd p

Every-range : {X : Type 0} (R : X → Type 0) (f : ℕ → X) (a n : ℕ) → ((i : ℕ) → i < a + n → R (f i)) → Every R (map f (range_with_len a n))
Every-range R f a zero h = tt
Every-range R f a (suc n) h = (h a (omega arith), Every-range R f (a + 1) n (λ i less. h i (omega arith)))

pub tables_small : (m : Model) → IsLawful m → (a : ℕ) → a < m.actions → (next : State) (p : IsPoint m.sizes next) → AreChances m.sizes next p (tables_of m a)
tables_small m lawful a known next p = Every-range _ (table_of m a) 0 (length m.sizes) (λ i less s at. chance_at_most m.sizes (m.moves a s) next (lawful.moves_whole a s known at) p i (omega (arith, less)))

-- ---- the weights that an action carries
pub first_state_point : (sizes xs : List ℕ) → IsPoint sizes xs → IsPoint sizes (map (λ size. 0) sizes)
first_state_point [] [] p = tt
first_state_point (size ∷ sizes) (x ∷ xs) (less, p) = (omega (arith, less), first_state_point sizes xs p)
first_state_point [] (x ∷ xs) p = absurd p
first_state_point (size ∷ sizes) [] p = absurd p

some_state : (sizes xs : List ℕ) → IsPoint sizes xs → 0 < count_of sizes
some_state sizes xs p = let less = number-below sizes xs p in omega (arith, less)

-- exactly, over q for each state variable
abbrev pub exactly_moved : Model → Weights → ℕ → State → ℤ
exactly_moved m w a next = sum_over m.sizes (λ s. times (chance (m.moves a s) next) (pos (w s)))

module _ (m : Model) (lawful : IsLawful m) (w : Weights) (a : ℕ) (known : a < m.actions) (next : State) (p : IsPoint m.sizes next) where
  all : List ℕ
  all = range_with_len 0 (length m.sizes)

  start : Transfer
  start s t = pos (w s)

  at : IsPoint m.sizes (first_state m)
  at = first_state_point m.sizes next p

  count-tables : length (tables_of m a) ≡ length m.sizes
  count-tables = length-map-range_with_len (table_of m a) 0 (length m.sizes)

  none_left : tables_of m a ≡ [] → all ≡ []
  unfolding all
  none_left e = ap (λ (n : ℕ). range_with_len 0 n) (sym count-tables ∙ ap length e)

  exactly-moved : exactly_carried m.sizes (tables_of m a) all start (first_state m) next ≡ exactly_moved m w a next
  unfolding all start
  exactly-moved =
      exactly_is m.sizes next p (tables_of m a) all start none_left (first_state m) at
      ∙ all-over m.sizes (λ s t. times (product (tables_of m a) s t) (pos (w s))) (first_state m) next (length-point m.sizes (first_state m) at)
      ∙ sum_over_same m.sizes _ _ (λ s here. ap (λ (n : ℕ). times n (pos (w s))) (product-chance m a s next (length-point m.sizes next p)))

  pub moved_low : times (q ^ length m.sizes) (moved m w a next) ≤ℤ exactly_moved m w a next
  unfolding moved all start
  moved_low =
      ≤ℤ_trans (le_same (ap (λ (n : ℕ). times (q ^ n) (moved m w a next)) (sym count-tables)))
      (≤ℤ_trans (carried_low m.sizes next p (tables_of m a) all start (first_state m) at) (le_same exactly-moved))

  pub moved_high : exactly_moved m w a next ≤ℤ times (q ^ length m.sizes) (moved m w a next +ℤ pos (length m.sizes * count_of m.sizes))
  unfolding moved all start
  moved_high =
      ≤ℤ_trans (le_same (sym exactly-moved))
      (≤ℤ_trans (carried_high m.sizes next p (tables_of m a) all start (tables_small m lawful a known next p) (subst (λ (n : ℕ). 0 < n) (sym (count-over m.sizes)) (some_state m.sizes next p)) (first_state m) at)
      (le_same ((λ h. times (q ^ count-tables h) (moved m w a next +ℤ pos (count-tables h * count-over m.sizes h))))))

  pub moved_from_zero : pos 0 ≤ℤ moved m w a next
  unfolding moved all start
  moved_from_zero = carried_from_zero m.sizes next p (tables_of m a) all start (λ s here. omega (arith, ints)) (first_state m) at

-- ---- the next weights
thinned_from_zero : (draws : Draws) (xs : List ℕ) (z : ℤ) → pos 0 ≤ℤ z → pos 0 ≤ℤ thinned draws xs z
unfolding thinned
thinned_from_zero draws [] z h = h
thinned_from_zero draws (x ∷ xs) z h = thinned_from_zero (after x draws) xs _ (floor_most (times (draws [] x) z) (pos 0) q q_pos (≤ℤ_trans (le_same (times-zero q ∙ sym (times-zero (draws [] x)))) (times_mono (draws [] x) _ _ h)))

pub pos-unsigned_abs : (z : ℤ) → pos 0 ≤ℤ z → pos (unsigned_abs z) ≡ z
pos-unsigned_abs (pos n) h = refl
pos-unsigned_abs (negsuc n) h = absurd (omega (arith, ints))

-- a bound of what is multiplied with one of what it is multiplied by
joined_low : (A B z : ℕ) (r w e : ℤ) → times B r ≤ℤ times z w → times A w ≤ℤ e → times (A * B) r ≤ℤ times z e
joined_low A B z r w e outer inner = ≤ℤ_trans (le_same (times-times A B r)) (≤ℤ_trans (times_mono A _ _ outer) (≤ℤ_trans (le_same (times-swap A z w)) (times_mono z _ _ inner)))

joined_high : (A B z n k states : ℕ) (r w e : ℤ) → z ≤ B → 0 < states → times z w ≤ℤ times B (r +ℤ pos k) → e ≤ℤ times A (w +ℤ pos (n * states)) → times z e ≤ℤ times (A * B) (r +ℤ pos ((n + k) * states))
joined_high A B z n k states r w e small some outer inner =
    ≤ℤ_trans (times_mono z _ _ inner)
    (≤ℤ_trans (le_same (times-swap z A (w +ℤ pos (n * states))))
    (≤ℤ_trans (times_mono A _ (times B (r +ℤ pos ((n + k) * states))) inside) (le_same (sym (times-times A B _)))))
  where
    inside : times z (w +ℤ pos (n * states)) ≤ℤ times B (r +ℤ pos ((n + k) * states))
    inside =
        let split = times-add z w (pos (n * states)) in
        let one = times-add B r (pos k) in
        let two = times-add B r (pos ((n + k) * states)) in
        let less = mul-le-mul_right (n * states) small in
        let more = mul-le-mul_left B (mul-le-mul_left k some) in
        omega (arith, ints, outer, split, one, two, less, more)

module _ (m : Model) (lawful : IsLawful m) (w : Weights) (a : ℕ) (known : a < m.actions) (seen : List ℕ) (sighted : IsPoint m.sight_sizes seen) (next : State) (p : IsPoint m.sizes next) where
  -- no weight is below zero
  pub unscaled_next-is : pos (unscaled_next m w a seen next) ≡ thinned (m.sights a next) seen (moved m w a next)
  unfolding unscaled_next
  unscaled_next-is = pos-unsigned_abs _ (thinned_from_zero (m.sights a next) seen _ (moved_from_zero m lawful w a known next p))

  count : length m.sight_sizes ≡ length seen
  count = sym (length-point m.sight_sizes seen sighted)

  pub unscaled_next_low : times (q ^ (length m.sizes + length m.sight_sizes)) (pos (unscaled_next m w a seen next)) ≤ℤ exact_next m w a seen next
  unfolding exact_next
  unscaled_next_low =
      ≤ℤ_trans (le_same (ap (λ (n : ℕ). times n (pos (unscaled_next m w a seen next))) (pow-add q (length m.sizes) (length m.sight_sizes))))
      (joined_low (q ^ length m.sizes) (q ^ length m.sight_sizes) (chance (m.sights a next) seen) (pos (unscaled_next m w a seen next)) (moved m w a next) (exactly_moved m w a next)
      (≤ℤ_trans (le_same (λ h. times (q ^ count h) (unscaled_next-is h))) (thinned_low (m.sights a next) seen (moved m w a next)))
      (moved_low m lawful w a known next p))

  pub unscaled_next_high : exact_next m w a seen next ≤ℤ times (q ^ (length m.sizes + length m.sight_sizes)) (pos (unscaled_next m w a seen next + (length m.sizes + length m.sight_sizes) * count_of m.sizes))
  unfolding exact_next
  unscaled_next_high =
      ≤ℤ_trans (joined_high (q ^ length m.sizes) (q ^ length m.sight_sizes) (chance (m.sights a next) seen) (length m.sizes) (length m.sight_sizes) (count_of m.sizes) (pos (unscaled_next m w a seen next)) (moved m w a next) (exactly_moved m w a next)
      (subst (λ (n : ℕ). chance (m.sights a next) seen ≤ q ^ n) (sym count) (chance_most m.sight_sizes (m.sights a next) seen (lawful.sights_whole a next known p) sighted))
      (some_state m.sizes next p)
      (≤ℤ_trans (thinned_high m.sight_sizes (m.sights a next) seen (moved m w a next) (lawful.sights_whole a next known p) sighted) (le_same (λ h. times (q ^ sym count h) (sym unscaled_next-is h +ℤ pos (sym count h)))))
      (moved_high m lawful w a known next p))
      (le_same (ap (λ (n : ℕ). times n (pos (unscaled_next m w a seen next + (length m.sizes + length m.sight_sizes) * count_of m.sizes))) (sym (pow-add q (length m.sizes) (length m.sight_sizes)))))

pub update_close : UpdateIsClose
update_close m lawful w a known seen sighted next p = (unscaled_next_low m lawful w a known seen sighted next p, unscaled_next_high m lawful w a known seen sighted next p)
