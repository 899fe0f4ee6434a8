-- Rows and their numbers.
use Rattle.std.proofs.Common.{◌≡◌, ℕ, zero, suc, ◌+◌, ◌-◌, ◌*◌, ◌^◌, ◌<◌, ◌≤◌, ◌%◌, Bool, true, false, List, [], ◌∷◌, Option, Some, None, refl, sym, ◌∙◌, ap, subst, arith, add-one, zero-add, mul_assoc, get_or, set, length, drop, drop-cons, drop_of_length-le}
use Rattle.std.specs.Prelude.{ℤ, pos, int_le, ◌≤ℤ◌, ◌&&◌, unsigned_abs, All, option_map, if◌then◌else◌}
use Rattle.std.proofs.lemmas.Int.{ints}
use Rattle.std.proofs.lemmas.List.Elements.{All-get_or}
use Rattle.std.proofs.Math.Nat.{mul-le-mul_right, mul-le-mul_left}
use Rattle.sp_dd.specs.Floors.{ticks, sum_to}
use Rattle.sp_dd.specs.Points.{product, place, IsPoint, AllSizes}
use Rattle.sp_dd.specs.Func.{Shape, Func, IsScope, IsPointOf, Everywhere, value_of, size_of}
use Rattle.sp_dd.specs.Operations.{summed_out}
use Rattle.sp_dd.proofs.FuncLemmas.{scope_some, product_pos, value_of-function_of, IsPoint-with}
use Rattle.sp_dd.proofs.PointLemmas.{place-below}
use Rattle.sp_ddops.proofs.SumLemmas.{sum_small}
use Rattle.sp_model.specs.Kept.{summed_out_own}
use Rattle.sp_model.proofs.InitialLaw.{summed_out_own-shape}
use Rattle.sp_rows.specs.declared.tables.Table.{Table}
use Rattle.sp_rows.specs.declared.tables.BadRow.{BadRow}
use Rattle.sp_rows.specs.Tables.{is_probability, widths_from, row_widths, numbers_rows, own_count, first_apart, slot_of, row_at, bad_row}
use Rattle.sp_rows.proofs.LeafLemmas.{pass_all}

-- ---- widths
length-widths : (counts : ℕ → Bool) (k : ℕ) (ws : List ℕ) → length (widths_from counts k ws) ≡ length ws
length-widths counts k [] = refl
length-widths counts k (w ∷ ws) = ap suc (length-widths counts (k + 1) ws)

width_is : (b : Bool) (w : ℕ) → 1 ≤ w → w ≤ 64 → (let v : ℕ = (if b then w else 1) in (1 ≤ v) × (v ≤ 64))
width_is true w h k = (h, k)
width_is false w h k = (omega arith, omega arith)

widths_sizes : (counts : ℕ → Bool) (k : ℕ) (ws : List ℕ) → AllSizes ws → AllSizes (widths_from counts k ws)
widths_sizes counts k [] h = tt
widths_sizes counts k (w ∷ ws) h = let v = width_is (counts k) w h.0 h.1 in (v.0, v.1, widths_sizes counts (k + 1) ws h.2)

width_at : (counts : ℕ → Bool) (k : ℕ) (ws : List ℕ) (i : ℕ) → i < length ws → get_or (widths_from counts k ws) i 0 ≡ (if counts (k + i) then get_or ws i 0 else 1)
width_at counts k [] i h = absurd (omega arith)
width_at counts k (w ∷ ws) zero h = ap (λ j. if counts j then w else 1) (omega arith)
width_at counts k (w ∷ ws) (suc i) h = width_at counts (k + 1) ws i (omega arith) ∙ ap (λ j. if counts j then get_or ws i 0 else 1) (omega arith)

product_drop : (ws : List ℕ) (i : ℕ) → AllSizes ws → product (drop i ws) ≤ product ws
product_drop ws zero h = omega arith
product_drop [] (suc i) h = omega arith
product_drop (w ∷ ws) (suc i) h = let more = product_drop ws i h.2 in let times : 1 * product ws ≤ w * product ws = mul-le-mul_right (product ws) h.0 in omega arith

sizes_drop : (ws : List ℕ) (i : ℕ) → AllSizes ws → AllSizes (drop i ws)
sizes_drop ws zero h = h
sizes_drop [] (suc i) h = tt
sizes_drop (w ∷ ws) (suc i) h = sizes_drop ws i h.2

pub length-point : (ws xs : List ℕ) → IsPoint ws xs → length xs ≡ length ws
length-point [] [] p = refl
length-point [] (x ∷ xs) p = absurd p
length-point (w ∷ ws) [] p = absurd p
length-point (w ∷ ws) (x ∷ xs) p = ap suc (length-point ws xs p.1)

-- ---- the number of a row
place_turn : (ws xs : List ℕ) (i : ℕ) → i < length ws → length xs ≡ length ws → place (drop i ws) (drop i xs) ≡ get_or xs i 0 % get_or ws i 0 * product (drop (i + 1) ws) + place (drop (i + 1) ws) (drop (i + 1) xs)
place_turn ws xs i h e = let k : i < length xs = omega arith in rw (add-one, drop-cons ws i 0, drop-cons xs i 0) refl

product_turn : (ws : List ℕ) (i : ℕ) → i < length ws → product (drop i ws) ≡ get_or ws i 0 * product (drop (i + 1) ws)
product_turn ws i h = rw (add-one, drop-cons ws i 0) refl

-- what stands behind place i: the number of the row there, and how many rows there are
pub record IsNumbered (s : Shape) (t : Table) (x : List ℕ) (i row weight : ℕ) : Type 0 where
  pub within : i ≤ length s.sizes
  pub row_is : row ≡ place (drop i (row_widths s t)) (drop i x)
  pub weight_is : weight ≡ product (drop i (row_widths s t))

-- what fits when one more slot is numbered
pub record HasRoom (row weight digit width : ℕ) : Type 0 where
  pub some : 0 < width
  pub digit_fits : digit % width * weight < 2 ^ 64
  pub row_fits : row + digit % width * weight < 2 ^ 64
  pub weight_fits : weight * width < 2 ^ 64

some_size : (ws : List ℕ) (i : ℕ) → AllSizes ws → i < length ws → 0 < get_or ws i 0
some_size [] i h k = absurd (omega arith)
some_size (w ∷ ws) zero h k = h.0
some_size (w ∷ ws) (suc i) h k = some_size ws i h.2 (omega arith)

commuted : (a b : ℕ) → a * b ≡ b * a
commuted a b = grind arith

module _ (s : Shape) (t : Table) (x : List ℕ) (scope : IsScope s) (p : IsPoint s.sizes x) (few : product (row_widths s t) ≤ 2 ^ 48) where
  long : length (row_widths s t) ≡ length s.sizes
  long = length-widths (numbers_rows s.variables t) 0 s.sizes

  all : AllSizes (row_widths s t)
  all = widths_sizes (numbers_rows s.variables t) 0 s.sizes scope.each

  past : (n : ℕ) → n ≡ length s.sizes → drop n (row_widths s t) ≡ []
  past n e = let h : length (row_widths s t) ≤ n = let l = long in omega arith in drop_of_length-le (row_widths s t) h

  pub numbered_first : (n : ℕ) → n ≡ length s.sizes → IsNumbered s t x n 0 1
  numbered_first n e = record {
    within = omega arith;
    row_is = ap (λ ws. place ws (drop n x)) (sym (past n e));
    weight_is = ap product (sym (past n e));
  }

  pub numbered_all : (row weight : ℕ) → IsNumbered s t x 0 row weight → row ≡ place (row_widths s t) x
  numbered_all row weight h = h.row_is

  module _ (i j row weight digit width : ℕ) (h : IsNumbered s t x j row weight) (e : i + 1 ≡ j) (d : digit ≡ get_or x i 0) (w : width ≡ (if numbers_rows s.variables t i then size_of s i else 1)) where
    here : i < length (row_widths s t)
    here = let l = long in let k = h.within in omega arith

    width_here : width ≡ get_or (row_widths s t) i 0
    width_here = w ∙ ap (λ k. if numbers_rows s.variables t k then get_or s.sizes i 0 else 1) (sym (zero-add i)) ∙ sym (width_at (numbers_rows s.variables t) 0 s.sizes i (let l = long in let k = here in omega arith))

    behind : IsNumbered s t x (i + 1) row weight
    behind = subst (λ (k : ℕ). IsNumbered s t x k row weight) (sym e) h

    row_turn : row + digit % width * weight ≡ place (drop i (row_widths s t)) (drop i x)
    row_turn =
        let turn = place_turn (row_widths s t) x i here (length-point s.sizes x p ∙ sym long) in
        let term : get_or x i 0 % get_or (row_widths s t) i 0 * product (drop (i + 1) (row_widths s t)) ≡ digit % width * weight = cc (behind.weight_is, width_here, d) in
        let rest = behind.row_is in omega arith

    weight_turn : weight * width ≡ product (drop i (row_widths s t))
    weight_turn =
        let term : get_or (row_widths s t) i 0 * product (drop (i + 1) (row_widths s t)) ≡ width * weight = cc (behind.weight_is, width_here) in
        commuted weight width ∙ sym (product_turn (row_widths s t) i here ∙ term)

    pub numbered_more : IsNumbered s t x i (row + digit % width * weight) (weight * width)
    numbered_more = record { within = let l = h.within in omega arith; row_is = row_turn; weight_is = weight_turn }

    some_width : 0 < width
    some_width = subst (λ (n : ℕ). 0 < n) (sym width_here) (some_size (row_widths s t) i all here)

    pub has_room : HasRoom row weight digit width
    has_room =
        let most = product_drop (row_widths s t) i all in
        let some = product_pos (drop i (row_widths s t)) (sizes_drop (row_widths s t) i all) in
        let below = place-below (drop i (row_widths s t)) (drop i x) some in
        let row_at = row_turn in let weight_at = weight_turn in
        record { some = some_width; digit_fits = omega arith; row_fits = omega arith; weight_fits = omega arith }

-- ---- sums
pub both : (a b : Bool) → (a && b) ≡ true → (a ≡ true) × (b ≡ true)
both true b h = (refl, h)
both false b h = cc

share_size : (v : ℤ) → (int_le (pos 0) v && int_le v (pos ticks)) ≡ true → unsigned_abs v ≤ ticks
share_size v h = let parts = both (int_le (pos 0) v) (int_le v (pos ticks)) h in let low = parts.0 in let high = parts.1 in grind (arith, ints)

pub share_small : (f : Func) → IsScope f.shape → is_probability f ≡ true → Everywhere f (λ v. unsigned_abs v ≤ ticks)
share_small f scope h x p = share_size (value_of f x) (pass_all f scope (λ v. int_le (pos 0) v && int_le v (pos ticks)) h x p)

pub share_sum : (f : Func) → IsScope f.shape → is_probability f ≡ true → Everywhere f (λ v. unsigned_abs v ≤ 2 ^ 100)
share_sum f scope h x p = let k = share_small f scope h x p in omega arith

-- the sums over a slot are within its size times the bound
summed_small : (f : Func) (slot m : ℕ) → IsScope f.shape → slot < length f.shape.sizes → Everywhere f (λ v. unsigned_abs v ≤ m) → Everywhere (summed_out f slot) (λ v. unsigned_abs v ≤ size_of f.shape slot * m)
summed_small f slot m scope h small x p =
    rw (value_of-function_of f.shape (λ x. sum_to (size_of f.shape slot) (λ v. value_of f (set x slot v))) x (scope_some f.shape scope) p)
    (sum_small (λ v. value_of f (set x slot v)) (size_of f.shape slot) m (λ v k. small (set x slot v) (IsPoint-with f.shape.sizes x slot v p k)))

-- what is summed out behind place i of some own variables
pub record IsSummed (f : Func) (own : List ℕ) (i : ℕ) (sums : Func) : Type 0 where
  pub within : i ≤ length own
  pub is : sums ≡ summed_out_own f (drop i own)
  pub shape : sums.shape ≡ f.shape
  pub small : Everywhere sums (λ v. unsigned_abs v ≤ own_count f.shape (drop i own) * ticks)

pub own_drop : (s : Shape) (own : List ℕ) (i : ℕ) → IsScope s → All (λ k. k < s.variables) own → own_count s (drop i own) ≤ own_count s own
own_drop s own zero scope h = omega arith
own_drop s [] (suc i) scope h = omega arith
own_drop s (k ∷ own) (suc i) scope h =
    let more = own_drop s own i scope (λ n d b. h (suc n) d (omega arith)) in
    let some : 0 < size_of s (2 * k) = some_size s.sizes (2 * k) scope.each (let paired = scope.paired in let below = h 0 0 (omega arith) in omega arith) in
    let times : 1 * own_count s own ≤ size_of s (2 * k) * own_count s own = mul-le-mul_right (own_count s own) some in omega arith

module _ (f : Func) (own : List ℕ) (scope : IsScope f.shape) (h : All (λ i. i < f.shape.variables) own) (probability : is_probability f ≡ true) where
  pub summed_first : (sums : Func) (n : ℕ) → sums ≡ f → n ≡ length own → IsSummed f own n sums
  summed_first sums n e k = record {
    within = omega arith;
    is = e ∙ ap (summed_out_own f) (sym none);
    shape = ap (λ (g : Func). g.shape) e;
    small = subst (λ (g : Func). Everywhere g (λ v. unsigned_abs v ≤ own_count f.shape (drop n own) * ticks)) (sym e) (λ x p. rw none (let b = share_small f scope probability x p in omega arith));
  }
    where
      none : drop n own ≡ []
      none = let past : length own ≤ n = omega arith in drop_of_length-le own past

  pub summed_all : (sums : Func) → IsSummed f own 0 sums → sums ≡ summed_out_own f own
  summed_all sums s = s.is

  module _ (i j slot : ℕ) (sums more : Func) (s : IsSummed f own j sums) (e : i + 1 ≡ j) (at : slot ≡ 2 * get_or own i 0) where
    stands : i < length own
    stands = let k = s.within in omega arith

    turn : drop i own ≡ get_or own i 0 ∷ drop j own
    turn = let k = stands in rw (drop-cons own i 0) (ap (λ n. get_or own i 0 ∷ drop n own) (sym (add-one i) ∙ e))

    pub own_slot : slot < length f.shape.sizes
    own_slot = let below = All-get_or (λ k. k < f.shape.variables) own i 0 stands h in let paired = scope.paired in omega arith

    pub summed_more : more ≡ summed_out sums slot → IsSummed f own i more
    summed_more m = record {
      within = let k = stands in omega arith;
      is = m ∙ ap (λ g. summed_out g slot) s.is ∙ rw (turn, at) refl;
      shape = ap (λ (g : Func). g.shape) m ∙ s.shape;
      small = subst (λ (g : Func). Everywhere g (λ v. unsigned_abs v ≤ own_count f.shape (drop i own) * ticks)) (sym m) (λ x p.
          let same : own_count f.shape (drop i own) ≡ size_of f.shape slot * own_count f.shape (drop j own) = ap (own_count f.shape) turn ∙ ap (λ k. size_of f.shape k * own_count f.shape (drop j own)) (sym at) in
          let bound = summed_small sums slot (own_count f.shape (drop j own) * ticks) (subst IsScope (sym s.shape) scope) (subst (λ (r : Shape). slot < length r.sizes) (sym s.shape) own_slot) s.small x p in
          let oc = own_count f.shape (drop j own) in
          let whole : size_of sums.shape slot * (oc * ticks) ≡ own_count f.shape (drop i own) * ticks =
          ap (λ (r : Shape). size_of r slot * (oc * ticks)) s.shape ∙ sym (mul_assoc (size_of f.shape slot) oc ticks) ∙ ap (λ n. n * ticks) (sym same) in
          omega arith);
    }

    pub own_small : own_count f.shape own ≤ 2 ^ 24 → Everywhere sums (λ v. unsigned_abs v ≤ 2 ^ 100)
    own_small few x p = let b = s.small x p in let d = own_drop f.shape own j scope h in omega arith

-- ---- the row that is found
pub row_found : (f sums : Func) (t : Table) (x : List ℕ) (r : BadRow) → sums ≡ summed_out f (slot_of f.shape.variables t) → Some x ≡ first_apart sums (pos ticks) → r ≡ row_at f.shape t sums x → Some r ≡ bad_row f t
row_found f sums t x r e h k = ap Some k ∙ ap (option_map (row_at f.shape t sums)) h ∙ ap (λ g. option_map (row_at f.shape t g) (first_apart g (pos ticks))) e

pub no_row : (f sums : Func) (t : Table) → sums ≡ summed_out f (slot_of f.shape.variables t) → None ≡ first_apart sums (pos ticks) → None ≡ bad_row f t
no_row f sums t e h = ap (option_map (row_at f.shape t sums)) h ∙ ap (λ g. option_map (row_at f.shape t g) (first_apart g (pos ticks))) e
