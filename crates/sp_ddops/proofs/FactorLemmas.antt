-- The sum of a product of two parts of which one may be a leaf.
use Rattle.std.proofs.Common.{◌≡◌, ◌≢◌, ℕ, zero, suc, ◌+◌, ◌*◌, ◌<◌, ◌≤◌, ◌⊎◌, ◌↔◌, ⊎_elim, min, Bool, false, IsTrue, List, [], ◌∷◌, ◌++◌, length, drop, ℤ, pos, negsuc, ◌*ℤ◌, ◌≤ℤ◌, unsigned_abs, FitsSigned, sym, ◌∙◌, ap, ap₂, subst, refl, arith}
use mir.Syntax.{w128}
use Rattle.std.proofs.lemmas.Bool.{cases_lt, false≢true}
use Rattle.std.proofs.lemmas.Int.{ints, fits_signed_from_abs, unsigned_abs-mul}
use Rattle.std.proofs.lemmas.List.{get_or_append_left, get_or_push, length_push}
use Rattle.std.proofs.Math.Nat.{mul-le-mul_left}
use Rattle.std.proofs.Math.IntN.{*ℤ_comm}
use Rattle.sp_dd.specs.declared.part.Part.{Part}
use Rattle.sp_dd.specs.declared.part.Part.TheVariants.{Leaf, At}
use Rattle.sp_dd.specs.declared.memo.State.{State}
use Rattle.sp_dd.specs.Func.{Shape}
use Rattle.sp_dd.specs.NodeLists.{Node, node_value}
use Rattle.sp_dd.specs.Ordered.{height, IsBefore}
use Rattle.sp_dd.proofs.FloorLemmas.{sum_to-mono, sum_to-times}
use Rattle.sp_ddops.specs.declared.pair_table.PairNumber.{PairNumber}
use Rattle.sp_ddops.specs.PairNumbers.{made_number, key_of, part_of_key, pair_of_keys, PairHasNumber}
use Rattle.sp_ddops.specs.Cofactors.{slot_or}
use Rattle.sp_ddops.specs.Pairs.{IsPair, least_slot}
use Rattle.sp_ddops.specs.StateSums.{widths_of, sum_points, point_from, sum_over, pair_of, pair_value, unit_part, unit_pair, leaf_factor, IsLight, AreSums}
use Rattle.sp_ddops.proofs.StateSumLemmas.{sum_to_same, over_same, over_zero, light_fits}
use Rattle.sp_ddops.proofs.PairLemmas.{zero_product}

-- ---- a sum of multiples

points_times : (ws : List ℕ) (φ : List ℕ → ℤ) (k : ℤ) → sum_points ws (λ p. φ p *ℤ k) ≡ sum_points ws φ *ℤ k
unfolding sum_points
points_times [] φ k = refl
points_times (w ∷ ws) φ k =
    sum_to_same w _ _ (λ v l. points_times ws (λ p. φ (v ∷ p)) k) ∙ sum_to-times w (λ v. sum_points ws (λ p. φ (v ∷ p))) k

points_less : (ws : List ℕ) (φ ψ : List ℕ → ℤ) → ((p : List ℕ) → φ p ≤ℤ ψ p) → sum_points ws φ ≤ℤ sum_points ws ψ
unfolding sum_points
points_less [] φ ψ h = h []
points_less (w ∷ ws) φ ψ h = sum_to-mono w _ _ (λ v l. points_less ws (λ p. φ (v ∷ p)) (λ p. ψ (v ∷ p)) (λ p. h (v ∷ p)))

over_times : (ws : List ℕ) (lo : ℕ) (ψ : (ℕ → ℕ) → ℤ) (k : ℤ) → sum_over ws lo (λ π. ψ π *ℤ k) ≡ sum_over ws lo ψ *ℤ k
unfolding sum_over
over_times ws lo ψ k = points_times (drop lo ws) (λ p. ψ (point_from lo p)) k

over_less : (ws : List ℕ) (lo : ℕ) (ψ χ : (ℕ → ℕ) → ℤ) → ((π : ℕ → ℕ) → ψ π ≤ℤ χ π) → sum_over ws lo ψ ≤ℤ sum_over ws lo χ
unfolding sum_over
over_less ws lo ψ χ h = points_less (drop lo ws) _ _ (λ p. h (point_from lo p))

some_size : (k : ℤ) → k ≢ pos 0 → 1 ≤ unsigned_abs k
some_size (pos zero) h = absurd (h refl)
some_size (pos (suc n)) h = omega arith
some_size (negsuc n) h = omega (arith, ints)

size_times : (u k : ℤ) → k ≢ pos 0 → pos (unsigned_abs u) ≤ℤ pos (unsigned_abs (u *ℤ k))
size_times u k h = (let more : unsigned_abs u * 1 ≤ unsigned_abs u * unsigned_abs k = mul-le-mul_left (unsigned_abs u) (some_size k h) in omega (arith, ints, more, unsigned_abs-mul u k))

-- ---- leaves

unit_slot : (f : List Node) (a : Part) (n : ℕ) → slot_or f (unit_part a) n ≡ slot_or f a n
unit_slot f (Leaf z) n = refl
unit_slot f (At i) n = refl

unit_height : (a : Part) → height (unit_part a) ≡ height a
unit_height (Leaf z) = refl
unit_height (At i) = refl

unit_again : (a : Part) → unit_part (unit_part a) ≡ unit_part a
unit_again (Leaf z) = refl
unit_again (At i) = refl

unit_key : (a : Part) → part_of_key (pos 1) (key_of a) ≡ unit_part a
unit_key (Leaf z) = refl
unit_key (At i) = refl

one_times : (z : ℤ) → z *ℤ pos 1 ≡ z
one_times z = omega (arith, ints)

times_one : (z : ℤ) → pos 1 *ℤ z ≡ z
times_one z = omega (arith, ints)

leaf_value : (π : ℕ → ℕ) (f : List Node) (z : ℤ) → node_value π f (Leaf z) ≡ z
unfolding node_value
leaf_value π f z = refl

-- a pair with a node is so many times the pair with 1 for its leaf
factor_value : (f g : List Node) (a b : Part) (n : ℕ) (π : ℕ → ℕ) → min (slot_or f a n) (slot_or g b n) < n → node_value π f a *ℤ node_value π g b ≡ node_value π f (unit_part a) *ℤ node_value π g (unit_part b) *ℤ leaf_factor a b
factor_value f g (Leaf x) (Leaf y) n π l = absurd (omega arith)
factor_value f g (Leaf x) (At j) n π l =
    let v : ℤ = node_value π g (At j) in
    ap (λ t. t *ℤ v) (leaf_value π f x) ∙ *ℤ_comm x v ∙ ap (λ t. t *ℤ x) (sym (ap (λ t. t *ℤ v) (leaf_value π f (pos 1)) ∙ times_one v))
factor_value f g (At i) (Leaf y) n π l =
    let u : ℤ = node_value π f (At i) in
    ap (λ t. u *ℤ t) (leaf_value π g y) ∙ ap (λ t. t *ℤ y) (sym (ap (λ t. u *ℤ t) (leaf_value π g (pos 1)) ∙ one_times u))
factor_value f g (At i) (At j) n π l = sym (one_times (node_value π f (At i) *ℤ node_value π g (At j)))

factor_some : (a b : Part) → a ≢ Leaf (pos 0) → b ≢ Leaf (pos 0) → leaf_factor a b ≢ pos 0
factor_some (Leaf x) b h k e = h (ap Leaf e)
factor_some (At i) (Leaf y) h k e = k (ap Leaf e)
factor_some (At i) (At j) h k e = absurd (one_apart e)
  where
    one_apart : pos 1 ≡ pos 0 → ⊥
    one_apart h = cc

-- what is known of the pair with 1 for each leaf
pub record IsUnit (s : Shape) (f g : List Node) (q : State) (slot : ℕ) : Type 0 where
  pub pair : IsPair s.sizes f g (unit_pair q)
  pub again : unit_pair q ≡ unit_pair (unit_pair q)
  pub first : slot ≡ least_slot s.sizes f g (unit_pair q)
  pub light : IsLight (widths_of s) slot (pair_value f g (unit_pair q))
  pub heights : height (unit_part q.left) + height (unit_part q.right) ≡ height q.left + height q.right

unit_light : (s : Shape) (f g : List Node) (q : State) (slot : ℕ) → least_slot s.sizes f g q < length s.sizes → q.left ≢ Leaf (pos 0) → q.right ≢ Leaf (pos 0) → IsLight (widths_of s) slot (pair_value f g q) → IsLight (widths_of s) slot (pair_value f g (unit_pair q))
unfolding IsLight pair_value
unit_light s f g q slot m h k light =
    let x : (ℕ → ℕ) → ℤ = λ π. pair_value f g (unit_pair q) π in
    let less : sum_over (widths_of s) slot (λ π. pos (unsigned_abs (x π))) ≤ℤ sum_over (widths_of s) slot (λ π. pos (unsigned_abs (x π *ℤ leaf_factor q.left q.right))) =
    over_less (widths_of s) slot _ _ (λ π. size_times (x π) (leaf_factor q.left q.right) (factor_some q.left q.right h k)) in
    let same : sum_over (widths_of s) slot (λ π. pos (unsigned_abs (pair_value f g q π))) ≡ sum_over (widths_of s) slot (λ π. pos (unsigned_abs (x π *ℤ leaf_factor q.left q.right))) =
    over_same (widths_of s) slot _ _ (λ π. ap (λ z. pos (unsigned_abs z)) (factor_value f g q.left q.right (length s.sizes) π m)) in
    omega (arith, ints, less, same, light)

pub is_unit : (s : Shape) (f g : List Node) (q : State) (slot : ℕ) → IsPair s.sizes f g q → slot ≡ least_slot s.sizes f g q → slot < length s.sizes → q.left ≢ Leaf (pos 0) → q.right ≢ Leaf (pos 0) → IsLight (widths_of s) slot (pair_value f g q) → IsUnit s f g q slot
is_unit s f g q slot p e m h k light =
    record {
      pair = record { positive = p.positive; left = p.left; right = p.right; left_before = before f q.left p.left_before; right_before = before g q.right p.right_before };
      again = sym (ap₂ pair_of (unit_again q.left) (unit_again q.right));
      first = e ∙ sym (ap₂ min (unit_slot f q.left (length s.sizes)) (unit_slot g q.right (length s.sizes)));
      light = unit_light s f g q slot (omega (arith, e, m)) h k light;
      heights = ap₂ (λ x y. x + y) (unit_height q.left) (unit_height q.right);
    }
  where
    before : (f : List Node) (a : Part) → IsBefore (length f) a → IsBefore (length f) (unit_part a)
    before f (Leaf z) b = tt
    before f (At i) b = b

-- the sum of a pair by that of the pair with 1 for each leaf
pub record IsScaled (s : Shape) (f g : List Node) (q : State) (slot : ℕ) (z : ℤ) : Type 0 where
  pub fits : FitsSigned w128 (z *ℤ leaf_factor q.left q.right)
  pub is : z *ℤ leaf_factor q.left q.right ≡ sum_over (widths_of s) slot (pair_value f g q)

pub is_scaled : (s : Shape) (f g : List Node) (q : State) (slot : ℕ) (z : ℤ) → slot ≡ least_slot s.sizes f g q → slot < length s.sizes → IsLight (widths_of s) slot (pair_value f g q) → z ≡ sum_over (widths_of s) slot (pair_value f g (unit_pair q)) → IsScaled s f g q slot z
unfolding pair_value
is_scaled s f g q slot z e m light d =
    let is : z *ℤ leaf_factor q.left q.right ≡ sum_over (widths_of s) slot (pair_value f g q) =
    ap (λ t. t *ℤ leaf_factor q.left q.right) d
    ∙ sym (over_same (widths_of s) slot _ _ (λ π. factor_value f g q.left q.right (length s.sizes) π (omega (arith, e, m))) ∙ over_times (widths_of s) slot (pair_value f g (unit_pair q)) (leaf_factor q.left q.right)) in
    record {
      fits = fits_signed_from_abs w128 _ (omega (arith, ap unsigned_abs is, light_fits (widths_of s) slot (pair_value f g q) light));
      is = is;
    }

-- ---- what is remembered

keys_pair : (q : State) (l r : ℕ) → l ≡ key_of q.left → r ≡ key_of q.right → pair_of_keys (pos 1) l r ≡ unit_pair q
keys_pair q l r d e = ap₂ pair_of (ap (part_of_key (pos 1)) d ∙ unit_key q.left) (ap (part_of_key (pos 1)) e ∙ unit_key q.right)

pub number_known : (s : Shape) (f g : List Node) (es : List PairNumber) (q : State) (l r : ℕ) (z : ℤ) → AreSums s f g es → q ≡ unit_pair q → l ≡ key_of q.left → r ≡ key_of q.right → PairHasNumber es l r z → z ≡ sum_over (widths_of s) (least_slot s.sizes f g q) (pair_value f g q)
number_known s f g es q l r z k u d e h =
    let P : State → Type 0 = λ p. z ≡ sum_over (widths_of s) (least_slot s.sizes f g p) (pair_value f g p) in
    subst P (keys_pair q l r d e ∙ sym u) (k l r z h)

last_number : (s : Shape) (f g : List Node) (l r m n : ℕ) (y z : ℤ) → y ≡ sum_over (widths_of s) (least_slot s.sizes f g (pair_of_keys (pos 1) l r)) (pair_value f g (pair_of_keys (pos 1) l r)) → made_number l r y ≡ made_number m n z → z ≡ sum_over (widths_of s) (least_slot s.sizes f g (pair_of_keys (pos 1) m n)) (pair_value f g (pair_of_keys (pos 1) m n))
last_number s f g l r m n y z h e =
    let P : PairNumber → Type 0 = λ x. x.number ≡ sum_over (widths_of s) (least_slot s.sizes f g (pair_of_keys (pos 1) x.left x.right)) (pair_value f g (pair_of_keys (pos 1) x.left x.right)) in
    subst P e h

pub numbers_push : (s : Shape) (f g : List Node) (es more : List PairNumber) (q : State) (l r : ℕ) (z : ℤ) → AreSums s f g es → q ≡ unit_pair q → l ≡ key_of q.left → r ≡ key_of q.right → z ≡ sum_over (widths_of s) (least_slot s.sizes f g q) (pair_value f g q) → more ≡ es ++ made_number l r z ∷ [] → AreSums s f g more
numbers_push s f g es more q l r z k u d e w is =
    let P : State → Type 0 = λ p. z ≡ sum_over (widths_of s) (least_slot s.sizes f g p) (pair_value f g p) in
    let here : P (pair_of_keys (pos 1) l r) = subst P (u ∙ sym (keys_pair q l r d e)) w in
    let one : PairNumber = made_number l r z in
    subst (λ x. AreSums s f g x) (sym is) (λ m n y h.
    (let there : PairHasNumber (es ++ one ∷ []) m n y = h in
    ⊎_elim
    (λ (low : there.place < length es). k m n y (record { place = there.place; within = low; is = sym (get_or_append_left es (one ∷ []) (made_number m n y) there.place low) ∙ there.is }))
    (λ (high : length es ≤ there.place).
    (let last : length es ≡ there.place = omega (arith, there.within, length_push es one) in
    last_number s f g l r m n z y here (sym (get_or_push es one (made_number m n y) there.place last) ∙ there.is)))
    (cases_lt there.place (length es))))

pub is_other : (b : Bool) (a z : Part) → b ≡ false → IsTrue b ↔ (a ≡ z) → a ≢ z
is_other b a z e h q = false≢true (sym e ∙ h.1 q)

pub zero_sum : (s : Shape) (f g : List Node) (q : State) (from : ℕ) → (q.left ≡ Leaf (pos 0)) ⊎ (q.right ≡ Leaf (pos 0)) → pos 0 ≡ sum_over (widths_of s) from (pair_value f g q)
unfolding pair_value
zero_sum s f g q from h = sym (over_zero (widths_of s) from (pair_value f g q) (zero_product f g q h))
