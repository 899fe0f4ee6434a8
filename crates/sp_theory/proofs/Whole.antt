-- Laws of whole numbers with a sign: products by a natural, quotients rounded down, and sums.
use Rattle.std.proofs.Common.{◌≡◌, ℕ, zero, suc, ◌+◌, ◌*◌, ◌<◌, refl, sym, ap, ◌∙◌, arith}
use Rattle.std.specs.Prelude.{ℤ, pos, ◌+ℤ◌, ◌*ℤ◌, ◌≤ℤ◌, ◌<ℤ◌}
use Rattle.std.proofs.Math.IntN.{negsuc}
use borrow.Author.Differences.{up, down, le_out, sum_is_lem, product_is}
use Rattle.std.proofs.lemmas.Int.{ints, by_lt_z}
use Rattle.std.proofs.Math.Nat.{mul-le-mul_left, mul_assoc}
use lib.Signed.{≤ℤ_refl}
use Rattle.sp_theory.specs.Sums.{times, floor, sum_below}

pub times-add : (n : ℕ) (a b : ℤ) → times n (a +ℤ b) ≡ times n a +ℤ times n b
times-add n a b = let e = ap (λ (t : ℕ). n * t) (sum_is_lem a b) in omega (arith, ints, e)

pub add-times : (m n : ℕ) (z : ℤ) → times (m + n) z ≡ times m z +ℤ times n z
add-times m n z = omega (arith, ints)

pub times-times : (m n : ℕ) (z : ℤ) → times (m * n) z ≡ times m (times n z)
times-times m n (pos a) = ap pos (mul_assoc m n a)
times-times m n (negsuc a) = omega (arith, ints, ap (λ (t : ℕ). m * t) ((product_is (pos n) (negsuc a)).0), ap (λ (t : ℕ). m * t) ((product_is (pos n) (negsuc a)).1), product_is (pos (m * n)) (negsuc a), product_is (pos m) (pos n *ℤ negsuc a), mul_assoc m n (suc a))

pub times-one : (z : ℤ) → times 1 z ≡ z
times-one z = omega (arith, ints)

pub times-zero : (n : ℕ) → times n (pos 0) ≡ pos 0
times-zero n = omega (arith, ints)

pub times_mono : (n : ℕ) (a b : ℤ) → a ≤ℤ b → times n a ≤ℤ times n b
times_mono n a b h = let e = mul-le-mul_left n (le_out a b h) in omega (arith, ints, e)

pub floor_below : (z : ℤ) (n : ℕ) → 0 < n → times n (floor z n) ≤ℤ z
floor_below (pos a) n h = omega (arith, ints)
floor_below (negsuc a) n h = omega (arith, ints)

pub floor_above : (z : ℤ) (n : ℕ) → 0 < n → z <ℤ times n (floor z n +ℤ pos 1)
floor_above z n h = rw times-add (above z)
  where
    above : (z : ℤ) → z <ℤ (times n (floor z n) +ℤ times n (pos 1))
    above (pos a) = omega (arith, ints)
    above (negsuc a) = omega (arith, ints)

pub ≤ℤ_trans : {a b c : ℤ} → a ≤ℤ b → b ≤ℤ c → a ≤ℤ c
≤ℤ_trans h k = omega (arith, ints)

pub times_cancel : (n : ℕ) (a b : ℤ) → times n a <ℤ times n b → a <ℤ b
times_cancel n a b h = by_lt_z a b (λ k. k) (λ k. let e = times_mono n b a k in absurd (omega (arith, ints, e)))

pub times_cancel_le : (n : ℕ) (a b : ℤ) → 0 < n → times n a ≤ℤ times n b → a ≤ℤ b
times_cancel_le n a b h low = let k = times_cancel n a (b +ℤ pos 1) (let one = times-add n b (pos 1) in omega (arith, ints, one)) in omega (arith, ints, k)

-- the greatest: the one that is below
pub floor_most : (z x : ℤ) (n : ℕ) → 0 < n → times n x ≤ℤ z → x ≤ℤ floor z n
floor_most z x n h low = let k = times_cancel n x (floor z n +ℤ pos 1) (let e = floor_above z n h in omega (arith, ints, e)) in omega (arith, ints, k)

pub floor_mono : (a b : ℤ) (n : ℕ) → 0 < n → a ≤ℤ b → floor a n ≤ℤ floor b n
floor_mono a b n h le = floor_most b (floor a n) n h (≤ℤ_trans (floor_below a n h) le)

pub floor-times : (n : ℕ) (z : ℤ) → 0 < n → floor (times n z) n ≡ z
floor-times n z h = let up_to = floor_most (times n z) z n h (≤ℤ_refl (times n z)) in let k = times_cancel n (floor (times n z) n) (z +ℤ pos 1) (let low = floor_below (times n z) n h in let one = times-add n z (pos 1) in omega (arith, ints, low, one)) in omega (arith, ints, k)

pub +ℤ-*ℤ : (a b z : ℤ) → (a +ℤ b) *ℤ z ≡ a *ℤ z +ℤ b *ℤ z
+ℤ-*ℤ a b z = omega (arith, ints, ap (λ (t : ℕ). t * up z) (sum_is_lem a b), ap (λ (t : ℕ). t * down z) (sum_is_lem a b))

-- ---- sums
pub sum_below_mono : (n : ℕ) (f g : ℕ → ℤ) → ((k : ℕ) → k < n → f k ≤ℤ g k) → sum_below n f ≤ℤ sum_below n g
unfolding sum_below
sum_below_mono zero f g h = ≤ℤ_refl (pos 0)
sum_below_mono (suc n) f g h = let first = sum_below_mono n f g (λ k less. h k (omega arith)) in let last = h n (omega arith) in omega (arith, ints)

pub sum_below-add : (n : ℕ) (f g : ℕ → ℤ) → sum_below n (λ k. f k +ℤ g k) ≡ sum_below n f +ℤ sum_below n g
unfolding sum_below
sum_below-add zero f g = refl
sum_below-add (suc n) f g = let e = sum_below-add n f g in omega (arith, ints, e)

pub sum_below-times : (n m : ℕ) (f : ℕ → ℤ) → sum_below n (λ k. times m (f k)) ≡ times m (sum_below n f)
unfolding sum_below
sum_below-times zero m f = sym (times-zero m)
sum_below-times (suc n) m f = ap (λ (t : ℤ). t +ℤ times m (f n)) (sum_below-times n m f) ∙ sym (times-add m (sum_below n f) (f n))

pub sum_below_same : (n : ℕ) (f g : ℕ → ℤ) → ((k : ℕ) → k < n → f k ≡ g k) → sum_below n f ≡ sum_below n g
unfolding sum_below
sum_below_same zero f g h = refl
sum_below_same (suc n) f g h = let first = sum_below_same n f g (λ k less. h k (omega arith)) in let last = h n (omega arith) in (λ i. first i +ℤ last i)
