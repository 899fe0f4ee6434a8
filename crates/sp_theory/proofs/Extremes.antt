-- The least and the greatest of numbers in a row and over all points, and tests at all of them.
use Rattle.std.proofs.Common.{◌≡◌, ℕ, zero, suc, ◌<◌, List, [], ◌∷◌, refl, ap, ◌∙◌, arith, Bool, true, false, ◌&&◌, ◌⊎◌, inl, inr, ⊎_elim}
use Rattle.std.specs.Prelude.{ℤ, ◌≤ℤ◌}
use Rattle.std.proofs.lemmas.Int.{ints, clamps}
use lib.Signed.{≤ℤ_refl}
use Rattle.sp_theory.specs.Sums.{least_below, greatest_below, holds_below}
use Rattle.sp_theory.specs.Points.{IsPoint, count_of, least_over, greatest_over, holds_over}
use Rattle.sp_theory.proofs.Whole.{≤ℤ_trans}
use Rattle.sp_theory.proofs.Numbers.{some_of_each}
use Rattle.sp_theory.proofs.Order.{by_order, min_case, max_case}

-- ---- numbers in a row
pub least_below_first : (n : ℕ) (f : ℕ → ℤ) → least_below n f ≤ℤ f 0
unfolding least_below
least_below_first zero f = ≤ℤ_refl (f 0)
least_below_first (suc n) f = let first = least_below_first n f in omega (arith, ints, clamps, first)

pub least_below_low : (n : ℕ) (f : ℕ → ℤ) (k : ℕ) → k < n → least_below n f ≤ℤ f k
unfolding least_below
least_below_low zero f k less = absurd (omega arith)
least_below_low (suc n) f k less =
    by_order k n (λ before. let low = least_below_low n f k before in omega (arith, ints, clamps, low))
    (λ last. let same = ap f last in omega (arith, ints, clamps, same))
    (λ past. absurd (omega arith))

pub least_below_from : (n : ℕ) (f : ℕ → ℤ) (z : ℤ) → z ≤ℤ f 0 → ((k : ℕ) → k < n → z ≤ℤ f k) → z ≤ℤ least_below n f
unfolding least_below
least_below_from zero f z first low = first
least_below_from (suc n) f z first low = min_case (λ y. z ≤ℤ y) _ _ (least_below_from n f z first (λ k less. low k (omega arith))) (low n (omega arith))

pub greatest_below_first : (n : ℕ) (f : ℕ → ℤ) → f 0 ≤ℤ greatest_below n f
unfolding greatest_below
greatest_below_first zero f = ≤ℤ_refl (f 0)
greatest_below_first (suc n) f = let first = greatest_below_first n f in omega (arith, ints, clamps, first)

pub greatest_below_high : (n : ℕ) (f : ℕ → ℤ) (k : ℕ) → k < n → f k ≤ℤ greatest_below n f
unfolding greatest_below
greatest_below_high zero f k less = absurd (omega arith)
greatest_below_high (suc n) f k less =
    by_order k n (λ before. let high = greatest_below_high n f k before in omega (arith, ints, clamps, high))
    (λ last. let same = ap f last in omega (arith, ints, clamps, same))
    (λ past. absurd (omega arith))

pub greatest_below_to : (n : ℕ) (f : ℕ → ℤ) (z : ℤ) → f 0 ≤ℤ z → ((k : ℕ) → k < n → f k ≤ℤ z) → greatest_below n f ≤ℤ z
unfolding greatest_below
greatest_below_to zero f z first high = first
greatest_below_to (suc n) f z first high = max_case (λ y. y ≤ℤ z) _ _ (greatest_below_to n f z first (λ k less. high k (omega arith))) (high n (omega arith))

-- ---- over all points
pub least_over_low : (ks : List ℕ) (f : List ℕ → ℤ) (xs : List ℕ) → IsPoint ks xs → least_over ks f ≤ℤ f xs
unfolding least_over
least_over_low [] f [] p = ≤ℤ_refl (f [])
least_over_low (k ∷ ks) f (x ∷ xs) (less, p) = ≤ℤ_trans (least_below_low k _ x less) (least_over_low ks (λ ys. f (x ∷ ys)) xs p)
least_over_low [] f (x ∷ xs) p = absurd p
least_over_low (k ∷ ks) f [] p = absurd p

pub greatest_over_high : (ks : List ℕ) (f : List ℕ → ℤ) (xs : List ℕ) → IsPoint ks xs → f xs ≤ℤ greatest_over ks f
unfolding greatest_over
greatest_over_high [] f [] p = ≤ℤ_refl (f [])
greatest_over_high (k ∷ ks) f (x ∷ xs) (less, p) = ≤ℤ_trans (greatest_over_high ks (λ ys. f (x ∷ ys)) xs p) (greatest_below_high k _ x less)
greatest_over_high [] f (x ∷ xs) p = absurd p
greatest_over_high (k ∷ ks) f [] p = absurd p

-- where there is a point, a lower bound at all points is one of the least
pub least_over_from : (ks : List ℕ) (f : List ℕ → ℤ) (z : ℤ) (some : List ℕ) → IsPoint ks some → ((xs : List ℕ) → IsPoint ks xs → z ≤ℤ f xs) → z ≤ℤ least_over ks f
unfolding least_over
least_over_from [] f z [] p low = low [] tt
least_over_from (k ∷ ks) f z (x ∷ xs) (less, p) low = let at = (λ (y : ℕ) (within : y < k). least_over_from ks (λ ys. f (y ∷ ys)) z xs p (λ ys o. low (y ∷ ys) (within, o))) in least_below_from k _ z (at 0 (omega arith)) at
least_over_from [] f z (x ∷ xs) p low = absurd p
least_over_from (k ∷ ks) f z [] p low = absurd p

pub greatest_over_to : (ks : List ℕ) (f : List ℕ → ℤ) (z : ℤ) (some : List ℕ) → IsPoint ks some → ((xs : List ℕ) → IsPoint ks xs → f xs ≤ℤ z) → greatest_over ks f ≤ℤ z
unfolding greatest_over
greatest_over_to [] f z [] p high = high [] tt
greatest_over_to (k ∷ ks) f z (x ∷ xs) (less, p) high = let at = (λ (y : ℕ) (within : y < k). greatest_over_to ks (λ ys. f (y ∷ ys)) z xs p (λ ys o. high (y ∷ ys) (within, o))) in greatest_below_to k _ z (at 0 (omega arith)) at
greatest_over_to [] f z (x ∷ xs) p high = absurd p
greatest_over_to (k ∷ ks) f z [] p high = absurd p

-- the least is at most the greatest, of another function that is nowhere less
pub least_over-le-greatest_over : (ks : List ℕ) (f g : List ℕ → ℤ) → ((xs : List ℕ) → f xs ≤ℤ g xs) → least_over ks f ≤ℤ greatest_over ks g
unfolding least_over greatest_over
least_over-le-greatest_over [] f g h = h []
least_over-le-greatest_over (k ∷ ks) f g h = ≤ℤ_trans (least_below_first k _) (≤ℤ_trans (least_over-le-greatest_over ks (λ xs. f (0 ∷ xs)) (λ xs. g (0 ∷ xs)) (λ xs. h (0 ∷ xs))) (greatest_below_first k (λ x. greatest_over ks (λ xs. g (x ∷ xs)))))

-- ---- the least and the greatest are reached
least_below_reached : (n : ℕ) (f : ℕ → ℤ) → (k : ℕ) × ((k < n) ⊎ (k ≡ 0)) × (f k ≡ least_below n f)
unfolding least_below
least_below_reached zero f = (0, inr refl, refl)
least_below_reached (suc n) f = min_case (λ z. (k : ℕ) × ((k < suc n) ⊎ (k ≡ 0)) × (f k ≡ z)) _ _ (let (k, within, e) = least_below_reached n f in (k, ⊎_elim (λ less. inl (omega arith)) inr within, e)) (n, inl (omega arith), refl)

greatest_below_reached : (n : ℕ) (f : ℕ → ℤ) → (k : ℕ) × ((k < n) ⊎ (k ≡ 0)) × (f k ≡ greatest_below n f)
unfolding greatest_below
greatest_below_reached zero f = (0, inr refl, refl)
greatest_below_reached (suc n) f = max_case (λ z. (k : ℕ) × ((k < suc n) ⊎ (k ≡ 0)) × (f k ≡ z)) _ _ (let (k, within, e) = greatest_below_reached n f in (k, ⊎_elim (λ less. inl (omega arith)) inr within, e)) (n, inl (omega arith), refl)

pub least_reached : (n : ℕ) (f : ℕ → ℤ) → 0 < n → (k : ℕ) × (k < n) × (f k ≡ least_below n f)
least_reached n f some = let (k, within, e) = least_below_reached n f in (k, ⊎_elim (λ less. less) (λ first. omega arith) within, e)

pub greatest_reached : (n : ℕ) (f : ℕ → ℤ) → 0 < n → (k : ℕ) × (k < n) × (f k ≡ greatest_below n f)
greatest_reached n f some = let (k, within, e) = greatest_below_reached n f in (k, ⊎_elim (λ less. less) (λ first. omega arith) within, e)

pub least_over_reached : (ks : List ℕ) (f : List ℕ → ℤ) → 0 < count_of ks → (xs : List ℕ) × IsPoint ks xs × (f xs ≡ least_over ks f)
unfolding least_over
least_over_reached [] f some = ([], tt, refl)
least_over_reached (k ∷ ks) f some =
    let both = some_of_each k ks some in
    let (x, less, e) = least_reached k (λ x. least_over ks (λ xs. f (x ∷ xs))) both.0 in
    let (xs, p, e') = least_over_reached ks (λ xs. f (x ∷ xs)) both.1 in
    (x ∷ xs, (less, p), e' ∙ e)

pub greatest_over_reached : (ks : List ℕ) (f : List ℕ → ℤ) → 0 < count_of ks → (xs : List ℕ) × IsPoint ks xs × (f xs ≡ greatest_over ks f)
unfolding greatest_over
greatest_over_reached [] f some = ([], tt, refl)
greatest_over_reached (k ∷ ks) f some =
    let both = some_of_each k ks some in
    let (x, less, e) = greatest_reached k (λ x. greatest_over ks (λ xs. f (x ∷ xs))) both.0 in
    let (xs, p, e') = greatest_over_reached ks (λ xs. f (x ∷ xs)) both.1 in
    (x ∷ xs, (less, p), e' ∙ e)

-- ---- tests
pub both : (a b : Bool) → (a && b) ≡ true → (a ≡ true) × (b ≡ true)
both true true e = (refl, refl)
both true false e = absurd (cc)
both false b e = absurd (cc)

pub holds_below_at : (n : ℕ) (test : ℕ → Bool) → holds_below n test ≡ true → (k : ℕ) → k < n → test k ≡ true
unfolding holds_below
holds_below_at zero test e k less = absurd (omega arith)
holds_below_at (suc n) test e k less =
    let two = both (holds_below n test) (test n) e in
    by_order k n (λ before. holds_below_at n test two.0 k before) (λ last. ap test last ∙ two.1) (λ past. absurd (omega arith))

pub holds_below_all : (n : ℕ) (test : ℕ → Bool) → ((k : ℕ) → k < n → test k ≡ true) → holds_below n test ≡ true
unfolding holds_below
holds_below_all zero test h = refl
holds_below_all (suc n) test h = (λ i. holds_below_all n test (λ k less. h k (omega arith)) i && h n (omega arith) i)

pub holds_below_not : (n : ℕ) (test : ℕ → Bool) → holds_below n test ≡ false → (k : ℕ) × (k < n) × (test k ≡ false)
unfolding holds_below
holds_below_not zero test e = absurd (cc)
holds_below_not (suc n) test e = ⊎_elim (λ f. let (k, less, down) = holds_below_not n test f in (k, omega arith, down)) (λ f. (n, omega arith, f)) (either (holds_below n test) (test n) e)
  where
    either : (a b : Bool) → (a && b) ≡ false → (a ≡ false) ⊎ (b ≡ false)
    either true b e = inr e
    either false b e = inl refl

pub holds_over_at : (ks : List ℕ) (test : List ℕ → Bool) → holds_over ks test ≡ true → (xs : List ℕ) → IsPoint ks xs → test xs ≡ true
unfolding holds_over
holds_over_at [] test e [] p = e
holds_over_at (k ∷ ks) test e (x ∷ xs) (less, p) = holds_over_at ks (λ ys. test (x ∷ ys)) (holds_below_at k _ e x less) xs p
holds_over_at [] test e (x ∷ xs) p = absurd p
holds_over_at (k ∷ ks) test e [] p = absurd p

pub holds_over_all : (ks : List ℕ) (test : List ℕ → Bool) → ((xs : List ℕ) → IsPoint ks xs → test xs ≡ true) → holds_over ks test ≡ true
unfolding holds_over
holds_over_all [] test h = h [] tt
holds_over_all (k ∷ ks) test h = holds_below_all k _ (λ x less. holds_over_all ks (λ xs. test (x ∷ xs)) (λ xs p. h (x ∷ xs) (less, p)))
