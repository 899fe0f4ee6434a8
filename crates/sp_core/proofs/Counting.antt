-- The numbers below n that pass a test, in order.
use Rattle.std.proofs.Common.{◌≡◌, ◌∙◌, sym, ap, refl, subst, arith, ℕ, zero, suc, ◌+◌, ◌<◌, List, [], ◌∷◌, ◌++◌, length, get_or, Bool, true, false, cond, add-zero, length-append}
use Rattle.std.specs.Prelude.{filter}
use Rattle.std.specs.List.{range_with_len}
use Rattle.std.proofs.Math.ListN.{get_or-append}
use Rattle.std.proofs.Math.Seq.{get_or-append_seam}
use Rattle.std.proofs.lemmas.List.Elements.{filter-append}
use Rattle.sp_theory.proofs.Order.{by_order}
use Rattle.sp_core.specs.Marks.{is_free, neither_below, neither}

range_more : (a n b : ℕ) → a + n ≡ b → range_with_len a (suc n) ≡ range_with_len a n ++ b ∷ []
range_more a zero b e = ap (λ (k : ℕ). k ∷ []) (sym (add-zero a) ∙ e)
range_more a (suc n) b e = ap (λ (ks : List ℕ). a ∷ ks) (range_more (a + 1) n b (omega (arith, e)))

-- with the next number, if it passes
pub filter_more : (p : ℕ → Bool) (n : ℕ) → filter p (range_with_len 0 (suc n)) ≡ filter p (range_with_len 0 n) ++ cond (p n) (n ∷ []) []
filter_more p n = ap (filter p) (range_more 0 n n (omega arith)) ∙ filter-append p (range_with_len 0 n) (n ∷ [])

-- tests that agree on them pass the same ones
pub filter_same : (p q : ℕ → Bool) (n : ℕ) → ((k : ℕ) → k < n → p k ≡ q k) → filter p (range_with_len 0 n) ≡ filter q (range_with_len 0 n)
filter_same p q zero same = refl
filter_same p q (suc n) same = filter_more p n ∙ (λ h. filter_same p q n (λ k less. same k (omega arith)) h ++ cond (same n (omega arith) h) (n ∷ []) []) ∙ sym (filter_more q n)

-- the number that passes stands behind those before it
pub stands_at : (p : ℕ → Bool) (k n : ℕ) → k < n → p k ≡ true
    → (length (filter p (range_with_len 0 k)) < length (filter p (range_with_len 0 n))) × (get_or (filter p (range_with_len 0 n)) (length (filter p (range_with_len 0 k))) 0 ≡ k)
stands_at p k zero less e = absurd (omega arith)
stands_at p k (suc n) less e =
    subst (λ (ks : List ℕ). (length (filter p (range_with_len 0 k)) < length ks) × (get_or ks (length (filter p (range_with_len 0 k))) 0 ≡ k)) (sym (filter_more p n))
    (by_order k n
    (λ before.
    let (within, at) = stands_at p k n before e in
    (omega (arith, within, length-append (filter p (range_with_len 0 n)) (cond (p n) (n ∷ []) [])), get_or-append (filter p (range_with_len 0 n)) (cond (p n) (n ∷ []) []) 0 (length (filter p (range_with_len 0 k))) within ∙ at))
    (λ last.
    subst (λ (i : ℕ). (length (filter p (range_with_len 0 i)) < length (filter p (range_with_len 0 n) ++ cond (p n) (n ∷ []) [])) × (get_or (filter p (range_with_len 0 n) ++ cond (p n) (n ∷ []) []) (length (filter p (range_with_len 0 i))) 0 ≡ i)) (sym last)
    (subst (λ (c : Bool). (length (filter p (range_with_len 0 n)) < length (filter p (range_with_len 0 n) ++ cond c (n ∷ []) [])) × (get_or (filter p (range_with_len 0 n) ++ cond c (n ∷ []) []) (length (filter p (range_with_len 0 n))) 0 ≡ n)) (sym e ∙ ap p last)
    (omega (arith, length-append (filter p (range_with_len 0 n)) (n ∷ [])), get_or-append_seam (filter p (range_with_len 0 n)) n [] 0)))
    (λ past. absurd (omega arith)))

pub counted_more : (marks others : List Bool) (k : ℕ) → length (neither_below (k + 1) marks others) ≡ length (neither_below k marks others) + cond (is_free marks others k) 1 0
counted_more marks others k =
    let next : suc k ≡ k + 1 = omega arith in
    subst (λ (n : ℕ). length (neither_below n marks others) ≡ length (neither_below k marks others) + cond (is_free marks others k) 1 0) next
    (ap (λ (ks : List ℕ). length ks) (filter_more (is_free marks others) k) ∙ length-append (neither_below k marks others) (cond (is_free marks others k) (k ∷ []) [])
    ∙ ap (λ (n : ℕ). length (neither_below k marks others) + n) (by_test (is_free marks others k)))
  where
    by_test : (b : Bool) → length (cond b (k ∷ []) []) ≡ cond b 1 0
    by_test true = refl
    by_test false = refl

pub found_at : (marks others : List Bool) (place k : ℕ) → k < length marks → is_free marks others k ≡ true → place ≡ length (neither_below k marks others) → get_or (neither marks others) place 0 ≡ k
found_at marks others place k less free e = subst (λ (n : ℕ). get_or (neither marks others) n 0 ≡ k) (sym e) (stands_at (is_free marks others) k (length marks) less free).1
