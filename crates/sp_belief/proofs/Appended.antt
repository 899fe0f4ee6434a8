-- A list with one element more, of whose elements something holds.
use Rattle.std.proofs.Common.{◌≡◌, ℕ, ◌+◌, ◌<◌, ◌≤◌, ⊎_elim, sym, ◌∙◌, ap, subst, arith, List, [], ◌∷◌, ◌++◌, length, get_or, length-append}
use Rattle.std.proofs.lemmas.Bool.{cases_lt}
use Rattle.std.proofs.lemmas.List.{get_or_append_left, get_or_push}

-- what holds of each of the first n elements holds of one more
pub each_pushed : {X : Type 0} (P : ℕ → X → Type 0) (d : X) (n : ℕ) (xs ys : List X) (x : X) → length xs ≡ n → ((k : ℕ) → k < n → P k (get_or xs k d)) → P n x → ys ≡ xs ++ x ∷ []
    → (k : ℕ) → k < n + 1 → P k (get_or ys k d)
each_pushed P d n xs ys x count each is pushed k less = subst (λ zs. P k (get_or zs k d)) (sym pushed)
    (⊎_elim (λ (early : k < n). subst (P k) (sym (get_or_append_left xs (x ∷ []) d k (omega arith))) (each k early))
    (λ (late : n ≤ k). let here : n ≡ k = omega arith in subst (λ (i : ℕ). P i (get_or (xs ++ x ∷ []) k d)) here (subst (P n) (sym (get_or_push xs x d k (count ∙ here))) is))
    (cases_lt k n))

pub count_pushed : {X : Type 0} (n : ℕ) (xs ys : List X) (x : X) → length xs ≡ n → ys ≡ xs ++ x ∷ [] → length ys ≡ n + 1
count_pushed n xs ys x count pushed = ap length pushed ∙ length-append xs (x ∷ []) ∙ ap (λ (k : ℕ). k + 1) count
