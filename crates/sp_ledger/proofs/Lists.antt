-- One list more.
use Rattle.std.proofs.Common.{◌≡◌, ℕ, ◌+◌, ◌<◌, ◌≤◌, ⊎_elim, List, [], ◌∷◌, ◌++◌, length, get_or, Option, IfSome, sym, subst, arith}
use Rattle.std.proofs.lemmas.Bool.{cases_lt}
use Rattle.std.proofs.lemmas.List.{get_or_append_left, get_or_push}
use Rattle.sp_states.specs.declared.support.SupportList.{SupportList}
use Rattle.sp_value.specs.Tasks.{TaskParts, sampled_func}

pub lists_more : (t : TaskParts) (n : ℕ) (lists more : List (Option SupportList)) (one : Option SupportList) → length lists ≡ n → more ≡ lists ++ one ∷ []
    → ((k : ℕ) (d : Option SupportList) → k < n → IfSome (get_or lists k d) (λ l. l ≡ sampled_func t k)) → IfSome one (λ l. l ≡ sampled_func t n)
    → (k : ℕ) (d : Option SupportList) → k < n + 1 → IfSome (get_or more k d) (λ l. l ≡ sampled_func t k)
lists_more t n lists more one long is each last k d less =
    let Is : ℕ → Option SupportList → Type 0 = λ j o. IfSome o (λ l. l ≡ sampled_func t j) in
    subst (λ (xs : List (Option SupportList)). Is k (get_or xs k d)) (sym is)
    (⊎_elim
    (λ (low : k < n). subst (Is k) (sym (get_or_append_left lists (one ∷ []) d k (omega arith))) (each k d low))
    (λ (high : n ≤ k).
    (let at : length lists ≡ k = omega arith in
    let same : n ≡ k = omega arith in
    subst (Is k) (sym (get_or_push lists one d k at)) (subst (λ j. Is j one) same last)))
    (cases_lt k n))
