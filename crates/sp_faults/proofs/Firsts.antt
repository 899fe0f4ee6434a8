-- The first of clauses that is broken.
use Rattle.std.proofs.Common.{◌≡◌, ◌≢◌, ◌∙◌, ◌⊎◌, eqb, refl, sym, inl, inr, ℕ, List, [], ◌∷◌, true, false}
use Rattle.std.proofs.lemmas.Bool.Decides.{eqb_tells}
use Rattle.sp_faults.specs.Clauses.{Clause, IsFirstClause}

-- it is one
pub first_one : (P : Clause → Type 0) (xs : List Clause) (c d : Clause) → IsFirstClause P xs c → IsFirstClause P xs d → c ≡ d
first_one P [] c d f g = absurd f
first_one P (x ∷ xs) c d (inl (e, p)) (inl (h, r)) = e ∙ sym h
first_one P (x ∷ xs) c d (inl (e, p)) (inr (un, rest)) = absurd (un p)
first_one P (x ∷ xs) c d (inr (un, rest)) (inl (h, r)) = absurd (un r)
first_one P (x ∷ xs) c d (inr (un, f)) (inr (un2, g)) = first_one P xs c d f g

-- where clauses are broken alike, the first one is the same
pub first_alike : (P R : Clause → Type 0) → ((x : Clause) → P x → R x) → ((x : Clause) → R x → P x) → (xs : List Clause) (c : Clause) → IsFirstClause P xs c → IsFirstClause R xs c
first_alike P R to back [] c f = f
first_alike P R to back (x ∷ xs) c (inl (e, p)) = inl (e, to x p)
first_alike P R to back (x ∷ xs) c (inr (un, f)) = inr (λ r. un (back x r), first_alike P R to back xs c f)

-- where nothing is broken there is no first one
pub first_none : (P : Clause → Type 0) → ((x : Clause) → ¬ P x) → (xs : List Clause) (c : Clause) → ¬ IsFirstClause P xs c
first_none P none [] c f = f
first_none P none (x ∷ xs) c (inl (e, p)) = none x p
first_none P none (x ∷ xs) c (inr (un, f)) = first_none P none xs c f

-- where there is no first one, the first of them isn't broken, and there is none among the others
pub no_first : (P : Clause → Type 0) (x : Clause) (xs : List Clause) → ((c : Clause) → ¬ IsFirstClause P (x ∷ xs) c) → (¬ P x) × ((c : Clause) → ¬ IsFirstClause P xs c)
no_first P x xs none = let un : ¬ P x = λ p. none x (inl (refl, p)) in (un, λ c f. none c (inr (un, f)))

-- of six clauses
pub none_of_six : (P : Clause → Type 0) (a b c d e f : Clause) → ((x : Clause) → ¬ IsFirstClause P (a ∷ b ∷ c ∷ d ∷ e ∷ f ∷ []) x)
    → (¬ P a) × (¬ P b) × (¬ P c) × (¬ P d) × (¬ P e) × (¬ P f)
none_of_six P a b c d e f none =
    let (not_a, after_a) = no_first P a (b ∷ c ∷ d ∷ e ∷ f ∷ []) none in
    let (not_b, after_b) = no_first P b (c ∷ d ∷ e ∷ f ∷ []) after_a in
    let (not_c, after_c) = no_first P c (d ∷ e ∷ f ∷ []) after_b in
    let (not_d, after_d) = no_first P d (e ∷ f ∷ []) after_c in
    let (not_e, after_e) = no_first P e (f ∷ []) after_d in
    (not_a, not_b, not_c, not_d, not_e, (no_first P f [] after_e).0)

-- numbers that aren't different
pub is_same : (i j : ℕ) → ¬ (i ≢ j) → i ≡ j
is_same i j un = by_test (eqb_tells i j)
  where
    by_test : ((eqb i j ≡ true) × (i ≡ j)) ⊎ ((eqb i j ≡ false) × (i ≢ j)) → i ≡ j
    by_test (inl (e, is)) = is
    by_test (inr (e, other)) = absurd (un other)
