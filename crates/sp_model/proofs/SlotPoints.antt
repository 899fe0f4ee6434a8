-- Points of slots, made of states, next states and observed values.
use Rattle.std.proofs.Common.{◌≡◌, ℕ, zero, suc, ◌+◌, ◌-◌, ◌*◌, ◌<◌, ◌≤◌, inl, inr, ⊎_elim, refl, ◌∙◌, ap, subst, arith, List, [], ◌∷◌, ◌++◌, length, get_or, set}
use Rattle.std.proofs.lemmas.Bool.{cases_lt}
use Rattle.sp_dd.specs.Points as slots
use Rattle.sp_dd.specs.Func.{Func, value_of, IsPointOf, IsIndependentOf}
use Rattle.sp_dd.proofs.IndependenceLemmas.{agree_same}
use Rattle.sp_theory.specs.Points as theory
use Rattle.sp_model.specs.Sizes.{AllSome}
use Rattle.sp_model.specs.Problem.{twice_each, first_numbers, in_turn}

-- values of the first variables, each below its size
abbrev pub Fits : List ℕ → List ℕ → Type 0
Fits [] [] = Unit {0}
Fits [] (x ∷ xs) = ⊥
Fits (k ∷ ks) [] = Unit {0}
Fits (k ∷ ks) (x ∷ xs) = (x < k) × Fits ks xs

pub Fits-point : (ks xs : List ℕ) → theory.IsPoint ks xs → Fits ks xs
Fits-point [] [] p = tt
Fits-point [] (x ∷ xs) p = absurd p
Fits-point (k ∷ ks) [] p = absurd p
Fits-point (k ∷ ks) (x ∷ xs) p = (p.0, Fits-point ks xs p.1)

pub Fits-none : (ks : List ℕ) → Fits ks []
Fits-none [] = tt
Fits-none (k ∷ ks) = tt

pub Fits-push : (ks xs : List ℕ) (x : ℕ) → Fits ks xs → length xs < length ks → x < get_or ks (length xs) 0 → Fits ks (xs ++ x ∷ [])
Fits-push [] xs x p less h = absurd (omega arith)
Fits-push (k ∷ ks) [] x p less h = (h, Fits-none ks)
Fits-push (k ∷ ks) (y ∷ xs) x p less h = (p.0, Fits-push ks xs x p.1 (omega arith) h)

pub padded-point : (ks xs : List ℕ) → AllSome ks → Fits ks xs → theory.IsPoint ks (first_numbers (length ks) xs)
padded-point [] [] some p = tt
padded-point [] (x ∷ xs) some p = absurd p
padded-point (k ∷ ks) [] some p = (some.0, padded-point ks [] some.1 (Fits-none ks))
padded-point (k ∷ ks) (x ∷ xs) some p = (p.0, padded-point ks xs some.1 p.1)

pub padded-whole : (ks xs : List ℕ) → theory.IsPoint ks xs → first_numbers (length ks) xs ≡ xs
padded-whole [] [] p = refl
padded-whole [] (x ∷ xs) p = absurd p
padded-whole (k ∷ ks) [] p = absurd p
padded-whole (k ∷ ks) (x ∷ xs) p = ap (λ (l : List ℕ). x ∷ l) (padded-whole ks xs p.1)

pub length-padded : (n : ℕ) (xs : List ℕ) → length (first_numbers n xs) ≡ n
length-padded zero xs = refl
length-padded (suc n) [] = ap suc (length-padded n [])
length-padded (suc n) (x ∷ xs) = ap suc (length-padded n xs)

pub length-point : (ks xs : List ℕ) → theory.IsPoint ks xs → length xs ≡ length ks
length-point [] [] p = refl
length-point [] (x ∷ xs) p = absurd p
length-point (k ∷ ks) [] p = absurd p
length-point (k ∷ ks) (x ∷ xs) p = ap suc (length-point ks xs p.1)

-- ---- points
same-point : (ks xs : List ℕ) → theory.IsPoint ks xs → slots.IsPoint ks xs
same-point [] [] p = tt
same-point [] (x ∷ xs) p = absurd p
same-point (k ∷ ks) [] p = absurd p
same-point (k ∷ ks) (x ∷ xs) p = (p.0, same-point ks xs p.1)

point-same : (ks xs : List ℕ) → slots.IsPoint ks xs → theory.IsPoint ks xs
point-same [] [] p = tt
point-same [] (x ∷ xs) p = absurd p
point-same (k ∷ ks) [] p = absurd p
point-same (k ∷ ks) (x ∷ xs) p = (p.0, point-same ks xs p.1)

pub in_turn-point : (ks s t js z : List ℕ) → theory.IsPoint ks s → theory.IsPoint ks t → theory.IsPoint js z → slots.IsPoint (twice_each ks ++ js) (in_turn s t ++ z)
in_turn-point [] [] t js z p q r = same-point js z r
in_turn-point [] (x ∷ s) t js z p q r = absurd p
in_turn-point (k ∷ ks) [] t js z p q r = absurd p
in_turn-point (k ∷ ks) (x ∷ s) [] js z p q r = absurd q
in_turn-point (k ∷ ks) (x ∷ s) (y ∷ t) js z p q r = (p.0, (q.0, in_turn-point ks s t js z p.1 q.1 r))

-- a point as a state, a next state and observed values
pub record IsSplit (ks js x : List ℕ) : Type 0 where
  pub state : List ℕ
  pub next : List ℕ
  pub seen : List ℕ
  pub at : theory.IsPoint ks state
  pub to : theory.IsPoint ks next
  pub sees : theory.IsPoint js seen
  pub whole : in_turn state next ++ seen ≡ x

pub split : (ks js x : List ℕ) → slots.IsPoint (twice_each ks ++ js) x → IsSplit ks js x
split [] js x p = record { state = []; next = []; seen = x; at = tt; to = tt; sees = point-same js x p; whole = refl }
split (k ∷ ks) js [] p = absurd p
split (k ∷ ks) js (a ∷ []) p = absurd p.1
split (k ∷ ks) js (a ∷ b ∷ x) p =
    let rest = split ks js x p.1.1 in
    record { state = a ∷ rest.state; next = b ∷ rest.next; seen = rest.seen; at = (p.0, rest.at); to = (p.1.0, rest.to); sees = rest.sees; whole = ap (λ (l : List ℕ). a ∷ b ∷ l) rest.whole }

-- ---- one slot with another value
pub set-primed : (n : ℕ) (s ps z : List ℕ) (v : ℕ) → length s ≡ n → length ps < n → set (in_turn s (first_numbers n ps) ++ z) (2 * length ps + 1) v ≡ in_turn s (first_numbers n (ps ++ v ∷ [])) ++ z
set-primed zero s ps z v e h = absurd (omega arith)
set-primed (suc n) [] ps z v e h = absurd (omega arith)
set-primed (suc n) (x ∷ s) [] z v e h = refl
set-primed (suc n) (x ∷ s) (y ∷ ps) z v e h =
    let next : 2 * suc (length ps) + 1 ≡ suc (suc (2 * length ps + 1)) = omega arith in
    ap (λ (k : ℕ). set (x ∷ y ∷ (in_turn s (first_numbers n ps) ++ z)) k v) next
    ∙ ap (λ (l : List ℕ). x ∷ y ∷ l) (set-primed n s ps z v (omega arith) (omega arith))

pub set-seen : (a : List ℕ) (m : ℕ) (ps : List ℕ) (v : ℕ) → length ps < m → set (a ++ first_numbers m ps) (length a + length ps) v ≡ a ++ first_numbers m (ps ++ v ∷ [])
set-seen (x ∷ a) m ps v h =
    let next : suc (length a) + length ps ≡ suc (length a + length ps) = omega arith in
    ap (λ (k : ℕ). set (x ∷ (a ++ first_numbers m ps)) k v) next ∙ ap (λ (l : List ℕ). x ∷ l) (set-seen a m ps v h)
set-seen [] zero ps v h = absurd (omega arith)
set-seen [] (suc m) [] v h = refl
set-seen [] (suc m) (y ∷ ps) v h =
    let next : 0 + suc (length ps) ≡ suc (0 + length ps) = omega arith in
    ap (λ (k : ℕ). set (y ∷ first_numbers m ps) k v) next ∙ ap (λ (l : List ℕ). y ∷ l) (set-seen [] m ps v (omega arith))

pub set-unprimed : (s t z : List ℕ) (i v : ℕ) → length s ≡ length t → i < length s → set (in_turn s t ++ z) (2 * i) v ≡ in_turn (theory.put s i v) t ++ z
set-unprimed [] t z i v e h = absurd (omega arith)
set-unprimed (x ∷ s) [] z i v e h = absurd (omega arith)
set-unprimed (x ∷ s) (y ∷ t) z zero v e h = refl
set-unprimed (x ∷ s) (y ∷ t) z (suc i) v e h =
    let next : 2 * suc i ≡ suc (suc (2 * i)) = omega arith in
    ap (λ (k : ℕ). set (x ∷ y ∷ (in_turn s t ++ z)) k v) next
    ∙ ap (λ (l : List ℕ). x ∷ y ∷ l) (set-unprimed s t z i v (omega arith) (omega arith))

-- ---- sizes of slots
pub size-unprimed : (ks js : List ℕ) (i : ℕ) → i < length ks → get_or (twice_each ks ++ js) (2 * i) 0 ≡ get_or ks i 0
size-unprimed [] js i h = absurd (omega arith)
size-unprimed (k ∷ ks) js zero h = refl
size-unprimed (k ∷ ks) js (suc i) h =
    let next : 2 * suc i ≡ suc (suc (2 * i)) = omega arith in
    ap (λ (n : ℕ). get_or (k ∷ k ∷ (twice_each ks ++ js)) n 0) next ∙ size-unprimed ks js i (omega arith)

pub size-primed : (ks js : List ℕ) (i : ℕ) → i < length ks → get_or (twice_each ks ++ js) (2 * i + 1) 0 ≡ get_or ks i 0
size-primed [] js i h = absurd (omega arith)
size-primed (k ∷ ks) js zero h = refl
size-primed (k ∷ ks) js (suc i) h =
    let next : 2 * suc i + 1 ≡ suc (suc (2 * i + 1)) = omega arith in
    ap (λ (n : ℕ). get_or (k ∷ k ∷ (twice_each ks ++ js)) n 0) next ∙ size-primed ks js i (omega arith)

pub size-seen : (ks js : List ℕ) (j : ℕ) → get_or (twice_each ks ++ js) (2 * length ks + j) 0 ≡ get_or js j 0
size-seen [] js j = let next : 2 * 0 + j ≡ j = omega arith in ap (λ (n : ℕ). get_or js n 0) next
size-seen (k ∷ ks) js j =
    let next : 2 * suc (length ks) + j ≡ suc (suc (2 * length ks + j)) = omega arith in
    ap (λ (n : ℕ). get_or (k ∷ k ∷ (twice_each ks ++ js)) n 0) next ∙ size-seen ks js j

pub length-doubled : (ks js : List ℕ) → length (twice_each ks ++ js) ≡ 2 * length ks + length js
length-doubled [] js = omega arith
length-doubled (k ∷ ks) js = let rest = length-doubled ks js in omega (arith, rest)

pub length-in_turn : (s t : List ℕ) → length s ≡ length t → length (in_turn s t) ≡ 2 * length s
length-in_turn [] t e = refl
length-in_turn (x ∷ s) [] e = absurd (omega arith)
length-in_turn (x ∷ s) (y ∷ t) e = let same : length s ≡ length t = omega arith in let rest = length-in_turn s t same in omega (arith, rest)

-- ---- functions that don't depend on what is observed
front : (a z y : List ℕ) (j : ℕ) → j < length a → get_or (a ++ z) j 0 ≡ get_or (a ++ y) j 0
front [] z y j h = absurd (omega arith)
front (x ∷ a) z y zero h = refl
front (x ∷ a) z y (suc j) h = front a z y j (omega arith)

pub seen_free : (f : Func) (n : ℕ) (a z y : List ℕ) → length a ≡ 2 * n → IsPointOf f (a ++ z) → IsPointOf f (a ++ y) → ((j : ℕ) → 2 * n + j < length f.shape.sizes → IsIndependentOf f (2 * n + j)) → value_of f (a ++ z) ≡ value_of f (a ++ y)
seen_free f n a z y e p r free =
    agree_same f (a ++ z) (a ++ y) p r
    (λ j h. ⊎_elim (λ (less : j < 2 * n). inr (front a z y j (omega arith)))
    (λ (more : 2 * n ≤ j). let same : 2 * n + (j - 2 * n) ≡ j = omega arith in let P : ℕ → Type 0 = λ k. IsIndependentOf f k in inl (subst P same (free (j - 2 * n) (omega arith))))
    (cases_lt j (2 * n)))
