-- The number of points as the sizes are met one after another.
use Rattle.std.proofs.Common.{◌≡◌, ℕ, zero, suc, ◌+◌, ◌*◌, ◌<◌, ◌≤◌, refl, sym, ◌∙◌, ap, arith, List, [], ◌∷◌, length, get_or, drop}
use Rattle.std.proofs.Math.Nat.{mul-le-mul_left, mul_assoc}
use Rattle.sp_theory.specs.Points.{count_of}
use Rattle.std.proofs.lemmas.List.{get_or-map}
use Rattle.sp_model.specs.declared.parts.Decl.{Decl}
use Rattle.sp_model.specs.Problem.{sizes_of}
use Rattle.sp_model.specs.Sizes.{AllSome}

pub length-sizes_of : (ds : List Decl) → length (sizes_of ds) ≡ length ds
length-sizes_of [] = refl
length-sizes_of (d ∷ ds) = ap suc (length-sizes_of ds)

pub size_at : (ds : List Decl) (i : ℕ) (d : Decl) → i < length ds → d ≡ get_or ds i d → get_or (sizes_of ds) i 0 ≡ length d.values
size_at ds i d h is = get_or-map (λ d. length d.values) ds i d 0 h ∙ ap (λ (d : Decl). length d.values) (sym is)

pub count_of-some : (ks : List ℕ) → AllSome ks → 0 < count_of ks
count_of-some [] some = omega arith
count_of-some (zero ∷ ks) some = absurd (let none = some.0 in omega arith)
count_of-some (suc k ∷ ks) some = let rest = count_of-some ks some.1 in let more = mul-le-mul_left (count_of ks) (let one : 1 ≤ suc k = omega arith in one) in omega (arith, rest, more)

pub count_of-drop : (ks : List ℕ) (i : ℕ) → i < length ks → count_of (drop i ks) ≡ get_or ks i 0 * count_of (drop (suc i) ks)
count_of-drop [] i h = absurd (omega arith)
count_of-drop (k ∷ ks) zero h = refl
count_of-drop (k ∷ ks) (suc i) h = count_of-drop ks i (omega arith)

pub AllSome-drop : (ks : List ℕ) (i : ℕ) → AllSome ks → AllSome (drop i ks)
AllSome-drop ks zero some = some
AllSome-drop [] (suc i) some = some
AllSome-drop (k ∷ ks) (suc i) some = AllSome-drop ks i some.1

-- a factor of a product whose other factor isn't 0
pub part-le : (n k : ℕ) → 0 < k → n ≤ n * k
part-le n k h = let e = mul-le-mul_left n (let one : 1 ≤ k = omega arith in one) in omega (arith, e)

-- one more size is met
pub count_more : (ks : List ℕ) (i n k : ℕ) → AllSome ks → i < length ks → n * count_of (drop i ks) ≡ count_of ks → k ≡ get_or ks i 0 → ((n * k) * count_of (drop (i + 1) ks) ≡ count_of ks) × (n * k ≤ count_of ks)
count_more ks i n k some less before e =
    let next : i + 1 ≡ suc i = omega arith in
    let rest : count_of (drop (i + 1) ks) ≡ count_of (drop (suc i) ks) = ap (λ (j : ℕ). count_of (drop j ks)) next in
    let whole : (n * k) * count_of (drop (suc i) ks) ≡ count_of ks =
    mul_assoc n k (count_of (drop (suc i) ks)) ∙ ap (λ (j : ℕ). n * (j * count_of (drop (suc i) ks))) e ∙ ap (λ (j : ℕ). n * j) (sym (count_of-drop ks i less)) ∙ before in
    let low = part-le (n * k) (count_of (drop (suc i) ks)) (count_of-some (drop (suc i) ks) (AllSome-drop ks (suc i) some)) in
    (ap (λ (j : ℕ). (n * k) * j) rest ∙ whole, omega (arith, low, whole))

pub times_some : (a b : ℕ) → 0 < a → 0 < b → 0 < a * b
times_some a b h k = let e = part-le a b k in omega (arith, e)
